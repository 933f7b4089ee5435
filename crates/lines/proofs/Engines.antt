-- The plain engine and the fixsliced one in order 0 give the same, for every key and every block of whatever length: the number, and what stands in the buffer.
-- Said of the contracts as they stand in the two sources: `Post` of a call is what its `ensures` says of the arguments, the answer and the arguments at exit.
use mathlib.Core.Path.{◌≡◌}
use borrow.Fn.Kinds.{Out, Dens, ended_of}
use contract.Lifetimes.{Lfts}
use denote.Triple.Clauses.{AtExit}
use Rattle.answers.specs.Refusals.{number}
use Rattle.answers.proofs.Outcome.{one_outcome}
use Rattle.published.specs.Gift128.{encrypted, decrypted}
use Rattle.plain.proofs.encrypt_by_key.Kinds.{ps, r}
use Rattle.plain.proofs.encrypt_by_key.Reads as plain-encrypts
use Rattle.plain.proofs.decrypt_by_key.Reads as plain-decrypts
use Rattle.gift128.specs.Calls.{order_code}
use Rattle.gift128.proofs.encrypt_by_key.Reads as encrypts
use Rattle.gift128.proofs.decrypt_by_key.Reads as decrypts

-- two calls of a key and a block: what is lent to both is a, and one answers m and leaves s, the other m' and s'; the block is argument 1
abbrev Same : Out 2 ps r → Out 2 ps r → Type 0
Same P Q =
    (κs : Lfts 2) (a : Dens κs ps) (m m' : _) (s s' : AtExit (ended_of 2 ps r) κs) → P κs a m s → Q κs a m' s' → (number m ≡ number m') × (s.1.0.now ≡ s'.1.0.now)

-- the fixsliced engine's calls, their first argument being order 0
abbrev encrypts_0 : Out 2 ps r
encrypts_0 κs a m s = encrypts.Post κs (0, a) m (0, s)

abbrev decrypts_0 : Out 2 ps r
decrypts_0 κs a m s = decrypts.Post κs (0, a) m (0, s)

pub same_encryption : Same encrypts_0 plain-encrypts.Post
unfolding order_code encrypted
same_encryption κs a m m' s s' = one_outcome _ _ _ (number m) (number m') s.1.0.now s'.1.0.now

pub same_decryption : Same decrypts_0 plain-decrypts.Post
unfolding order_code decrypted
same_decryption κs a m m' s s' = one_outcome _ _ _ (number m) (number m') s.1.0.now s'.1.0.now
