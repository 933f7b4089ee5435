-- GIFT-64 by the plain engine and by the sliced one: the same, for every key and every block of whatever length: the number, and what stands in the buffer.
-- Said of the contracts as they stand in the two sources: `Post` of a call is what its `ensures` says of the arguments, the answer and the arguments at exit.
use mathlib.Core.Path.{◌≡◌}
use borrow.Fn.Kinds.{Out, Dens, ended_of}
use contract.Lifetimes.{Lfts}
use denote.Triple.Clauses.{AtExit}
use Rattle.answers.specs.Refusals.{number}
use Rattle.answers.proofs.Outcome.{one_outcome}
use Rattle.plain.proofs.encrypt_64_by_key.Kinds.{ps, r}
use Rattle.plain.proofs.encrypt_64_by_key.Reads as plain-encrypts
use Rattle.plain.proofs.decrypt_64_by_key.Reads as plain-decrypts
use Rattle.gift64.proofs.encrypt_by_key.Reads as encrypts
use Rattle.gift64.proofs.decrypt_by_key.Reads as decrypts

-- two calls of a key and a block: what is lent to both is a, and one answers m and leaves s, the other m' and s'; the block is argument 1
abbrev Same64 : Out 2 ps r → Out 2 ps r → Type 0
Same64 P Q =
    (κs : Lfts 2) (a : Dens κs ps) (m m' : _) (s s' : AtExit (ended_of 2 ps r) κs) → P κs a m s → Q κs a m' s' → (number m ≡ number m') × (s.1.0.now ≡ s'.1.0.now)

pub same_encryption_64 : Same64 encrypts.Post plain-encrypts.Post
same_encryption_64 κs a m m' s s' = one_outcome _ _ _ (number m) (number m') s.1.0.now s'.1.0.now

pub same_decryption_64 : Same64 decrypts.Post plain-decrypts.Post
same_decryption_64 κs a m m' s s' = one_outcome _ _ _ (number m) (number m') s.1.0.now s'.1.0.now
