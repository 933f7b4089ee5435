-- In order 0 each call is what it was before there was another: its number, and what it leaves.
use mathlib.Core.Path.{◌≡◌, refl}
use mathlib.Core.Bool.{Bool, true, false, cond}
use mathlib.Core.List.{List}
use Prim.Native.Nat.{ℕ}
use lib.ListN.{length}
use Rattle.answers.specs.Outcome.{Gives}
use Rattle.published.specs.Bytes.{from_bytes, to_bytes}
use Rattle.published.specs.Gift128.{encrypted, decrypted}
use Rattle.published.specs.Calls.{block_code, many_code, CiphersByKey}
use Rattle.gift128.specs.Calls.{order_code, words_code, rounds_by, encrypted_by, all_blocks}
use Rattle.gift128.specs.Calls.{CiphersByKeyIn, CiphersByWordsIn, CiphersBlocksIn, CiphersBlockIn}
use Rattle.gift128.proofs.Answers.{not_refused}

module _ (key words block input output : List ℕ) where
  pub by_key : (back : Bool) → CiphersByKeyIn back 0 key block ≡ CiphersByKey back key block
  unfolding order_code encrypted decrypted
  by_key false = refl
  by_key true = refl

  pub by_words : (back : Bool) → CiphersByWordsIn back 0 words block ≡ Gives (words_code (length words) (length block)) (to_bytes 16 (rounds_by back words (from_bytes block))) block
  unfolding order_code
  by_words back = refl

  pub blocks : (back : Bool) → CiphersBlocksIn back 0 key input output ≡ Gives (many_code 16 (length key) (length input) (length output)) (all_blocks (cond back (decrypted key) (encrypted key)) input) output
  unfolding order_code encrypted decrypted
  blocks false = refl
  blocks true = refl

  pub block_by_its_own : (back : Bool) → CiphersBlockIn back 0 words block ≡ Gives (block_code (length block)) (to_bytes 16 (rounds_by back words (from_bytes block))) block
  unfolding order_code
  block_by_its_own back = refl

-- and by eighty words, a block of sixteen bytes is encrypted by them, never refused
pub encrypts : (ws b : List ℕ) {r : ℕ} {e : List ℕ} → length ws ≡ 80 → length b ≡ 16 → CiphersByWordsIn false 0 ws b r e → e ≡ encrypted_by ws b
unfolding encrypted_by
encrypts ws b w l g = (not_refused 0 ws b refl w l g).1
