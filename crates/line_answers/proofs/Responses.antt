-- A call by a key of 16 bytes on a block of 16 bytes leaves what it was to write.
use mathlib.Core.Path.{◌≡◌, ◌∙◌}
use mathlib.Core.Bool.{true, false}
use mathlib.Core.List.{List}
use Prim.Native.Nat.{ℕ}
use lib.ListN.{length}
use Rattle.answers.specs.Outcome.{Gives}
use Rattle.published.specs.Gift128.{encrypted, decrypted}
use Rattle.published.specs.Calls.{block_code, key_code, CiphersByKey}
use Rattle.gift128.specs.Calls.{order_code, CiphersByKeyIn}

pub leaves : (key block : List ℕ) {new left : List ℕ} {r : ℕ} → length key ≡ 16 → length block ≡ 16
    → Gives (key_code (length key) (length block)) new block r left → left ≡ new
unfolding key_code block_code
leaves key block k b g = g.leaves ∙ (rw (k, b))

-- the cipher in order 0
pub encrypts : (key block : List ℕ) {r : ℕ} {left : List ℕ} → CiphersByKeyIn false 0 key block r left → CiphersByKey false key block r left
unfolding order_code encrypted
encrypts key block g = g

pub decrypts : (key block : List ℕ) {r : ℕ} {left : List ℕ} → CiphersByKeyIn true 0 key block r left → CiphersByKey true key block r left
unfolding order_code decrypted
decrypts key block g = g
