-- A block packed, taken through the rounds and unpacked, by round words and by a key; and many blocks.
use mathlib.Core.Path.{◌≡◌, refl, sym, ap, ◌∙◌}
use mathlib.Core.Bool.{Bool, true, false}
use mathlib.Core.List.{List}
use Prim.Native.Nat.{ℕ, ◌*◌, ◌/◌, ◌^◌, ◌<◌}
use native.Mathlib.Nat.{le_of_eq}
use lib.ListN.{length, take}
use lib.Seq.{take_all}
use Rattle.published.specs.Bytes.{from_bytes, to_bytes, Bytes}
use Rattle.published.specs.Rounds.{Pair}
use Rattle.published.specs.Gift64.{pairs_of64, rounds64, unrounds64, encrypted64, decrypted64}
use Rattle.published.specs.Blocks.{each_of, all_of}
use Rattle.published.proofs.Gift64.{block_lt_64}
use Rattle.primitives.specs.declared.State.{State}
use Rattle.primitives.specs.Packed.{block_of64, state_of64}
use Rattle.primitives.proofs.Blocks.{block_from-state_from}
use Rattle.packing.specs.Packing.{packed64, unpacked64}
use Rattle.packing.proofs.Small.{packed-eight, unpacked-eight}
use Rattle.gift64.specs.Inner.{pairs_in, rounds_by, crossed_by, crossed}

block_of_state : (x : ℕ) → x < 2 ^ 64 → block_of64 (state_of64 x) ≡ x
unfolding block_of64 state_of64
block_of_state = block_from-state_from 64 refl

-- what the rounds do to the state, the call does to the bytes: e stands in the output
pub crossing : (back : Bool) (ws : List ℕ) (s t : State) (input output e : List ℕ) → length input ≡ 8 → Bytes input → length output ≡ 8
    → s ≡ packed64 input → block_of64 t ≡ rounds_by back ws (block_of64 s) → e ≡ unpacked64 t output → e ≡ crossed_by back ws input
crossing back ws s t input output e len h len' packs goes unpacks =
    unpacks ∙ unpacked-eight t output len'
    ∙ ap (to_bytes 8) (goes ∙ ap (rounds_by back ws) (ap block_of64 (packs ∙ packed-eight input len) ∙ block_of_state (from_bytes input) (block_lt_64 input len h)))

-- by words that stand for a key's pairs it is the published cipher
pub crossed-key : (back : Bool) (key ws block : List ℕ) → pairs_in 28 0 ws ≡ pairs_of64 key → crossed_by back ws block ≡ crossed back key block
unfolding encrypted64 decrypted64
crossed-key false key ws block e = ap (λ (ps : List Pair). to_bytes 8 (rounds64 ps 0 (from_bytes block))) e
crossed-key true key ws block e = ap (λ (ps : List Pair). to_bytes 8 (unrounds64 ps 0 (from_bytes block))) e

-- all the blocks are written
pub all_written : (f : List ℕ → List ℕ) (input out : List ℕ) (n : ℕ) → n ≡ length input / 8 → 8 * n ≡ length out → take (8 * n) out ≡ each_of 8 f n input → out ≡ all_of 8 f input
unfolding all_of
all_written f input out n e len done = sym (take_all (8 * n) out (le_of_eq (sym len))) ∙ done ∙ ap (λ (m : ℕ). each_of 8 f m input) e
