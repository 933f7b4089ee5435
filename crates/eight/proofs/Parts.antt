-- Many blocks in parts of so many bytes: one part more of those that are written, and all of from four to twelve blocks in two parts or three.
use mathlib.Core.Path.{◌≡◌, refl, sym, ap, ◌∙◌}
use mathlib.Core.List.{List, ◌++◌}
use Prim.Native.Nat.{ℕ, ◌+◌, ◌-◌, ◌/◌, ◌%◌, ◌≤◌}
use native.Mathlib.Omega.{arith}
use lib.ListN.{length, take, drop, length-take, length-drop}
use borrow.Rule.Slice.PartMut.{put_mid, same_len_mid}
use Rattle.published.specs.Blocks.{each_of, all_of}
use Rattle.published.proofs.Many.{each_none, one_part}
use Rattle.published.proofs.Parts.{group_more, ended}

-- the part at place a was written, w bytes: the blocks before its end are
pub part_more : (f : List ℕ → List ℕ) (input out new rest : List ℕ) (a w : ℕ) → a % 16 ≡ 0 → w % 16 ≡ 0 → a ≤ length out → a + w ≤ length input → length new ≡ w
    → take a out ≡ each_of 16 f (a / 16) input → new ≡ all_of 16 f (take (a + w - a) (drop a input)) → take (a + w) (take a out ++ (new ++ rest)) ≡ each_of 16 f ((a + w) / 16) input
unfolding all_of
part_more f input out new rest a w ha hw l inside len before here =
    let count : length (take (a + w - a) (drop a input)) / 16 ≡ w / 16 = simp (length-take, length-drop) (omega arith) in
    group_more (w / 16) w (omega arith) f input out new rest a ha l len before (here ∙ ap (λ (n : ℕ). each_of 16 f n (take (a + w - a) (drop a input))) count)

-- ---- the first 64 bytes, the next 64 perhaps, and the last 64, of blocks that have sixteen bytes each

module _ (f : List ℕ → List ℕ) (sixteen : (l : List ℕ) → length (f l) ≡ 16) where
  module _ (input out one : List ℕ) (whole : length input % 16 ≡ 0) (long : 64 ≤ length input) (same : length out ≡ length input) (one-len : length one ≡ length (take 64 (drop 0 out)))
      (one-is : one ≡ all_of 16 f (take 64 (drop 0 input))) where
    abbrev first : List ℕ
    first = put_mid 0 64 out one

    pub first_len : length first ≡ length input
    first_len = same_len_mid 0 64 out one one-len ∙ same

    first_done : take 64 first ≡ each_of 16 f 4 input
    first_done = part_more f input out one (drop 64 (drop 0 out)) 0 64 refl refl (omega arith) long (one-len ∙ one_part 64 0 out (omega arith)) (sym (each_none 16 f input)) one-is

    pub in_two : (last : List ℕ) → length input ≤ 128
        → last ≡ all_of 16 f (take (length input - (length input - 64)) (drop (length input - 64) input)) → put_mid (length input - 64) (length first - (length input - 64)) first last ≡ all_of 16 f input
    in_two last short last_is = ended f sixteen input first last (length input - 64) 64 (omega arith) refl (omega arith) long whole first_len first_done last_is

    module _ (two : List ℕ) (longer : 128 ≤ length input) (two-len : length two ≡ length (take 64 (drop 64 first))) (two_is : two ≡ all_of 16 f (take 64 (drop 64 input))) where
      abbrev second : List ℕ
      second = put_mid 64 64 first two

      pub second-len : length second ≡ length input
      second-len = same_len_mid 64 64 first two two-len ∙ first_len

      second-done : take 128 second ≡ each_of 16 f 8 input
      second-done =
          part_more f input first two (drop 64 (drop 64 first)) 64 64 refl refl (omega (arith, first_len)) longer (two-len ∙ one_part 64 64 first (omega (arith, first_len))) first_done two_is

      pub in_three : (last : List ℕ) → length input ≤ 192
          → last ≡ all_of 16 f (take (length input - (length input - 64)) (drop (length input - 64) input)) → put_mid (length input - 64) (length second - (length input - 64)) second last ≡ all_of 16 f input
      in_three last short last_is = ended f sixteen input second last (length input - 64) 128 (omega arith) refl (omega arith) longer whole second-len second-done last_is
