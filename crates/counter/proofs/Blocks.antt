-- The key stream's blocks, one after the other.
use mathlib.Core.Path.{◌≡◌, refl, sym, ap, ap₂, ◌∙◌}
use mathlib.Core.List.{List, [], ◌∷◌, ◌++◌, append_assoc, append-nil}
use Prim.Native.Nat.{ℕ, zero, suc, ◌+◌, ◌*◌, ◌/◌, ◌%◌, ◌^◌, ◌≤◌}
use native.Mathlib.Omega.{arith}
use native.Mathlib.Nat.{div-one}
use native.Mathlib.Numerals.{add-one}
use lib.ListN.{length, take, drop, length-append, length-take}
use lib.Seq.{take-append-add, take-append_seam, take_at, drop_at}
use borrow.Rule.Slice.PartMut.{put_mid}
use Rattle.std.specs.Int.{to_be_bytes, w32}
use Rattle.bits.specs.Digit.{digit}
use Rattle.published.specs.Bytes.{to_bytes}
use Rattle.published.proofs.Reading.{length_to_bytes}
use Rattle.gift128.specs.Calls.{encrypted_by}
use Rattle.counter.specs.Standard.{counter_block, key_blocks}

pub length-encrypted : (w block : List ℕ) → length (encrypted_by w block) ≡ 16
unfolding encrypted_by
length-encrypted w block = length_to_bytes 16 _

pub blocks_none : (f : List ℕ → List ℕ) (o : List ℕ) (c : ℕ) → key_blocks f o c 0 ≡ []
unfolding key_blocks
blocks_none f o c = refl

-- one more block, at the end
pub blocks_more : (f : List ℕ → List ℕ) (o : List ℕ) (c k : ℕ) → key_blocks f o c (suc k) ≡ key_blocks f o c k ++ f (counter_block o (c + k))
unfolding key_blocks
blocks_more f o c zero = append-nil (f (counter_block o c)) ∙ ap (λ (n : ℕ). f (counter_block o n)) here
  where
    here : c ≡ c + 0
    here = omega arith
blocks_more f o c (suc k) =
    ap (λ (l : List ℕ). f (counter_block o c) ++ l) (blocks_more f o (suc c) k)
    ∙ sym (append_assoc (f (counter_block o c)) (key_blocks f o (suc c) k) (f (counter_block o (suc c + k))))
    ∙ ap (λ (n : ℕ). (f (counter_block o c) ++ key_blocks f o (suc c) k) ++ f (counter_block o n)) next
  where
    next : suc c + k ≡ c + suc k
    next = omega arith

pub length-blocks : (w o : List ℕ) (c k : ℕ) → length (key_blocks (encrypted_by w) o c k) ≡ 16 * k
unfolding key_blocks
length-blocks w o c zero = refl
length-blocks w o c (suc k) =
    length-append (encrypted_by w (counter_block o c)) (key_blocks (encrypted_by w) o (suc c) k) ∙ ap₂ ◌+◌ (length-encrypted w (counter_block o c)) (length-blocks w o (suc c) k) ∙ next
  where
    next : 16 + 16 * k ≡ 16 * suc k
    next = omega arith

-- a counter's four bytes, the first the most significant
pub four_bytes : (c : ℕ) → to_be_bytes w32 (c % 4294967296) ≡ to_bytes 4 c
unfolding to_bytes digit
four_bytes c = λ i. a i ∷ b i ∷ d i ∷ e i ∷ []
  where
    a : c % 4294967296 / 256 ^ 3 % 256 ≡ c / 256 ^ 3 % 256
    a = omega arith

    b : c % 4294967296 / 256 ^ 2 % 256 ≡ c / 256 ^ 2 % 256
    b = omega arith

    d : c % 4294967296 / 256 ^ 1 % 256 ≡ c / 256 ^ 1 % 256
    d = omega arith

    e : c % 4294967296 % 256 ≡ c / 256 ^ 0 % 256
    e = rw div-one (omega arith)

-- twelve bytes and then four, put into a block
pub laid : (o x y : List ℕ) (c : ℕ) → length o ≡ 12 → x ≡ o → y ≡ to_be_bytes w32 (c % 4294967296) → put_mid 12 4 (x ++ 0 ∷ 0 ∷ 0 ∷ 0 ∷ []) y ≡ counter_block o c
unfolding counter_block
laid o x y c lo ex ey =
    ap₂ (λ (f e : List ℕ). put_mid 12 4 (f ++ 0 ∷ 0 ∷ 0 ∷ 0 ∷ []) e) ex (ey ∙ four_bytes c)
    ∙ ap₂ (λ (f e : List ℕ). f ++ (to_bytes 4 c ++ e)) (take_at o (0 ∷ 0 ∷ 0 ∷ 0 ∷ []) 12 lo) (ap (drop 4) (drop_at o (0 ∷ 0 ∷ 0 ∷ 0 ∷ []) 12 lo))
    ∙ ap (λ (e : List ℕ). o ++ e) (append-nil (to_bytes 4 c))

-- the block of the counter after k was written: the first k + 1 are
pub one_more : (f : List ℕ → List ℕ) (o out new rest : List ℕ) (c k : ℕ) → 16 * k ≤ length out → length new ≡ 16
    → take (16 * k) out ≡ key_blocks f o c k → new ≡ f (counter_block o (c + k)) → take (16 * (k + 1)) (take (16 * k) out ++ (new ++ rest)) ≡ key_blocks f o c (k + 1)
one_more f o out new rest c k l len before here =
    let front : length (take (16 * k) out) ≡ 16 * k = rw length-take (omega arith) in
    let ahead : 16 * (k + 1) ≡ length (take (16 * k) out) + length new = omega arith in
    ap (λ (m : ℕ). take m (take (16 * k) out ++ (new ++ rest))) ahead
    ∙ take-append-add (take (16 * k) out) (new ++ rest) (length new)
    ∙ ap (λ (l : List ℕ). take (16 * k) out ++ l) (take-append_seam new rest)
    ∙ ap₂ ◌++◌ before here
    ∙ sym (blocks_more f o c k)
    ∙ ap (key_blocks f o c) (sym (add-one k))
