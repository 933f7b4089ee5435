-- What packing and unpacking answer for a block in an order, and for any other length or number; for a block, each is the other's inverse.
use mathlib.Core.Path.{◌≡◌, refl, ap, ◌∙◌}
use mathlib.Core.Bool.{Bool, true, false, cond, ◌&&◌, and-false}
use mathlib.Core.List.{List}
use Prim.Native.Nat.{ℕ, ◌<◌}
use lib.Dec.{eqb}
use lib.ListN.{length}
use borrow.Author.Tests.{eq-eqb, ne_eqb, lt-leb}
use Rattle.bits.proofs.Truth.{together}
use Rattle.published.specs.Bytes.{Bytes}
use Rattle.published.specs.Seen.{is_order, read_in, write_in}
use Rattle.published.proofs.Seen.{orders}
use Rattle.primitives.specs.declared.State.{State}
use Rattle.primitives.specs.Packed as packed_words
use Rattle.primitives.specs.Packed.{block_of, state_of}
use Rattle.primitives.proofs.Blocks.{same_words, block_of_lt, block_of_state_of, state_of_block_of}
use Rattle.packing.specs.declared.Order.{Order}
use Rattle.packing.specs.declared.Order.TheVariants.{Number, Words}
use Rattle.packing.specs.Orders.{order_number}
use Rattle.packing.specs.Packing.{no_words, packed, unpacked}

-- four zero words
pub zeros : {s : State} → (s.s0 ≡ 0) × ((s.s1 ≡ 0) × ((s.s2 ≡ 0) × (s.s3 ≡ 0))) → s ≡ no_words
zeros {s} e = same_words s no_words e.0 e.1.0 e.1.1.0 e.1.1.1

-- an order's number is that of an order, and the number that names none is not
pub is_order_number : (order : Order) → is_order (order_number order) ≡ true
is_order_number Number = refl
is_order_number Words = refl

pub no_order : (n : ℕ) → 1 < n → is_order n ≡ false
no_order n h = lt-leb n 1 h

-- sixteen bytes in an order, bytes of another length, and bytes in none
module _ (order : ℕ) (bs : List ℕ) where
  good : is_order order ≡ true → length bs ≡ 16 → (is_order order && eqb (length bs) 16) ≡ true
  good o e = together (is_order order) (eqb (length bs) 16) o (eq-eqb (length bs) 16 e)

  long : (length bs ≡ 16 → ⊥) → (is_order order && eqb (length bs) 16) ≡ false
  long n = ap (λ (t : Bool). is_order order && t) (ne_eqb (length bs) 16 n) ∙ and-false (is_order order)

  none : is_order order ≡ false → (is_order order && eqb (length bs) 16) ≡ false
  none o = ap (λ (t : Bool). t && eqb (length bs) 16) o

module _ (order : ℕ) (bs : List ℕ) where
  packs : {t : Bool} → (is_order order && eqb (length bs) 16) ≡ t → packed order bs ≡ cond t (state_of (read_in order bs)) no_words
  unfolding packed
  packs e = ap (λ (t : Bool). cond t (state_of (read_in order bs)) no_words) e

  pub packed-block : is_order order ≡ true → length bs ≡ 16 → packed order bs ≡ state_of (read_in order bs)
  packed-block o e = packs (good order bs o e)

  pub packed_other : (length bs ≡ 16 → ⊥) → packed order bs ≡ no_words
  packed_other n = packs (long order bs n)

  pub packed_in_none : is_order order ≡ false → packed order bs ≡ no_words
  packed_in_none o = packs (none order bs o)

module _ (order : ℕ) (s : State) (out : List ℕ) where
  unpacks : {t : Bool} → (is_order order && eqb (length out) 16) ≡ t → unpacked order s out ≡ cond t (write_in order (block_of s)) out
  unfolding unpacked
  unpacks e = ap (λ (t : Bool). cond t (write_in order (block_of s)) out) e

  pub unpacked-block : is_order order ≡ true → length out ≡ 16 → unpacked order s out ≡ write_in order (block_of s)
  unpacked-block o e = unpacks (good order out o e)

  pub unpacked_other : (length out ≡ 16 → ⊥) → unpacked order s out ≡ out
  unpacked_other n = unpacks (long order out n)

  pub unpacked_in_none : is_order order ≡ false → unpacked order s out ≡ out
  unpacked_in_none o = unpacks (none order out o)

module _ (order : ℕ) (o : is_order order ≡ true) where
  pub unpacked-packed : (bs out : List ℕ) → length bs ≡ 16 → Bytes bs → length out ≡ 16 → unpacked order (packed order bs) out ≡ bs
  unpacked-packed bs out len h len_out =
      unpacked-block order (packed order bs) out o len_out
      ∙ ap (λ (s : State). write_in order (block_of s)) (packed-block order bs o len)
      ∙ ap (write_in order) (block_of_state_of (read_in order bs) ((orders order).block bs len h))
      ∙ (orders order).again bs len h

  pub packed-unpacked : (s : State) (out : List ℕ) → packed_words.Words s → length out ≡ 16 → packed order (unpacked order s out) ≡ s
  packed-unpacked s out h len =
      ap (packed order) (unpacked-block order s out o len)
      ∙ packed-block order (write_in order (block_of s)) o ((orders order).sixteen (block_of s))
      ∙ ap state_of ((orders order).written (block_of s) (block_of_lt s))
      ∙ state_of_block_of s h
