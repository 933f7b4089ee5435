-- What each function leaves, from what those it calls left: the bytes of a part that was lent, and in the end a piece's.
use mathlib.Core.Path.{◌≡◌, refl, sym, ap, ap₂, subst, ◌∙◌}
use mathlib.Core.Bool.{Bool, true, false, cond}
use mathlib.Core.List.{List, [], ◌∷◌, ◌++◌, append-nil}
use Prim.Native.Nat.{ℕ, suc, ◌+◌, ◌-◌, ◌*◌, ◌/◌, ◌%◌, ◌≤◌, ◌<◌}
use native.Mathlib.Nat.{suc-ne-zero, le_of_eq}
use native.Mathlib.Omega.{arith}
use lib.Dec.{eqb}
use lib.ListN.{length, take, drop, length-append, length-take, length-drop, drop_of_length-le}
use lib.Seq.{take_all, take_at, take-append-add}
use borrow.Author.Tests.{eqb-true, eqb-false}
use borrow.Rule.Slice.PartMut.{put_mid}
use Rattle.gift128.specs.Calls.{encrypted_by}
use Rattle.counter_orders.specs.Orders.{counters, needed, left}
use Rattle.counter.specs.declared.Stream.{Stream}
use Rattle.counter_orders.specs.declared.Place.{Place}
use Rattle.counter.specs.Standard.{◌⊕◌, key_blocks}
use Rattle.counter.specs.Steps.{zero_block, after}
use Rattle.counter.specs.Calls.{Left, fed}
use Rattle.counter.specs.Inner.{new_bytes, moved, LastBytes, NewBytes, KeyBytes}
use Rattle.counter.proofs.Blocks.{blocks_more, length-blocks}
use Rattle.counter.proofs.Jumping.{E, jump_bytes, jump_state}

empty : (l : List ℕ) → length l ≡ 0 → l ≡ []
empty [] e = refl
empty (x ∷ l) e = absurd (suc-ne-zero (length l) e)

-- ---- what was written after a front that was lent, and the length of that part

abbrev joined : (out front : List ℕ) → ℕ → List ℕ
joined out front a = front ++ drop a out

module _ (out front : List ℕ) (a : ℕ) (fits : a ≤ length out) (long : length front ≡ length (take a out)) where
  pub front_long : length front ≡ a
  front_long = long ∙ rw length-take (omega arith)

  pub part-long : length (take (length (joined out front a) - a) (drop a (joined out front a))) ≡ length out - a
  part-long = simp (length-take, length-drop, length-append, front_long) (omega arith)

  pub placed : (new : List ℕ) → put_mid a (length (joined out front a) - a) (joined out front a) new ≡ front ++ new
  placed new =
      ap₂ (λ (f e : List ℕ). f ++ (new ++ e)) (take_at front (drop a out) a front_long) (drop_of_length-le (drop a (joined out front a)) (le_of_eq (length-drop a (joined out front a))))
      ∙ ap (λ (l : List ℕ). front ++ l) (append-nil new)

module _ (w o : List ℕ) (c : ℕ) (block : List ℕ) where
  -- ---- whole blocks, and the start of one more

  whole_and_rest : (n : ℕ) → key_blocks (encrypted_by w) o c (n / 16) ++ take (n % 16) (E w o (c + n / 16)) ≡ new_bytes w o c n
  whole_and_rest n = go (eqb (n % 16) 0) refl
    where
      go : (t : Bool) → eqb (n % 16) 0 ≡ t → key_blocks (encrypted_by w) o c (n / 16) ++ take (n % 16) (E w o (c + n / 16)) ≡ new_bytes w o c n
      go true e =
          let z : n % 16 ≡ 0 = eqb-true (n % 16) 0 e in
          let q : n / 16 ≡ needed 0 n = omega arith in
          let long : length (key_blocks (encrypted_by w) o c (needed 0 n)) ≡ 16 * needed 0 n = length-blocks w o c (needed 0 n) in
          ap (λ (m : ℕ). key_blocks (encrypted_by w) o c (n / 16) ++ take m (E w o (c + n / 16))) z ∙ append-nil (key_blocks (encrypted_by w) o c (n / 16))
          ∙ ap (key_blocks (encrypted_by w) o c) q ∙ sym (take_all n (key_blocks (encrypted_by w) o c (needed 0 n)) (omega arith))
      go false e =
          let nz : n % 16 ≡ 0 → ⊥ = eqb-false (n % 16) 0 e in
          let q : suc (n / 16) ≡ needed 0 n = omega (arith, nz) in
          let long : length (key_blocks (encrypted_by w) o c (n / 16)) ≡ 16 * (n / 16) = length-blocks w o c (n / 16) in
          let sum : length (key_blocks (encrypted_by w) o c (n / 16)) + n % 16 ≡ n = omega arith in
          sym (take-append-add (key_blocks (encrypted_by w) o c (n / 16)) (E w o (c + n / 16)) (n % 16))
          ∙ ap₂ take sum (sym (blocks_more (encrypted_by w) o c (n / 16)) ∙ ap (key_blocks (encrypted_by w) o c) q)

  pub new_is : (out k b l : List ℕ) (long : length k ≡ length (take (length out - length out % 16) out))
      → k ≡ key_blocks (encrypted_by w) o c (length (take (length out - length out % 16) out) / 16)
      → LastBytes w o (c + (length out - length out % 16) / 16) block (length (take (length (joined out k (length out - length out % 16)) - (length out - length out % 16)) (drop (length out - length out % 16) (joined out k (length out - length out % 16))))) b l
      → NewBytes w o c block (length out) b (put_mid (length out - length out % 16) (length (joined out k (length out - length out % 16)) - (length out - length out % 16)) (joined out k (length out - length out % 16)) l)
  new_is out k b l long ek lasts =
      record {
        keeps = lasts.keeps ∙ ap₂ (λ (m d : ℕ). cond (eqb m 0) block (E w o (c + d))) rest blocks;
        gives = placed out k a fits long l ∙ ap₂ ◌++◌ (ek ∙ ap (key_blocks (encrypted_by w) o c) (ap (λ (m : ℕ). m / 16) (sym long ∙ front_long out k a fits long) ∙ blocks)) (lasts.gives ∙ ap₂ (λ (m d : ℕ). take m (E w o (c + d))) rest blocks)
            ∙ whole_and_rest (length out);
      }
    where
      a : ℕ
      a = length out - length out % 16

      fits : a ≤ length out
      fits = omega arith

      rest : length (take (length (joined out k a) - a) (drop a (joined out k a))) ≡ length out % 16
      rest = part-long out k a fits long ∙ less
        where
          less : length out - a ≡ length out % 16
          less = omega arith

      blocks : a / 16 ≡ length out / 16
      blocks = omega arith

-- ---- a piece

-- the counters left are those up to the last
pub fits_left : (c p q : ℕ) → c < counters → q ≤ left c p → c + q ≤ counters
fits_left c p q h l = go (eqb p 0) l
  where
    go : (t : Bool) → q ≤ cond t (counters - c) 0 → c + q ≤ counters
    go true g = omega arith
    go false g = omega arith

pub fed_none : (s : Stream) (input output : List ℕ) → length input ≡ 0 → length output ≡ length input → ◌≡◌ {A = Left} (record { stream = s; bytes = output }) (fed s input)
unfolding fed after ◌⊕◌
fed_none s [] output e len = λ i. record { stream = s; bytes = empty output len i }
fed_none s (x ∷ input) output e len = absurd (suc-ne-zero (length input) e)

pub fed_is : (s : Stream) (input b key bytes : List ℕ) (to : Place) (last : List ℕ) → 0 < length input → s.unused ≤ 15 → length s.block ≡ 16 → s.counter < counters
    → needed s.unused (length input) ≤ left s.counter s.spent
    → (n : ℕ) → n ≡ length input → KeyBytes s.words s.nonce s.counter s.unused s.block n b key → bytes ≡ input ⊕ key
    → to ≡ moved (record { counter = s.counter; unused = s.unused; spent = s.spent }) (length input) → last ≡ cond (eqb to.unused 0) zero_block b
    → ◌≡◌ {A = Left} (record { stream = record { words = s.words; nonce = s.nonce; counter = to.counter; block = last; unused = to.unused; spent = to.spent }; bytes = bytes }) (fed s input)
unfolding fed moved
fed_is s input b key bytes to last pos h len lt l n same filled mixed moves keeps =
    λ i. record { stream = state i; bytes = (mixed ∙ ap (λ (k : List ℕ). input ⊕ k) (made.gives ∙ sym (jump_bytes s.words s.nonce (length input) s.counter s.block s.unused s.spent h fits len))) i }
  where
    made : KeyBytes s.words s.nonce s.counter s.unused s.block (length input) b key
    made = subst (λ (m : ℕ). KeyBytes s.words s.nonce s.counter s.unused s.block m b key) same filled

    fits : s.counter + needed s.unused (length input) ≤ counters
    fits = fits_left s.counter s.spent (needed s.unused (length input)) lt l

    state : record { words = s.words; nonce = s.nonce; counter = to.counter; block = last; unused = to.unused; spent = to.spent } ≡ after (length input) s
    state =
        (λ i. record { words = s.words; nonce = s.nonce; counter = (moves i).counter; block = (keeps ∙ ap₂ (λ (q : Place) (x : List ℕ). cond (eqb q.unused 0) zero_block x) moves made.keeps) i; unused = (moves i).unused; spent = (moves i).spent })
        ∙ sym (jump_state s.words s.nonce (length input) s.counter s.block s.unused s.spent h fits pos lt)
