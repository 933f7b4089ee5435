-- Any cutting: a whole message is accepted exactly if its pieces, one after the other, are; they write the same bytes, and end in the same stream. Of every stream, made by these calls or not.
use mathlib.Core.Path.{◌≡◌, refl, sym, ap, subst, ◌∙◌}
use mathlib.Core.Bool.{Bool, true, false, cond}
use mathlib.Core.List.{List, [], ◌∷◌, ◌++◌}
use Prim.Native.Nat.{ℕ, zero, suc, ◌+◌, ◌-◌, ◌*◌, ◌%◌, ◌≤◌, ◌<◌}
use native.Mathlib.Nat.{not-suc-le-zero}
use native.Mathlib.Omega.{arith}
use lib.Dec.{eqb}
use lib.ListN.{length, length-append}
use borrow.Author.Tests.{eq-eqb, eqb-true, eqb-false, le-leb}
use Rattle.bits.proofs.Computed.{cond-true}
use Rattle.counter_orders.specs.Orders.{counters, needed, left, enough, piece_code}
use Rattle.counter_orders.proofs.Passing.{piece-passed}
use Rattle.counter.specs.declared.Stream.{Stream}
use Rattle.counter.specs.Standard.{◌⊕◌}
use Rattle.counter.specs.Steps.{refilled, ready, used, next, key_bytes, after}
use Rattle.counter.specs.Calls.{Left, fed}
use Rattle.counter.specs.Pieces.{Accepted, room, whole, AllAccepted, fed_all}
use Rattle.counter.proofs.Strings.{split-⊕}
use Rattle.counter.proofs.Jumping.{after_add, bytes-add, length-bytes}

-- ---- how many bytes a stream can still give

-- a piece is accepted exactly if it is not longer
pub accepted-room : (s : Stream) (n : ℕ) → Accepted s n → (s.unused ≤ 15) × (n ≤ room s)
accepted-room s n e =
    let p = piece-passed s.counter s.unused s.spent n n e in
    (p.0, fits (left s.counter s.spent) p.2)
  where
    fits : (l : ℕ) → needed s.unused n ≤ l → n ≤ s.unused + 16 * l
    fits l h = omega arith

pub room-accepted : (s : Stream) (n : ℕ) → s.unused ≤ 15 → n ≤ room s → Accepted s n
unfolding piece_code enough
room-accepted s n u h = rw (le-leb s.unused 15 u, eq-eqb n n refl, le-leb (needed s.unused n) (left s.counter s.spent) (fits (left s.counter s.spent) h))
  where
    fits : (l : ℕ) → n ≤ s.unused + 16 * l → needed s.unused n ≤ l
    fits l g = omega arith

-- a new block takes one of the counters left
left_next : (c p : ℕ) → 0 < left c p → suc (left (suc c % counters) (cond (eqb (suc c) counters) 1 p)) ≡ left c p
left_next c p h = go (eqb p 0) refl h
  where
    on : (t : Bool) → eqb (suc c) counters ≡ t → c < counters → eqb p 0 ≡ true → suc (left (suc c % counters) (cond t 1 p)) ≡ counters - c
    on true e g z = let top : suc c ≡ counters = eqb-true (suc c) counters e in omega arith
    on false e g z =
        let below : suc c ≡ counters → ⊥ = eqb-false (suc c) counters e in
        let more : suc (counters - suc c % counters) ≡ counters - c = omega (arith, below) in
        ap suc (cond-true (eqb p 0) (counters - suc c % counters) 0 z) ∙ more

    go : (t : Bool) → eqb p 0 ≡ t → 0 < cond t (counters - c) 0 → suc (left (suc c % counters) (cond (eqb (suc c) counters) 1 p)) ≡ cond t (counters - c) 0
    go true e g = on (eqb (suc c) counters) refl (omega arith) e
    go false e g = absurd (not-suc-le-zero g)

-- a byte takes one from it
module _ (s : Stream) (u : s.unused ≤ 15) where
  pub unused_next : (next s).unused ≤ 15
  unfolding next used ready refilled
  unused_next = go (eqb s.unused 0)
    where
      go : (t : Bool) → (cond t (refilled s) s).unused - 1 ≤ 15
      go true = omega arith
      go false = omega arith

  pub room_next : 0 < room s → suc (room (next s)) ≡ room s
  unfolding next used ready refilled
  room_next h = go (eqb s.unused 0) refl
    where
      go : (t : Bool) → eqb s.unused 0 ≡ t → suc (room (used (cond t (refilled s) s))) ≡ room s
      go true e =
          let z : s.unused ≡ 0 = eqb-true s.unused 0 e in
          let some : 0 < left s.counter s.spent = omega arith in
          let less = left_next s.counter s.spent some in
          omega arith
      go false e =
          let nz : s.unused ≡ 0 → ⊥ = eqb-false s.unused 0 e in
          omega (arith, nz)

pub room_after : (n : ℕ) (s : Stream) → s.unused ≤ 15 → n ≤ room s → ((after n s).unused ≤ 15) × (n + room (after n s) ≡ room s)
unfolding after
room_after zero s u h = (u, omega arith)
room_after (suc n) s u h =
    let one = room_next s u (omega arith) in
    let rest = room_after n (next s) (unused_next s u) (omega arith) in
    (rest.0, omega (arith, rest.1))

-- ---- two pieces

pub cut-accepted : (s : Stream) (m n : ℕ) → Accepted s (m + n) → Accepted s m × Accepted (after m s) n
cut-accepted s m n e =
    let a = accepted-room s (m + n) e in
    let r = room_after m s a.0 (omega (arith, a.1)) in
    (room-accepted s m a.0 (omega (arith, a.1)), room-accepted (after m s) n r.0 (omega (arith, a.1, r.1)))

pub joined-accepted : (s : Stream) (m n : ℕ) → Accepted s m → Accepted (after m s) n → Accepted s (m + n)
joined-accepted s m n e f =
    let a = accepted-room s m e in
    let b = accepted-room (after m s) n f in
    let r = room_after m s a.0 a.1 in
    room-accepted s (m + n) a.0 (omega (arith, b.1, r.1))

pub two_fed : (s : Stream) (a b : List ℕ) → ◌≡◌ {A = Left} (record { stream = (fed (fed s a).stream b).stream; bytes = (fed s a).bytes ++ (fed (fed s a).stream b).bytes }) (fed s (a ++ b))
unfolding fed
two_fed s a b =
    λ i. record {
      stream = (sym (after_add (length a) (length b) s) ∙ ap (λ (n : ℕ). after n s) (sym (length-append a b))) i;
      bytes = (sym (split-⊕ a b (key_bytes (length a) s) (key_bytes (length b) (after (length a) s)) (sym (length-bytes (length a) s)))
          ∙ ap (λ (k : List ℕ). (a ++ b) ⊕ k) (sym (bytes-add (length a) (length b) s) ∙ ap (λ (n : ℕ). key_bytes n s) (sym (length-append a b)))) i;
    }

-- ---- any number of pieces

stream_of : (s : Stream) (p : List ℕ) → (fed s p).stream ≡ after (length p) s
unfolding fed
stream_of s p = refl

pub all_fed : (s : Stream) (p : List ℕ) (ps : List (List ℕ)) → fed_all s p ps ≡ fed s (whole p ps)
unfolding fed_all whole
all_fed s p [] = refl
all_fed s p (q ∷ ps) =
    (λ i. record { stream = (all_fed (fed s p).stream q ps i).stream; bytes = (fed s p).bytes ++ (all_fed (fed s p).stream q ps i).bytes })
    ∙ two_fed s p (whole q ps)

pub cutting : (s : Stream) (p : List ℕ) (ps : List (List ℕ)) → Accepted s (length (whole p ps)) → AllAccepted s p ps
unfolding whole AllAccepted
cutting s p [] e = e
cutting s p (q ∷ ps) e =
    let both = cut-accepted s (length p) (length (whole q ps)) (subst (Accepted s) (length-append p (whole q ps)) e) in
    (both.0, cutting (fed s p).stream q ps (subst (λ (t : Stream). Accepted t (length (whole q ps))) (sym (stream_of s p)) both.1))

pub joining : (s : Stream) (p : List ℕ) (ps : List (List ℕ)) → AllAccepted s p ps → Accepted s (length (whole p ps))
unfolding whole AllAccepted
joining s p [] e = e
joining s p (q ∷ ps) e =
    subst (Accepted s) (sym (length-append p (whole q ps)))
    (joined-accepted s (length p) (length (whole q ps)) e.0 (subst (λ (t : Stream). Accepted t (length (whole q ps))) (stream_of s p) (joining (fed s p).stream q ps e.1)))
