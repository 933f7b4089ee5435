-- `key_schedule::first_twenty` makes the words of ten rounds of those of the first two.
use mathlib.Core.Path.{◌≡◌, sym, ap, ap₂, ◌∙◌}
use Prim.Native.Nat.{ℕ, ◌^◌, ◌<◌}
use borrow.Author.Rules.{rules}
use Rattle.bits.specs.Digit.{digit, bit}
use Rattle.published.specs.Rounds.{P}
use Rattle.round_words.specs.Arranged.{N, nibble_at, arranged}
use Rattle.round_words.proofs.Arrangements.{arranged_five}
use Rattle.key_schedule.specs.declared.Four.{Four}
use Rattle.key_schedule.specs.InnerUpdate.{updated}
use Rattle.key_schedule.specs.InnerHalves.{low_of, high_of, joined, in_both}
use Rattle.key_schedule.specs.InnerTens.{five_rounds, five_later}
use Rattle.key_schedule.proofs.Halves.{low-joined, high-joined, joined-lt}
use Rattle.key_schedule.proofs.Updates.{updated-lt}
use Rattle.key_schedule.proofs.Tables.{updated_by, arranged_by}
use Rattle.key_schedule.proofs.TenWords.{same_twenty}
use Rattle.key_schedule.proofs.first_twenty.Goals as goal

-- x is the words a and b side by side
record Side (x a b : ℕ) : Type 0 where
  is : x ≡ joined a b
  low_fits : a < 2 ^ 32
  high_fits : b < 2 ^ 32

module _ {x a b : ℕ} (s : Side x a b) where
  low_is : low_of x ≡ a
  low_is = ap low_of s.is ∙ low-joined a b s.low_fits

  high_is : high_of x ≡ b
  high_is = ap high_of s.is ∙ high-joined a b s.low_fits

  wide : x < 2 ^ 64
  wide = rw s.is (joined-lt a b s.low_fits s.high_fits)

  each : (f : ℕ → ℕ) {r : ℕ} → r ≡ in_both f x → r ≡ joined (f a) (f b)
  each f e = e ∙ ap₂ (λ (l h : ℕ). joined (f l) (f h)) low_is high_is

  renewed : {r : ℕ} → r ≡ in_both updated x → Side r (updated a) (updated b)
  renewed e = record { is = each updated e; low_fits = updated-lt a; high_fits = updated-lt b }

  -- five rounds in, a word is kept as it is
  as_it_is : x ≡ joined (arranged 5 a) (arranged 5 b)
  as_it_is = s.is ∙ sym (ap₂ joined (arranged_five a s.low_fits) (arranged_five b s.high_fits))

module _ {x y a b p q : ℕ} (s : Side x a b) (t : Side y p q) where
  lower-upper : {r : ℕ} → r ≡ joined (low_of x) (high_of y) → Side r a q
  lower-upper e = record { is = e ∙ ap₂ joined (low_is s) (high_is t); low_fits = s.low_fits; high_fits = t.high_fits }

  upper-lower : {r : ℕ} → r ≡ joined (high_of x) (low_of y) → Side r b p
  upper-lower e = record { is = e ∙ ap₂ joined (high_is s) (low_is t); low_fits = s.high_fits; high_fits = t.low_fits }

pub returns : goal.returns
unfolding bit digit nibble_at N P five_rounds five_later
returns c =
    let w : Four = c.args.w in
    let small : (w.v0 < 2 ^ 32) × (w.u0 < 2 ^ 32) × (w.v1 < 2 ^ 32) × (w.u1 < 2 ^ 32) = search rules in
    let x : Side _ w.v0 w.v1 = record { is = c.join-x.ensures; low_fits = small.0; high_fits = small.2 } in
    let y : Side _ w.u0 w.u1 = record { is = c.join-y.ensures; low_fits = small.1; high_fits = small.3 } in
    let x1 = renewed x (updated_by _ c.moved-x1.ensures tt (wide x)) in
    let y1 = renewed y (updated_by _ c.moved-y1.ensures tt (wide y)) in
    let x2 = renewed x1 (updated_by _ c.moved-x2.ensures tt (wide x1)) in
    let y2 = renewed y1 (updated_by _ c.moved-y2.ensures tt (wide y1)) in
    let u0 = lower-upper y y1 c.low_high-u0.ensures in
    let u1 = upper-lower y x2 c.high_low-u1.ensures in
    let u2 = lower-upper x1 x2 c.low_high-u2.ensures in
    let v0 = lower-upper x x1 c.low_high.ensures in
    let v1 = upper-lower x y1 c.high_low.ensures in
    let u3 = upper-lower x1 y2 c.high_low-2.ensures in
    same_twenty _ _
    (each v0 (arranged 1) (arranged_by 1 _ c.exchanged.ensures tt (wide v0)))
    (each u0 (arranged 1) (arranged_by 1 _ c.exchanged-2.ensures tt (wide u0)))
    (each v1 (arranged 2) (arranged_by 2 _ c.exchanged-3.ensures tt (wide v1)))
    (each u1 (arranged 2) (arranged_by 2 _ c.exchanged-4.ensures tt (wide u1)))
    (each u0 (arranged 3) (arranged_by 3 _ c.exchanged-5.ensures tt (wide u0)))
    (each u2 (arranged 3) (arranged_by 3 _ c.exchanged-6.ensures tt (wide u2)))
    (each u1 (arranged 4) (arranged_by 4 _ c.exchanged-7.ensures tt (wide u1)))
    (each u3 (arranged 4) (arranged_by 4 _ c.exchanged-8.ensures tt (wide u3)))
    (as_it_is u2)
    (as_it_is (lower-upper y1 y2 c.low_high-2.ensures))
