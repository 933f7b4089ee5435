-- Four words, ten words and ten numbers of two words are equal field by field; and two tens in ten numbers are read out of them again.
use mathlib.Core.Path.{◌≡◌, ap₂}
use mathlib.Core.List.{◌++◌}
use Prim.Native.Nat.{◌^◌, ◌<◌}
use Rattle.round_words.proofs.Arrangements.{arranged-lt}
use Rattle.key_schedule.specs.declared.Four.{Four}
use Rattle.key_schedule.specs.declared.Twenty.{Twenty}
use Rattle.key_schedule.specs.InnerUpdate.{updated}
use Rattle.key_schedule.specs.InnerTens.{Ten, five_rounds, ten_later, ten_further, words_of}
use Rattle.key_schedule.specs.InnerTwenty.{low_ten, high_ten, joined_tens, in_both_tens, words_in}
use Rattle.key_schedule.proofs.Halves.{low-joined, high-joined}
use Rattle.key_schedule.proofs.Updates.{later-lt}

pub same_four : (s t : Four) → s.v0 ≡ t.v0 → s.u0 ≡ t.u0 → s.v1 ≡ t.v1 → s.u1 ≡ t.u1 → s ≡ t
same_four s t p0 q0 p1 q1 = λ i. record { v0 = p0 i; u0 = q0 i; v1 = p1 i; u1 = q1 i }

pub same_ten : (s t : Ten) → s.v0 ≡ t.v0 → s.u0 ≡ t.u0 → s.v1 ≡ t.v1 → s.u1 ≡ t.u1 → s.v2 ≡ t.v2 → s.u2 ≡ t.u2 → s.v3 ≡ t.v3 → s.u3 ≡ t.u3
    → s.v4 ≡ t.v4 → s.u4 ≡ t.u4 → s ≡ t
same_ten s t p0 q0 p1 q1 p2 q2 p3 q3 p4 q4 =
    λ i. record { v0 = p0 i; u0 = q0 i; v1 = p1 i; u1 = q1 i; v2 = p2 i; u2 = q2 i; v3 = p3 i; u3 = q3 i; v4 = p4 i; u4 = q4 i }

pub same_twenty : (s t : Twenty) → s.v0 ≡ t.v0 → s.u0 ≡ t.u0 → s.v1 ≡ t.v1 → s.u1 ≡ t.u1 → s.v2 ≡ t.v2 → s.u2 ≡ t.u2 → s.v3 ≡ t.v3 → s.u3 ≡ t.u3
    → s.v4 ≡ t.v4 → s.u4 ≡ t.u4 → s ≡ t
same_twenty s t p0 q0 p1 q1 p2 q2 p3 q3 p4 q4 =
    λ i. record { v0 = p0 i; u0 = q0 i; v1 = p1 i; u1 = q1 i; v2 = p2 i; u2 = q2 i; v3 = p3 i; u3 = q3 i; v4 = p4 i; u4 = q4 i }

-- ---- words of 32 bits

pub record Small (t : Ten) : Type 0 where
  pub v0 : t.v0 < 2 ^ 32
  pub u0 : t.u0 < 2 ^ 32
  pub v1 : t.v1 < 2 ^ 32
  pub u1 : t.u1 < 2 ^ 32
  pub v2 : t.v2 < 2 ^ 32
  pub u2 : t.u2 < 2 ^ 32
  pub v3 : t.v3 < 2 ^ 32
  pub u3 : t.u3 < 2 ^ 32
  pub v4 : t.v4 < 2 ^ 32
  pub u4 : t.u4 < 2 ^ 32

pub small_five : (w : Four) → Small (five_rounds w)
unfolding five_rounds
small_five w =
    record {
      v0 = arranged-lt 1 w.v0;
      u0 = arranged-lt 1 w.u0;
      v1 = arranged-lt 2 w.v1;
      u1 = arranged-lt 2 w.u1;
      v2 = arranged-lt 3 w.u0;
      u2 = arranged-lt 3 (updated w.v0);
      v3 = arranged-lt 4 w.u1;
      u3 = arranged-lt 4 (updated w.v1);
      v4 = arranged-lt 5 (updated w.v0);
      u4 = arranged-lt 5 (updated w.u0);
    }

pub small-later : (t : Ten) → Small (ten_later t)
unfolding ten_later
small-later t =
    record {
      v0 = later-lt 1 2 t.u0;
      u0 = later-lt 1 3 t.v0;
      v1 = later-lt 2 2 t.u1;
      u1 = later-lt 2 3 t.v1;
      v2 = later-lt 3 2 t.u2;
      u2 = later-lt 3 3 t.v2;
      v3 = later-lt 4 2 t.u3;
      u3 = later-lt 4 3 t.v3;
      v4 = later-lt 5 2 t.u4;
      u4 = later-lt 5 3 t.v4;
    }

pub small-further : (t : Ten) → Small (ten_further t)
unfolding ten_further
small-further t =
    record {
      v0 = later-lt 1 5 t.v0;
      u0 = later-lt 1 5 t.u0;
      v1 = later-lt 2 5 t.v1;
      u1 = later-lt 2 5 t.u1;
      v2 = later-lt 3 5 t.v2;
      u2 = later-lt 3 5 t.u2;
      v3 = later-lt 4 5 t.v3;
      u3 = later-lt 4 5 t.u3;
      v4 = later-lt 5 5 t.v4;
      u4 = later-lt 5 5 t.u4;
    }

-- ---- two tens in ten numbers

module _ (s t : Ten) (h : Small s) where
  low-ten : low_ten (joined_tens s t) ≡ s
  low-ten =
      same_ten (low_ten (joined_tens s t)) s
      (low-joined s.v0 t.v0 h.v0)
      (low-joined s.u0 t.u0 h.u0)
      (low-joined s.v1 t.v1 h.v1)
      (low-joined s.u1 t.u1 h.u1)
      (low-joined s.v2 t.v2 h.v2)
      (low-joined s.u2 t.u2 h.u2)
      (low-joined s.v3 t.v3 h.v3)
      (low-joined s.u3 t.u3 h.u3)
      (low-joined s.v4 t.v4 h.v4)
      (low-joined s.u4 t.u4 h.u4)

  high-ten : high_ten (joined_tens s t) ≡ t
  high-ten =
      same_ten (high_ten (joined_tens s t)) t
      (high-joined s.v0 t.v0 h.v0)
      (high-joined s.u0 t.u0 h.u0)
      (high-joined s.v1 t.v1 h.v1)
      (high-joined s.u1 t.u1 h.u1)
      (high-joined s.v2 t.v2 h.v2)
      (high-joined s.u2 t.u2 h.u2)
      (high-joined s.v3 t.v3 h.v3)
      (high-joined s.u3 t.u3 h.u3)
      (high-joined s.v4 t.v4 h.v4)
      (high-joined s.u4 t.u4 h.u4)

  pub words_in_lem : words_in (joined_tens s t) ≡ words_of s ++ words_of t
  words_in_lem = ap₂ (λ (a b : Ten). words_of a ++ words_of b) low-ten high-ten

  pub both_tens : (f : Ten → Ten) → in_both_tens f (joined_tens s t) ≡ joined_tens (f s) (f t)
  both_tens f = ap₂ (λ (a b : Ten). joined_tens (f a) (f b)) low-ten high-ten
