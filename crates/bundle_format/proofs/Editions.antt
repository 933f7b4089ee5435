-- Kinds: a later edition knows what an earlier one does; what a good setting is and what an entry that stands right is, part by part.
use mathlib.Core.Path.{◌≡◌, refl, sym, ap}
use mathlib.Core.Bool.{Bool, true, false, not, ◌&&◌, ◌||◌, false≢true}
use mathlib.Core.Logic.{◌≢◌}
use mathlib.Core.List.{List}
use Prim.Native.Nat.{ℕ, zero, suc, ◌+◌, ◌^◌, ◌<◌, ◌≤◌}
use native.Mathlib.Nat.{not-suc-le-zero, le_of_suc-le-suc}
use native.Mathlib.Omega.{arith}
use lib.Dec.{eqb, leb, ltb, lit≤}
use borrow.Author.Tests.{eq-eqb, eqb-true, le-leb, leb-true, lt-ltb, ltb-true, le-ltb}
use Rattle.bits.proofs.Truth.{both, together}
use Rattle.bundle_format.specs.Format.{kinds, knows, good_value, Setting, good_setting}
use Rattle.bundle_format.specs.Reader.{in_place, in_kind}
use Rattle.bundle_format.specs.declared.Row.{Row}

pub kinds_most : (edition : ℕ) → kinds edition ≤ 3
unfolding kinds
kinds_most zero = lit≤ tt
kinds_most (suc zero) = lit≤ tt
kinds_most (suc (suc e)) = lit≤ tt

pub kinds_grow : (e f : ℕ) → e ≤ f → kinds e ≤ kinds f
unfolding kinds
kinds_grow zero f h = omega arith
kinds_grow (suc zero) zero h = absurd (not-suc-le-zero h)
kinds_grow (suc zero) (suc zero) h = lit≤ tt
kinds_grow (suc zero) (suc (suc f)) h = lit≤ tt
kinds_grow (suc (suc e)) zero h = absurd (not-suc-le-zero h)
kinds_grow (suc (suc e)) (suc zero) h = absurd (not-suc-le-zero (le_of_suc-le-suc h))
kinds_grow (suc (suc e)) (suc (suc f)) h = lit≤ tt

pub known-later : (e f kind : ℕ) → e ≤ f → knows e kind ≡ true → knows f kind ≡ true
known-later e f kind h k =
    let l : kind < kinds e = ltb-true kind (kinds e) k in
    let g : kinds e ≤ kinds f = kinds_grow e f h in
    lt-ltb kind (kinds f) (omega arith)

-- editions past those that are named
pub kinds-last : (e : ℕ) → e ≢ 0 → e ≢ 1 → kinds e ≡ 3
unfolding kinds
kinds-last zero z o = absurd (z refl)
kinds-last (suc zero) z o = absurd (o refl)
kinds-last (suc (suc e)) z o = refl

-- ---- truth values

-- if a or b, and not a, then b
pub or_else : (a b : Bool) → a || b ≡ true → a ≡ false → b ≡ true
or_else true b e f = absurd (false≢true (sym f))
or_else false b e f = e

pub or_left : (a b : Bool) → a ≡ true → a || b ≡ true
or_left true b e = refl
or_left false b e = absurd (false≢true e)

pub or_right : (a b : Bool) → b ≡ true → a || b ≡ true
or_right true b e = refl
or_right false b e = e

-- ---- settings

pub record Good (edition low : ℕ) (s : Setting) : Type 0 where
  pub rises : low ≤ s.id
  pub fits : s.id < 2 ^ 32
  pub known : knows edition s.kind ≡ true
  pub valued : good_value s.kind s.body ≡ true
  pub flag : s.must ≤ 1

pub good_only : (edition low : ℕ) (s : Setting) → good_setting edition low s ≡ true → Good edition low s
unfolding good_setting
good_only edition low s e =
    let t1 : Bool = leb low s.id in
    let t2 : Bool = ltb s.id (2 ^ 32) in
    let t3 : Bool = knows edition s.kind in
    let t4 : Bool = good_value s.kind s.body in
    let t5 : Bool = leb s.must 1 in
    let p = both (t1 && t2 && t3 && t4) t5 e in
    let q = both (t1 && t2 && t3) t4 p.0 in
    let u = both (t1 && t2) t3 q.0 in
    let v = both t1 t2 u.0 in
    record {
      rises = leb-true low s.id v.0;
      fits = ltb-true s.id (2 ^ 32) v.1;
      known = u.1;
      valued = q.1;
      flag = leb-true s.must 1 p.1;
    }

pub good_if : (edition low : ℕ) (s : Setting) → Good edition low s → good_setting edition low s ≡ true
unfolding good_setting
good_if edition low s g =
    let t1 : Bool = leb low s.id in
    let t2 : Bool = ltb s.id (2 ^ 32) in
    let t3 : Bool = knows edition s.kind in
    let t4 : Bool = good_value s.kind s.body in
    let t5 : Bool = leb s.must 1 in
    together (t1 && t2 && t3 && t4) t5
    (together (t1 && t2 && t3) t4 (together (t1 && t2) t3 (together t1 t2 (le-leb low s.id g.rises) (lt-ltb s.id (2 ^ 32) g.fits)) g.known) g.valued)
    (le-leb s.must 1 g.flag)

-- ---- entries

pub record Stands (end low at : ℕ) (r : Row) : Type 0 where
  pub rises : low ≤ r.id
  pub begins : r.at ≡ at
  pub ends : at + r.len ≤ end
  pub flag : r.must ≤ 1

pub stands_only : (end low at : ℕ) (r : Row) → in_place end low at r ≡ true → Stands end low at r
unfolding in_place
stands_only end low at r e =
    let t1 : Bool = leb low r.id in
    let t2 : Bool = eqb r.at at in
    let t3 : Bool = leb (at + r.len) end in
    let t4 : Bool = leb r.must 1 in
    let p = both (t1 && t2 && t3) t4 e in
    let q = both (t1 && t2) t3 p.0 in
    let u = both t1 t2 q.0 in
    record { rises = leb-true low r.id u.0; begins = eqb-true r.at at u.1; ends = leb-true (at + r.len) end q.1; flag = leb-true r.must 1 p.1 }

pub stands_if : (end low at : ℕ) (r : Row) → Stands end low at r → in_place end low at r ≡ true
unfolding in_place
stands_if end low at r s =
    let t1 : Bool = leb low r.id in
    let t2 : Bool = eqb r.at at in
    let t3 : Bool = leb (at + r.len) end in
    let t4 : Bool = leb r.must 1 in
    together (t1 && t2 && t3) t4
    (together (t1 && t2) t3 (together t1 t2 (le-leb low r.id s.rises) (eq-eqb r.at at s.begins)) (le-leb (at + r.len) end s.ends))
    (le-leb r.must 1 s.flag)

-- a kind that the bundle's edition has, with a good value, is right for every reader
pub in_kind_lem : (reader edition kind : ℕ) (body : List ℕ) → knows edition kind ≡ true → good_value kind body ≡ true → in_kind reader edition kind body ≡ true
unfolding in_kind
in_kind_lem reader edition kind body k g =
    together (ltb reader edition || knows edition kind) (not (knows reader kind) || good_value kind body)
    (or_right (ltb reader edition) (knows edition kind) k)
    (or_right (not (knows reader kind)) (good_value kind body) g)

-- of a bundle of the reader's edition or an earlier one, what is right for the reader is so for the edition
pub kind_only : (reader edition kind : ℕ) (body : List ℕ) → edition ≤ reader → in_kind reader edition kind body ≡ true
    → (knows edition kind ≡ true) × (good_value kind body ≡ true)
unfolding in_kind
kind_only reader edition kind body h e =
    let p = both (ltb reader edition || knows edition kind) (not (knows reader kind) || good_value kind body) e in
    let own : knows edition kind ≡ true = or_else (ltb reader edition) (knows edition kind) p.0 (le-ltb reader edition h) in
    let known : knows reader kind ≡ true = known-later edition reader kind h own in
    (own, or_else (not (knows reader kind)) (good_value kind body) p.1 (ap not known))
