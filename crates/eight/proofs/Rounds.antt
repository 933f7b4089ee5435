-- Quintuples in every lane: one of them, one more of those that are done, and what eight of them are.
use mathlib.Core.Path.{◌≡◌, refl, sym, ap, ◌∙◌}
use mathlib.Core.Bool.{true, false}
use mathlib.Core.List.{List}
use Prim.Native.Nat.{ℕ, suc, ◌+◌, ◌-◌, ◌*◌, ◌%◌, ◌^◌, ◌<◌}
use native.Mathlib.Omega.{arith}
use lib.ListN.{length, get_or, take, drop, length-drop}
use borrow.Author.Rules.{part_to_end}
use lib.Seq.{get_or-drop}
use Rattle.bits.proofs.Computed.{cond-true}
use Rattle.quintuple.specs.declared.Part.{Part}
use Rattle.quintuple.specs.Quintuple.{quintupled, unquintupled, several, unseveral}
use Rattle.quintuple.specs.Inner.{part_in, part_of, five_of, unfive_of}
use Rattle.quintuple.proofs.Five.{all_good}
use Rattle.quintuple.proofs.Chain.{five_is, unfive_is}
use Rattle.quintuple.proofs.Several.{one_undone, forty-done, forty-undone}
use Rattle.std.specs.Prelude.{Option, Some, None}
use Rattle.primitives.specs.declared.State.{State}
use Rattle.primitives.specs.Packed.{block_of, state_of}
use Rattle.eight.specs.declared.Lanes.{Lanes}
use Rattle.eight.specs.declared.Fours.{Fours}
use Rattle.eight.specs.Inner.{EachBy, IfFour, EveryBy, forty}

module _ (ws : List ℕ) (eighty : length ws ≡ 80) (word : (n : ℕ) → get_or ws n 0 < 2 ^ 32) (i : ℕ) (start : i % 5 ≡ 0) (near : i < 40) (p : Part) (read : p ≡ part_in (drop (2 * i) ws) i) (s r : State) where
  abbrev own : List ℕ
  own = drop (2 * i) ws

  many : 10 < length own + 1
  many = rw length-drop (omega arith)

  words : (n : ℕ) → get_or own n 0 < 2 ^ 32
  words n = rw get_or-drop (word (2 * i + n))

  is_part : p ≡ part_of own i
  unfolding part_in
  is_part = read ∙ cond-true _ _ _ (all_good own i (omega (arith, many)) (omega arith) start)

  pub one_round : r ≡ five_of p s → r ≡ quintupled s own i
  one_round e = e ∙ ap (λ (q : Part). five_of q s) is_part ∙ five_is s own i (omega (arith, many)) (omega arith) start words

  pub one_unround : r ≡ unfive_of p (state_of (block_of s)) → r ≡ unquintupled s own i
  one_unround e = e ∙ ap (λ (q : Part). unfive_of q (state_of (block_of s))) is_part ∙ unfive_is s own i (omega (arith, many)) (omega arith) start words

-- the words of quintuple n, as the code lends them
pub from_its_own : (ws : List ℕ) → length ws ≡ 80 → (n : ℕ) → take (80 - 10 * n) (drop (10 * n) ws) ≡ drop (2 * (5 * n)) ws
from_its_own ws eighty n =
    let at : 10 * n ≡ 2 * (5 * n) = omega arith in
    ap (λ (k : ℕ). take (k - 10 * n) (drop (10 * n) ws)) (sym eighty) ∙ part_to_end ws (10 * n) ∙ ap (λ (k : ℕ). drop k ws) at

-- ---- the forty, five at a time: what is left of them, done to state t, is all of them done to state t₀; and those after i are undone

abbrev pub Left : List ℕ → ℕ → State → State → Type 0
Left ws i t₀ t = (m : ℕ) → i + 5 * m ≡ 40 → several ws m i t ≡ several ws 8 0 t₀

abbrev pub Undone : List ℕ → ℕ → State → State → Type 0
Undone ws i t₀ t = (m : ℕ) → i + 5 * m ≡ 40 → t ≡ unseveral ws m i t₀

pub left_none : (ws : List ℕ) (t : State) → Left ws 0 t t
left_none ws t m e = let all : m ≡ 8 = omega arith in ap (λ (n : ℕ). several ws n 0 t) all

pub undone_none : (ws : List ℕ) (t : State) → Undone ws 40 t t
unfolding unseveral
undone_none ws t m e = let none : 0 ≡ m = omega arith in ap (λ (n : ℕ). unseveral ws n 40 t) none

module _ (ws : List ℕ) (eighty : length ws ≡ 80) (word : (n : ℕ) → get_or ws n 0 < 2 ^ 32) (i : ℕ) (start : i % 5 ≡ 0) (near : i < 40) (p : Part) (read : p ≡ part_in (drop (2 * i) ws) i) (t₀ t r : State) where
  pub left_more : (j : ℕ) → i + 5 ≡ j → Left ws i t₀ t → r ≡ five_of p t → Left ws j t₀ r
  unfolding several
  left_more j five before here m e =
      ap (λ (k : ℕ). several ws m k r) (sym five) ∙ ap (several ws m (i + 5)) (one_round ws eighty word i start near p read t r here) ∙ before (suc m) (omega arith)

  pub undone_more : (j : ℕ) → i + 5 ≡ j → Undone ws j t₀ t → r ≡ unfive_of p (state_of (block_of t)) → Undone ws i t₀ r
  undone_more j five before here m e =
      one_unround ws eighty word i start near p read t r here ∙ one_undone ws i j 40 five (omega arith) t t₀ (λ n f. before n f) m e

module _ (ws : List ℕ) (eighty : length ws ≡ 80) (t₀ t : State) where
  pub left_all : Left ws 40 t₀ t → t ≡ forty false ws t₀
  unfolding several
  left_all before = before 0 refl ∙ forty-done ws eighty t₀

  pub undone_all : Undone ws 0 t₀ t → t ≡ forty true ws t₀
  undone_all before = before 8 refl ∙ forty-undone ws eighty t₀

-- ---- in every lane of every four, one step after another

each_then : (R Q P : State → State → Type 0) → ((x y z : State) → R x y → Q y z → P x z) → (s r t : Lanes) → EachBy R s r → EachBy Q r t → EachBy P s t
each_then R Q P f s r t one two = record { lane = λ k h. f _ _ _ (one.lane k h) (two.lane k h) }

if_then : (R Q P : State → State → Type 0) → ((x y z : State) → R x y → Q y z → P x z) → (s r t : Option Lanes) → IfFour R s r → IfFour Q r t → IfFour P s t
if_then R Q P f (Some s) (Some r) (Some t) one two = each_then R Q P f s r t one two
if_then R Q P f None None None one two = tt
if_then R Q P f (Some s) None t one two = absurd one
if_then R Q P f None (Some r) t one two = absurd one
if_then R Q P f (Some s) (Some r) None one two = absurd two
if_then R Q P f None None (Some t) one two = absurd two

pub every_then : (R Q P : State → State → Type 0) (s r t : Fours) → EveryBy R s r → EveryBy Q r t → ((x y z : State) → R x y → Q y z → P x z) → EveryBy P s t
every_then R Q P s r t one two f =
    record {
      x_gone = each_then R Q P f s.x r.x t.x one.x_gone two.x_gone;
      y_gone = each_then R Q P f s.y r.y t.y one.y_gone two.y_gone;
      z_gone = if_then R Q P f s.z r.z t.z one.z_gone two.z_gone;
    }

if_none : (R : State → State → Type 0) → ((x : State) → R x x) → (s : Option Lanes) → IfFour R s s
if_none R f (Some s) = record { lane = λ k h. f _ }
if_none R f None = tt

pub every_none : (R : State → State → Type 0) (s : Fours) → ((x : State) → R x x) → EveryBy R s s
every_none R s f = record { x_gone = record { lane = λ k h. f _ }; y_gone = record { lane = λ k h. f _ }; z_gone = if_none R f s.z }

if_is : (R P : State → State → Type 0) → ((x y : State) → R x y → P x y) → (s r : Option Lanes) → IfFour R s r → IfFour P s r
if_is R P f (Some s) (Some r) one = record { lane = λ k h. f _ _ (one.lane k h) }
if_is R P f None None one = tt
if_is R P f (Some s) None one = absurd one
if_is R P f None (Some r) one = absurd one

pub every_is : (R P : State → State → Type 0) (s r : Fours) → EveryBy R s r → ((x y : State) → R x y → P x y) → EveryBy P s r
every_is R P s r one f =
    record { x_gone = record { lane = λ k h. f _ _ (one.x_gone.lane k h) }; y_gone = record { lane = λ k h. f _ _ (one.y_gone.lane k h) }; z_gone = if_is R P f s.z r.z one.z_gone }
