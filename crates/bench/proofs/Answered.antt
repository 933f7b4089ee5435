-- The answer of a call, from what its parts told: what was seen of the bench and of the lane that is named, and its number. Refused, it is the bench that came in; done, it is what the call made.
use mathlib.Core.Path.{◌≡◌, refl, sym, ap, subst, ◌∙◌}
use mathlib.Core.Bool.{Bool, true}
use mathlib.Core.List.{List}
use mathlib.Core.Logic.{◌≢◌}
use Prim.Native.Nat.{ℕ, ◌≤◌, ◌<◌}
use lib.ListN.{length}
use borrow.Author.Tests.{leb-true}
use Rattle.answers.proofs.Outcome.{if_done_lem, if_refused}
use Rattle.lane.specs.Record.{admits, idle_lane}
use Rattle.lane_turns.specs.Turns.{opened, yielded}
use Rattle.bench_orders.specs.declared.Seen.{Seen}
use Rattle.bench_orders.specs.Orders.{lane_count, open_code, turn_code, take_code, close_code}
use Rattle.bench_orders.proofs.Passing.{OpenPassed, TakePassed, ClosePassed, open_passed, turn-passed, take-passed, close_passed}
use Rattle.bench_turns.specs.declared.Bench.{Bench}
use Rattle.bench_turns.specs.Turning.{lane_at, turned_by, served_by}
use Rattle.bench_turns.specs.Sound.{sound_bench, seen}
use Rattle.bench_turns.proofs.Soundness.{is_sound}
use Rattle.bench_turns.proofs.Made.{made_is}
use Rattle.bench.specs.Calls.{Answer, put, answered, open_of, turn_of, take_of, taken_bytes, close_of}

abbrev pub answer : ℕ → ℕ → Bench → Answer
answer r made b = record { code = r; made = made; bench = b }

module _ (number most : ℕ) (new old : Bench) {r : ℕ} (told : r ≡ number) where
  refused : r ≢ 0 → answer r 0 old ≡ answered number most new old
  unfolding answered
  refused ne =
      let h : number ≢ 0 = λ e. ne (told ∙ e) in
      λ i. record { code = told i; made = sym (if_refused number most 0 h) i; bench = sym (if_refused number new old h) i }

  done : r ≡ 0 → {made : ℕ} {b : Bench} → made ≡ most → b ≡ new → answer r made b ≡ answered number most new old
  unfolding answered
  done z m e =
      let h : number ≡ 0 = sym told ∙ z in
      λ i. record { code = told i; made = (m ∙ sym (if_done_lem number most 0 h)) i; bench = (e ∙ sym (if_done_lem number new old h)) i }

inside : (b : Bench) (lane : ℕ) → sound_bench b ≡ true → lane < lane_count → lane < length b.lanes
inside b lane ok h = subst (λ (k : ℕ). lane < k) (sym (is_sound b ok).size) h

module _ (b : Bench) where
  -- of the lane that is named, and of the caller, who is the owner to be of an opening
  module _ (lane caller : ℕ) {s : Seen} (looked : s ≡ seen b.lanes (sound_bench b) lane caller) {r : ℕ} where
    module _ (direction order : ℕ) (key block : List ℕ) (code : r ≡ open_code s.sound lane s.phase caller direction order (length key) (length block)) where
      open_told : r ≡ open_code (sound_bench b) lane (lane_at b.lanes lane).phase caller direction order (length key) (length block)
      open_told = code ∙ ap (λ (k : Seen). open_code k.sound lane k.phase caller direction order (length key) (length block)) looked

      pub open_refused : r ≢ 0 → answer r 0 b ≡ open_of b lane caller direction order key block
      unfolding open_of
      open_refused ne = refused _ _ _ _ open_told ne

      module _ (z : r ≡ 0) where
        open_in : OpenPassed (sound_bench b) lane (lane_at b.lanes lane).phase caller direction order (length key) (length block)
        open_in = open_passed _ _ _ _ _ _ _ _ (sym open_told ∙ z)

        pub open_lane : lane < lane_count
        open_lane = open_in.lane_lt

        pub open_inside : lane < length b.lanes
        open_inside = inside b lane open_in.is_sound open_in.lane_lt

        -- the direction fits a byte, and the order two
        pub open_way : direction ≤ 1
        open_way = open_in.direction_le

        pub open_order : order ≤ 1
        open_order = leb-true order 1 open_in.ordered

        pub open_done : {d : Bench} → d ≡ put b lane (opened caller direction order key block) → answer 0 0 d ≡ open_of b lane caller direction order key block
        unfolding open_of
        open_done e = done _ _ _ _ (sym z ∙ open_told) refl (λ i. 0) e

    module _ (out : List ℕ) (code : r ≡ take_code s.sound lane s.admitted s.phase (length out)) where
      take-told : r ≡ take_code (sound_bench b) lane (admits (lane_at b.lanes lane) caller) (lane_at b.lanes lane).phase (length out)
      take-told = code ∙ ap (λ (k : Seen). take_code k.sound lane k.admitted k.phase (length out)) looked

      pub take-refused : r ≢ 0 → (answer r 0 b ≡ take_of b lane caller out) × (out ≡ taken_bytes b lane caller out)
      unfolding take_of taken_bytes answered
      take-refused ne = (refused _ _ _ _ take-told ne, sym (if_refused _ (yielded (lane_at b.lanes lane) out) out (λ e. ne (take-told ∙ e))))

      module _ (z : r ≡ 0) where
        take_in : TakePassed (sound_bench b) lane (admits (lane_at b.lanes lane) caller) (lane_at b.lanes lane).phase (length out)
        take_in = take-passed _ _ _ _ _ (sym take-told ∙ z)

        pub take_lane : lane < lane_count
        take_lane = take_in.lane_lt

        pub take_inside : lane < length b.lanes
        take_inside = inside b lane take_in.is_sound take_in.lane_lt

        pub take_done : {d : Bench} {e : List ℕ} → d ≡ put b lane idle_lane → e ≡ yielded (lane_at b.lanes lane) out
            → (answer 0 0 d ≡ take_of b lane caller out) × (e ≡ taken_bytes b lane caller out)
        unfolding take_of taken_bytes answered
        take_done d e = (done _ _ _ _ (sym z ∙ take-told) refl (λ i. 0) d, e ∙ sym (if_done_lem _ (yielded (lane_at b.lanes lane) out) out (sym take-told ∙ z)))

    module _ (code : r ≡ close_code s.sound lane s.admitted) where
      close-told : r ≡ close_code (sound_bench b) lane (admits (lane_at b.lanes lane) caller)
      close-told = code ∙ ap (λ (k : Seen). close_code k.sound lane k.admitted) looked

      pub close-refused : r ≢ 0 → answer r 0 b ≡ close_of b lane caller
      unfolding close_of
      close-refused ne = refused _ _ _ _ close-told ne

      module _ (z : r ≡ 0) where
        close_in : ClosePassed (sound_bench b) lane (admits (lane_at b.lanes lane) caller)
        close_in = close_passed _ _ _ (sym close-told ∙ z)

        pub close_lane : lane < lane_count
        close_lane = close_in.lane_lt

        pub close_inside : lane < length b.lanes
        close_inside = inside b lane close_in.is_sound close_in.lane_lt

        pub close-done : {d : Bench} → d ≡ put b lane idle_lane → answer 0 0 d ≡ close_of b lane caller
        unfolding close_of
        close-done e = done _ _ _ _ (sym z ∙ close-told) refl (λ i. 0) e

  module _ (asked : ℕ) {s : Bool} (sound : s ≡ sound_bench b) {r : ℕ} (code : r ≡ turn_code s asked) where
    turn-told : r ≡ turn_code (sound_bench b) asked
    turn-told = code ∙ ap (λ (t : Bool). turn_code t asked) sound

    pub turn-refused : r ≢ 0 → answer r 0 b ≡ turn_of b asked
    unfolding turn_of
    turn-refused ne = refused _ _ _ _ turn-told ne

    pub turn_size : r ≡ 0 → length b.lanes ≡ lane_count
    turn_size z = (is_sound b (turn-passed (sound_bench b) asked (sym turn-told ∙ z)).is_sound).size

    pub turn-done : r ≡ 0 → {made : ℕ} {d : Bench} → made ≡ length (served_by asked b) → d ≡ turned_by asked b → answer 0 made d ≡ turn_of b asked
    unfolding turn_of
    turn-done z m e =
        done _ _ _ _ (sym z ∙ turn-told) refl (m ∙ made_is asked b (is_sound b (turn-passed (sound_bench b) asked (sym turn-told ∙ z)).is_sound)) e

-- what a look tells, the bench being as sound as was told
pub sees : (b : Bench) (lane caller : ℕ) {t : Bool} {s : Seen} → t ≡ sound_bench b → s ≡ seen b.lanes t lane caller → s ≡ seen b.lanes (sound_bench b) lane caller
sees b lane caller sound e = e ∙ ap (λ (t : Bool). seen b.lanes t lane caller) sound
