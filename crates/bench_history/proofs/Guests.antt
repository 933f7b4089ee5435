-- A guest learns nothing of the others but which lanes are busy and how many turns were made: two benches that look alike to it give it like answers
-- to like calls, and look alike after them.
use mathlib.Core.Path.{◌≡◌, refl, sym, ap, ◌∙◌}
use mathlib.Core.Bool.{Bool, true, false, cond, ◌&&◌}
use mathlib.Core.List.{List, [], ◌∷◌}
use mathlib.Core.Logic.{◌≢◌}
use Prim.Native.Nat.{ℕ, zero, suc, ◌+◌, min}
use native.Mathlib.Decide.{ℕ_discrete}
use lib.Dec.{eqb, ltb}
use lib.ListN.{length, set}
use borrow.Author.Tests.{eqb-true, eqb-false, ne_eqb}
use Rattle.answers.specs.Order.{if_done}
use Rattle.answers.proofs.Outcome.{if_done_lem, if_refused}
use Rattle.bits.proofs.Truth.{cond_either}
use Rattle.primitives.specs.declared.State.{State}
use Rattle.packing.specs.Packing.{packed}
use Rattle.gift128.specs.Calls.{new_words}
use Rattle.lane.specs.declared.Lane.{Lane}
use Rattle.lane.specs.Record.{idle, running, finished, idle_lane, sound_lane, admits}
use Rattle.lane.proofs.Records.{busy_is, busy-admits}
use Rattle.lane_turns.specs.Turns.{opened, advanced, served, lacks, yielded}
use Rattle.lane_turns.proofs.Serving.{next}
use Rattle.bench_orders.specs.Orders.{lane_count, open_code, turn_code, take_code, close_code}
use Rattle.bench_turns.specs.declared.Bench.{Bench}
use Rattle.bench_turns.specs.Turning.{lane_at, runs, after, seek, chosen, any_runs, turned, turned_by, total}
use Rattle.bench_turns.specs.Sound.{all_sound, sound_bench}
use Rattle.bench.specs.Calls.{fresh_bench, put, answered, open_of, turn_of, take_of, taken_bytes, close_of}
use Rattle.bench_history.specs.History.{Call, opening, turning, taking, closing, answer_to, code_of, leaves, tells}
use Rattle.bench_history.specs.Guests.{Alike, same, opens, takes, Pairwise, none, more, takes_as, buffer, told, learns, Apart}
use Rattle.bench_history.proofs.Accepted.{takes as take_done}

module _ (g : ℕ) where
  -- ---- two records look alike to g: the same, or both busy for one other guest and different in words and state only

  data Like : Lane → Lane → Type 0 where
    self : (l : Lane) → Like l l
    veil : (phase direction owner count order : ℕ) (ws vs : List ℕ) (s r : State) → phase ≢ idle → owner ≢ g
        → Like (record { phase = phase; direction = direction; owner = owner; count = count; order = order; words = ws; state = s })
        (record { phase = phase; direction = direction; owner = owner; count = count; order = order; words = vs; state = r })

  like_phase : (k l : Lane) → Like k l → k.phase ≡ l.phase
  like_phase k l (self x) = refl
  like_phase k l (veil phase direction owner count order ws vs s r busy ne) = refl

  like_lacks : (k l : Lane) → Like k l → lacks k ≡ lacks l
  unfolding lacks
  like_lacks k l (self x) = refl
  like_lacks k l (veil phase direction owner count order ws vs s r busy ne) = refl

  like_admits : (k l : Lane) → Like k l → (caller : ℕ) → admits k caller ≡ admits l caller
  unfolding admits
  like_admits k l (self x) caller = refl
  like_admits k l (veil phase direction owner count order ws vs s r busy ne) caller = refl

  like_sound : (k l : Lane) → Like k l → sound_lane k ≡ sound_lane l
  like_sound k l (self x) = refl
  like_sound k l (veil phase direction owner count order ws vs s r busy ne) = busy_is k busy ∙ sym (busy_is l busy)

  -- what g may take from is the same
  like_own : (k l : Lane) → Like k l → admits k g ≡ true → k ≡ l
  like_own k l (self x) e = refl
  like_own k l (veil phase direction owner count order ws vs s r busy ne) e = absurd (ne (eqb-true owner g (sym (busy-admits k g busy) ∙ e)))

  like_served : (k l : Lane) → Like k l → Like (served k) (served l)
  unfolding served
  like_served k l (self x) = self (served x)
  like_served k l (veil phase direction owner count order ws vs s r busy ne) = go (ltb count 8)
    where
      p : ℕ
      p = cond (eqb (count + 1) 8) finished running

      woken : p ≢ idle
      woken = cond_either (λ (q : ℕ). q ≢ idle) (eqb (count + 1) 8) finished running (λ t. eqb-false 2 0 refl) (λ t. eqb-false 1 0 refl)

      go : (t : Bool) → Like (cond t (next k) k) (cond t (next l) l)
      go true = veil p direction owner (count + 1) order ws vs (advanced k) (advanced l) woken ne
      go false = veil phase direction owner count order ws vs s r busy ne

  -- ---- two lists of records

  data Likes : List Lane → List Lane → Type 0 where
    nil : Likes [] []
    cons : (k l : Lane) (ks ls : List Lane) → Like k l → Likes ks ls → Likes (k ∷ ks) (l ∷ ls)

  likes_self : (ls : List Lane) → Likes ls ls
  likes_self [] = nil
  likes_self (l ∷ ls) = cons l l ls ls (self l) (likes_self ls)

  likes_length : (ks ls : List Lane) → Likes ks ls → length ks ≡ length ls
  likes_length ks ls nil = refl
  likes_length ks ls (cons k l us vs h hs) = ap suc (likes_length us vs hs)

  likes_at : (ks ls : List Lane) → Likes ks ls → (n : ℕ) → Like (lane_at ks n) (lane_at ls n)
  likes_at ks ls nil n = self _
  likes_at ks ls (cons k l us vs h hs) zero = h
  likes_at ks ls (cons k l us vs h hs) (suc n) = likes_at us vs hs n

  likes_set : (ks ls : List Lane) → Likes ks ls → (n : ℕ) (x y : Lane) → Like x y → Likes (set ks n x) (set ls n y)
  likes_set ks ls nil n x y e = nil
  likes_set ks ls (cons k l us vs h hs) zero x y e = cons x y us vs e hs
  likes_set ks ls (cons k l us vs h hs) (suc n) x y e = cons k l _ _ h (likes_set us vs hs n x y e)

  likes_sound : (ks ls : List Lane) → Likes ks ls → all_sound ks ≡ all_sound ls
  unfolding all_sound
  likes_sound ks ls nil = refl
  likes_sound ks ls (cons k l us vs h hs) = λ i. like_sound k l h i && likes_sound us vs hs i

  likes_total : (ks ls : List Lane) → Likes ks ls → total lacks ks ≡ total lacks ls
  unfolding total
  likes_total ks ls nil = refl
  likes_total ks ls (cons k l us vs h hs) = λ i. like_lacks k l h i + likes_total us vs hs i

  likes_seek : (ks ls : List Lane) → Likes ks ls → (m i : ℕ) → seek m ks i ≡ seek m ls i
  unfolding seek runs
  likes_seek ks ls hs zero i = refl
  likes_seek ks ls hs (suc m) i =
      λ j. cond (eqb (like_phase (lane_at ks i) (lane_at ls i) (likes_at ks ls hs i) j) running) i (likes_seek ks ls hs m (after i) j)

  -- ---- two benches

  record LikeBench (b d : Bench) : Type 0 where
    lanes : Likes b.lanes d.lanes
    last : b.last ≡ d.last

  bench-self : (b : Bench) → LikeBench b b
  bench-self b = record { lanes = likes_self b.lanes; last = refl }

  like_put : (b d : Bench) → LikeBench b d → (n : ℕ) (x y : Lane) → Like x y → LikeBench (put b n x) (put d n y)
  unfolding put
  like_put b d h n x y e = record { lanes = likes_set b.lanes d.lanes h.lanes n x y e; last = h.last }

  module _ (b d : Bench) (h : LikeBench b d) where
    like_lane : (n : ℕ) → Like (lane_at b.lanes n) (lane_at d.lanes n)
    like_lane n = likes_at b.lanes d.lanes h.lanes n

    sound_alike : sound_bench b ≡ sound_bench d
    unfolding sound_bench
    sound_alike =
        λ i. eqb (likes_length b.lanes d.lanes h.lanes i) lane_count && ltb (h.last i) lane_count && likes_sound b.lanes d.lanes h.lanes i

    chosen_alike : chosen b ≡ chosen d
    unfolding chosen
    chosen_alike =
        ap (λ (n : ℕ). seek lane_count b.lanes (after n)) h.last ∙ likes_seek b.lanes d.lanes h.lanes lane_count (after d.last)

    phase_alike : (n : ℕ) → (lane_at b.lanes n).phase ≡ (lane_at d.lanes n).phase
    phase_alike n = like_phase _ _ (like_lane n)

    admits_alike : (n caller : ℕ) → admits (lane_at b.lanes n) caller ≡ admits (lane_at d.lanes n) caller
    admits_alike n caller = like_admits _ _ (like_lane n) caller

  like_turned : (b d : Bench) → LikeBench b d → LikeBench (turned b) (turned d)
  unfolding turned any_runs
  like_turned b d h = go (chosen b) (chosen d) (chosen_alike b d h)
    where
      at : (m n : ℕ) → m ≡ n → (t : Bool)
          → LikeBench (cond t (record { lanes = set b.lanes m (served (lane_at b.lanes m)); last = m }) b)
          (cond t (record { lanes = set d.lanes n (served (lane_at d.lanes n)); last = n }) d)
      at m n e true =
          rw e
          (record {
            lanes = likes_set b.lanes d.lanes h.lanes n _ _ (like_served _ _ (like_lane b d h n));
            last = refl;
          })
      at m n e false = h

      go : (m n : ℕ) → m ≡ n
          → LikeBench (cond (ltb m lane_count) (record { lanes = set b.lanes m (served (lane_at b.lanes m)); last = m }) b)
          (cond (ltb n lane_count) (record { lanes = set d.lanes n (served (lane_at d.lanes n)); last = n }) d)
      go m n e = rw e (at n n refl (ltb n lane_count))

  like_turns : (k : ℕ) (b d : Bench) → LikeBench b d → LikeBench (turned_by k b) (turned_by k d)
  unfolding turned_by
  like_turns zero b d h = h
  like_turns (suc k) b d h = like_turns k (turned b) (turned d) (like_turned b d h)

  -- done or refused alike
  like_if : (p q : ℕ) → p ≡ q → (b d n m : Bench) → LikeBench n m → LikeBench b d → LikeBench (if_done p n b) (if_done q m d)
  like_if p q e b d n m new old = rw e (go (eqb q 0))
    where
      go : (t : Bool) → LikeBench (cond t n b) (cond t m d)
      go true = new
      go false = old

  -- ---- one call, two benches: the same number, as many turns told

  module _ (b d : Bench) (h : LikeBench b d) where
    code_benches : (c : Call) → code_of b c ≡ code_of d c
    unfolding answer_to open_of turn_of take_of close_of answered
    code_benches (opening lane owner direction order key block) =
        λ i. open_code (sound_alike b d h i) lane (phase_alike b d h lane i) owner direction order (length key) (length block)
    code_benches (turning asked) = λ i. turn_code (sound_alike b d h i) asked
    code_benches (taking lane caller out) = λ i. take_code (sound_alike b d h i) lane (admits_alike b d h lane caller i) (phase_alike b d h lane i) (length out)
    code_benches (closing lane caller) = λ i. close_code (sound_alike b d h i) lane (admits_alike b d h lane caller i)

    tells_benches : (c : Call) → tells b c ≡ tells d c
    unfolding answer_to open_of turn_of take_of close_of answered
    tells_benches (opening lane owner direction order key block) = λ i. if_done (code_benches (opening lane owner direction order key block) i) 0 0
    tells_benches (turning asked) =
        λ i. if_done (code_benches (turning asked) i) (min asked (likes_total b.lanes d.lanes h.lanes i)) 0
    tells_benches (taking lane caller out) = λ i. if_done (code_benches (taking lane caller out) i) 0 0
    tells_benches (closing lane caller) = λ i. if_done (code_benches (closing lane caller) i) 0 0

    -- the buffer after a take with g's number
    own_buffer : (lane : ℕ) (out : List ℕ) → taken_bytes b lane g out ≡ taken_bytes d lane g out
    unfolding taken_bytes answer_to
    own_buffer lane out =
        let e : (take_of b lane g out).code ≡ (take_of d lane g out).code = code_benches (taking lane g out) in
        elim (ℕ_discrete (take_of b lane g out).code 0) [
          | yes z ↦ if_done_lem _ _ out z
              ∙ ap (λ (l : Lane). yielded l out) (like_own _ _ (like_lane b d h lane) (take_done b lane g out z).admitted) ∙ sym (if_done_lem _ _ out (sym e ∙ z))
          | no ne ↦ if_refused _ _ out ne ∙ sym (if_refused _ _ out (λ z. ne (e ∙ z)))
        ]

    bytes_benches : (c : Call) → cond (takes_as g c) (buffer b c) [] ≡ cond (takes_as g c) (buffer d c) []
    unfolding takes_as buffer
    bytes_benches (opening lane owner direction order key block) = refl
    bytes_benches (turning asked) = refl
    bytes_benches (taking lane caller out) = go (eqb caller g) (λ t. eqb-true caller g t)
      where
        go : (t : Bool) → (t ≡ true → caller ≡ g) → cond t (taken_bytes b lane caller out) [] ≡ cond t (taken_bytes d lane caller out) []
        go true e = rw (e refl) (own_buffer lane out)
        go false e = refl
    bytes_benches (closing lane caller) = refl

    told_benches : (c : Call) → told g b c ≡ told g d c
    unfolding told
    told_benches c = λ i. record { code = code_benches c i; turns = tells_benches c i; bytes = bytes_benches c i }

  -- ---- two alike calls, one bench

  code-calls : (b : Bench) (c e : Call) → Alike g c e → code_of b c ≡ code_of b e
  unfolding answer_to open_of take_of answered
  code-calls b c e (same x) = refl
  code-calls b c e (opens lane owner direction order key block keys blocks ne k l) =
      λ i. open_code (sound_bench b) lane (lane_at b.lanes lane).phase owner direction order (k i) (l i)
  code-calls b c e (takes lane caller out into ne l) =
      λ i. take_code (sound_bench b) lane (admits (lane_at b.lanes lane) caller) (lane_at b.lanes lane).phase (l i)

  told-calls : (b : Bench) (c e : Call) → Alike g c e → told g b c ≡ told g b e
  unfolding told takes_as answer_to open_of take_of answered
  told-calls b c e (same x) = refl
  told-calls b c e (opens lane owner direction order key block keys blocks ne k l) =
      λ i. record { code = code-calls b c e (opens lane owner direction order key block keys blocks ne k l) i; turns = if_done (code-calls b c e (opens lane owner direction order key block keys blocks ne k l) i) 0 0; bytes = [] }
  told-calls b c e (takes lane caller out into ne l) =
      λ i. record { code = code-calls b c e (takes lane caller out into ne l) i; turns = if_done (code-calls b c e (takes lane caller out into ne l) i) 0 0; bytes = unseen i }
    where
      unseen : cond (eqb caller g) (buffer b c) [] ≡ cond (eqb caller g) (buffer b e) []
      unseen = rw (ne_eqb caller g ne)

  -- ---- two alike calls, two benches: they look alike afterwards

  like_leaves : (b d : Bench) → LikeBench b d → (c e : Call) → Alike g c e → LikeBench (leaves b c) (leaves d e)
  unfolding answer_to open_of turn_of take_of close_of answered opened
  like_leaves b d h c e a = go c e a (code_benches b d h c ∙ code-calls d c e a)
    where
      go : (x y : Call) → Alike g x y → code_of b x ≡ code_of d y → LikeBench (leaves b x) (leaves d y)
      go x y (same z) n = alone z n
        where
          alone : (x : Call) → code_of b x ≡ code_of d x → LikeBench (leaves b x) (leaves d x)
          alone (opening lane owner direction order key block) n = like_if _ _ n b d _ _ (like_put b d h lane _ _ (self (opened owner direction order key block))) h
          alone (turning asked) n = like_if _ _ n b d _ _ (like_turns asked b d h) h
          alone (taking lane caller out) n = like_if _ _ n b d _ _ (like_put b d h lane _ _ (self idle_lane)) h
          alone (closing lane caller) n = like_if _ _ n b d _ _ (like_put b d h lane _ _ (self idle_lane)) h
      go x y (opens lane owner direction order key block keys blocks ne k l) n =
          like_if _ _ n b d _ _
          (like_put b d h lane _ _ (veil running direction owner 0 order (new_words key) (new_words keys) (packed order block) (packed order blocks) (eqb-false 1 0 refl) ne)) h
      go x y (takes lane caller out into ne l) n = like_if _ _ n b d _ _ (like_put b d h lane _ _ (self idle_lane)) h

  -- ---- and so on through two lists

  like_learns : (b d : Bench) → LikeBench b d → (cs ds : List Call) → Pairwise g cs ds → learns g b cs ≡ learns g d ds
  unfolding learns
  like_learns b d h cs ds none = refl
  like_learns b d h cs ds (more c e us vs a rest) =
      λ i. (told_benches b d h c ∙ told-calls d c e a) i ∷ like_learns (leaves b c) (leaves d e) (like_leaves b d h c e a) us vs rest i

pub apart : Apart
apart g cs ds alike = like_learns g fresh_bench fresh_bench (bench-self g fresh_bench) cs ds alike
