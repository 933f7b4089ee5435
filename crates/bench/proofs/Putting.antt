-- A sound record put into a lane leaves a bench sound.
use mathlib.Core.Path.{◌≡◌}
use mathlib.Core.Bool.{true}
use Prim.Native.Nat.{ℕ, ◌<◌}
use Rattle.lane.specs.declared.Lane.{Lane}
use Rattle.lane.specs.Record.{sound_lane}
use Rattle.bench_orders.specs.Orders.{lane_count}
use Rattle.bench_turns.specs.declared.Bench.{Bench}
use Rattle.bench_turns.proofs.Soundness.{Sound, sound-set}
use Rattle.bench.specs.Calls.{put}

pub sound-put : (b : Bench) (i : ℕ) (l : Lane) → Sound b → i < lane_count → sound_lane l ≡ true → Sound (put b i l)
unfolding put
sound-put b i l s hi ok = sound-set b i b.last l s hi s.last_lt ok
