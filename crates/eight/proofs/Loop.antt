-- A loop over lanes, four lists at once: what is known of those before n, and that the others have what they had first.
use Rattle.std.proofs.Common.{◌≡◌, ℕ, ◌≤◌, ◌<◌, List}
use Rattle.primitives.specs.declared.State.{State}
use Rattle.eight.specs.Inner.{state_at}

pub record Done (R : ℕ → State → Type 0) (n : ℕ) (a₀ b₀ c₀ d₀ a b c d : List ℕ) : Type 0 where
  pub done : (k : ℕ) → k < n → R k (state_at a b c d k)
  pub rest : (k : ℕ) → n ≤ k → state_at a b c d k ≡ state_at a₀ b₀ c₀ d₀ k
