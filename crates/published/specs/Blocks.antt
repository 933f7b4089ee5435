-- Many blocks, of `size` bytes each: block i of the answer from block i of the input.
use Rattle.std.specs.Prelude.{List, [], ◌++◌, ℕ, zero, suc, ◌/◌, length, take, drop}

-- n blocks
unfoldable pub each_of : (size : ℕ) → (List ℕ → List ℕ) → ℕ → List ℕ → List ℕ
each_of size f zero input = []
each_of size f (suc n) input = f (take size input) ++ each_of size f n (drop size input)

-- all of them
unfoldable pub all_of : (size : ℕ) → (List ℕ → List ℕ) → List ℕ → List ℕ
all_of size f input = each_of size f (length input / size) input

-- n lists, one after the other
unfoldable pub joined : ℕ → (ℕ → List ℕ) → List ℕ
joined zero g = []
joined (suc n) g = joined n g ++ g n
