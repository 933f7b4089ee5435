-- Inner: many bytes at once, as the code goes: the unused ones, whole blocks, and the start of one more.
use Rattle.std.specs.Prelude.{◌≡◌, cond, List, ◌++◌, ℕ, ◌+◌, ◌-◌, ◌*◌, ◌/◌, ◌%◌, eqb, leb, take, drop}
use Rattle.gift128.specs.Calls.{encrypted_by}
use Rattle.counter_orders.specs.Orders.{counters, needed}
use Rattle.counter_orders.specs.declared.Place.{Place}
use Rattle.counter.specs.declared.Stream.{Stream}
use Rattle.counter.specs.Standard.{counter_block, key_blocks}

-- n bytes of new blocks, from the counter c on
abbrev pub new_bytes : (words nonce : List ℕ) (c n : ℕ) → List ℕ
new_bytes words nonce c n = take n (key_blocks (encrypted_by words) nonce c (needed 0 n))

-- and the block that the last of them comes from, if it is not used up
abbrev pub new_block : (words nonce : List ℕ) (c : ℕ) (old : List ℕ) (n : ℕ) → List ℕ
new_block words nonce c old n = cond (eqb (n % 16) 0) old (encrypted_by words (counter_block nonce (c + n / 16)))

-- n bytes from any place of a stream: those unused, then new ones
abbrev pub bytes_from : (words nonce : List ℕ) (c unused : ℕ) (block : List ℕ) (n : ℕ) → List ℕ
bytes_from words nonce c unused block n =
    cond (leb n unused) (take n (drop (16 - unused) block)) (drop (16 - unused) block ++ new_bytes words nonce c (n - unused))

abbrev pub block_from : (words nonce : List ℕ) (c unused : ℕ) (block : List ℕ) (n : ℕ) → List ℕ
block_from words nonce c unused block n = cond (leb n unused) block (new_block words nonce c block (n - unused))

-- what the functions for n bytes leave in the block and in the output
pub record LastBytes (words nonce : List ℕ) (c : ℕ) (block : List ℕ) (n : ℕ) (b out : List ℕ) : Type 0 where
  pub keeps : b ≡ cond (eqb n 0) block (encrypted_by words (counter_block nonce c))
  pub gives : out ≡ take n (encrypted_by words (counter_block nonce c))

pub record NewBytes (words nonce : List ℕ) (c : ℕ) (block : List ℕ) (n : ℕ) (b out : List ℕ) : Type 0 where
  pub keeps : b ≡ new_block words nonce c block n
  pub gives : out ≡ new_bytes words nonce c n

pub record MoreBytes (words nonce : List ℕ) (c unused : ℕ) (block : List ℕ) (n : ℕ) (b out : List ℕ) : Type 0 where
  pub keeps : b ≡ new_block words nonce c block (n - unused)
  pub gives : out ≡ drop (16 - unused) block ++ new_bytes words nonce c (n - unused)

pub record KeyBytes (words nonce : List ℕ) (c unused : ℕ) (block : List ℕ) (n : ℕ) (b out : List ℕ) : Type 0 where
  pub keeps : b ≡ block_from words nonce c unused block n
  pub gives : out ≡ bytes_from words nonce c unused block n

-- the numbers of a stream that move, and after n bytes
abbrev pub place_of : Stream → Place
place_of s = record { counter = s.counter; unused = s.unused; spent = s.spent }

unfoldable pub moved : Place → ℕ → Place
moved p n =
    let q : ℕ = needed p.unused n in
    record {
      counter = (p.counter + q) % counters;
      unused = p.unused + 16 * q - n;
      spent = cond (eqb (p.counter + q) counters) 1 p.spent;
    }
