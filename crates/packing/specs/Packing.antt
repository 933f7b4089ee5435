-- What packing and unpacking answer: sixteen bytes, seen through an order, or eight, and the four words of the block that they are; a stated answer for every other number and length.
use Rattle.std.specs.Prelude.{cond, ◌&&◌, List, ℕ, eqb, length}
use Rattle.published.specs.Bytes.{from_bytes, to_bytes}
use Rattle.published.specs.Seen.{is_order, read_in, write_in}
use Rattle.primitives.specs.declared.State.{State}
use Rattle.primitives.specs.Packed.{block_of, state_of, block_of64, state_of64}

-- what a slice of another length, or one in no order, is packed to
abbrev pub no_words : State
no_words = record { s0 = 0; s1 = 0; s2 = 0; s3 = 0 }

unfoldable pub packed : (order : ℕ) → List ℕ → State
packed order bs = cond (is_order order && eqb (length bs) 16) (state_of (read_in order bs)) no_words

-- a buffer of another length stays as it is, and so does any in no order
unfoldable pub unpacked : (order : ℕ) → State → List ℕ → List ℕ
unpacked order s out = cond (is_order order && eqb (length out) 16) (write_in order (block_of s)) out

-- the same of eight bytes, for GIFT-64
unfoldable pub packed64 : List ℕ → State
packed64 bs = cond (eqb (length bs) 8) (state_of64 (from_bytes bs)) no_words

unfoldable pub unpacked64 : State → List ℕ → List ℕ
unpacked64 s out = cond (eqb (length out) 8) (to_bytes 8 (block_of64 s)) out
