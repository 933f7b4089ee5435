-- A stream, byte by byte: the one definition of what it gives and where it then stands. Every eighty words, made from a key or not, are a cipher.
use Rattle.std.specs.Prelude.{cond, List, [], ◌∷◌, ℕ, zero, suc, ◌-◌, ◌%◌, eqb, get_or, replicate}
use Rattle.gift128.specs.Calls.{encrypted_by}
use Rattle.counter_orders.specs.Orders.{counters}
use Rattle.counter.specs.declared.Stream.{Stream}
use Rattle.counter.specs.Standard.{counter_block}

abbrev pub zero_block : List ℕ
zero_block = replicate 16 0

-- The block of the next counter is made: sixteen bytes are unused. After the last counter the stream is spent, and the counter is 0.
unfoldable pub refilled : Stream → Stream
refilled s =
    record {
      words = s.words;
      nonce = s.nonce;
      counter = suc s.counter % counters;
      block = encrypted_by s.words (counter_block s.nonce s.counter);
      unused = 16;
      spent = cond (eqb (suc s.counter) counters) 1 s.spent;
    }

-- a block is made only where no byte is unused
unfoldable pub ready : Stream → Stream
ready s = cond (eqb s.unused 0) (refilled s) s

-- One byte is used. A block whose bytes are all used is not kept: it is zero.
unfoldable pub used : Stream → Stream
used s =
    record {
      words = s.words;
      nonce = s.nonce;
      counter = s.counter;
      block = cond (eqb s.unused 1) zero_block s.block;
      unused = s.unused - 1;
      spent = s.spent;
    }

-- the byte at the stream's position, and the stream at the next
unfoldable pub key_byte : Stream → ℕ
key_byte s = get_or (ready s).block (16 - (ready s).unused) 0

unfoldable pub next : Stream → Stream
next s = used (ready s)

-- the key stream's next n bytes, and the stream after them
unfoldable pub key_bytes : ℕ → Stream → List ℕ
key_bytes zero s = []
key_bytes (suc n) s = key_byte s ∷ key_bytes n (next s)

unfoldable pub after : ℕ → Stream → Stream
after zero s = s
after (suc n) s = after n (next s)
