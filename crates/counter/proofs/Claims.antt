-- What is claimed of counter mode: it is the standard's, when 12 is given, decrypting is encrypting again, skipping whole blocks is starting later, no counter block is used twice, and no call has a second outcome.
use mathlib.Core.Path.{◌≡◌, refl, sym, ap, ap₂, fun_ext, ◌∙◌}
use mathlib.Core.Bool.{false}
use mathlib.Core.List.{List, []}
use Prim.Native.Nat.{ℕ, zero, suc, ◌+◌, ◌*◌, ◌/◌, ◌%◌, ◌≤◌, ◌<◌}
use native.Mathlib.Omega.{arith}
use lib.ListN.{length, drop, get_or}
use lib.Seq.{drop_at}
use borrow.Author.Tests.{eq-eqb, le-leb, lt-leb}
use Rattle.answers.specs.Numbers.{TOO_FEW_COUNTERS}
use Rattle.answers.specs.Outcome.{OneOutcome}
use Rattle.answers.proofs.Outcome.{one_outcome}
use Rattle.published.specs.Bytes.{from_bytes, to_bytes}
use Rattle.published.specs.Gift128.{encrypted}
use Rattle.published.proofs.Reading.{from_to}
use Rattle.key_schedule.specs.Expand.{expanded}
use Rattle.gift128.specs.Calls.{encrypted_by}
use Rattle.gift128.proofs.Blocks.{crossed-key}
use Rattle.counter_orders.specs.Orders.{counters, needed, left, enough, piece_code}
use Rattle.counter_orders.proofs.Passing.{piece-passed, piece_short}
use Rattle.counter.specs.declared.Stream.{Stream}
use Rattle.counter.specs.Standard.{◌⊕◌, counter_block, key_blocks, counter_mode}
use Rattle.counter.specs.Steps.{zero_block, key_byte, key_bytes, after}
use Rattle.counter.specs.Calls.{code_of, started_by, Left, fed, Starts, Feeds}
use Rattle.counter.specs.Pieces.{Accepted}
use Rattle.counter.proofs.Strings.{length-⊕, ⊕-longer, ⊕_again}
use Rattle.counter.proofs.Jumping.{mk, length-bytes, skip_bytes, skip_unspent, new_bytes_lem, byte_at}
use Rattle.counter.proofs.Leaving.{fits_left}

-- ---- the standard's counter mode

by_key : (key : List ℕ) → encrypted_by (expanded key) ≡ encrypted key
unfolding encrypted_by encrypted
by_key key = fun_ext (crossed-key 0 false key)

-- the key stream from the first counter on, block after block
pub key-stream : (key nonce : List ℕ) (c k : ℕ) → c + k ≤ counters → key_bytes (16 * k) (started_by (expanded key) nonce c) ≡ key_blocks (encrypted key) nonce c k
unfolding started_by
key-stream key nonce c k h = skip_bytes (expanded key) nonce k c zero_block 0 h ∙ ap (λ (f : List ℕ → List ℕ). key_blocks f nonce c k) (by_key key)

-- a message, whole, from a started stream
pub whole_message : (key nonce : List ℕ) (c : ℕ) (m : List ℕ) → c < counters → Accepted (started_by (expanded key) nonce c) (length m)
    → (fed (started_by (expanded key) nonce c) m).bytes ≡ counter_mode (encrypted key) nonce c m
unfolding started_by fed counter_mode
whole_message key nonce c m lt e =
    let p = piece-passed c 0 0 (length m) (length m) e in
    ap (λ (k : List ℕ). m ⊕ k) (new_bytes_lem (expanded key) nonce (length m) c zero_block 0 (fits_left c 0 (needed 0 (length m)) lt p.2))
    ∙ ⊕-longer m (key_blocks (encrypted_by (expanded key)) nonce c (needed 0 (length m)))
    ∙ ap₂ (λ (f : List ℕ → List ℕ) (q : ℕ). m ⊕ key_blocks f nonce c q) (by_key key) same
  where
    same : needed 0 (length m) ≡ (length m + 15) / 16
    same = omega arith

-- ---- exactly when 12

-- it is given to a piece that has neither of the other refusals and needs more new blocks than counters are left, and to no other
pub too_few : (s : Stream) (input output : ℕ) → code_of s input output ≡ TOO_FEW_COUNTERS → (s.unused ≤ 15) × (output ≡ input) × (left s.counter s.spent < needed s.unused input)
too_few s input output = piece_short s.counter s.unused s.spent input output

pub if_too_few : (s : Stream) (n : ℕ) → s.unused ≤ 15 → left s.counter s.spent < needed s.unused n → code_of s n n ≡ TOO_FEW_COUNTERS
unfolding piece_code enough
if_too_few s n u h = rw (le-leb s.unused 15 u, eq-eqb n n refl, lt-leb (needed s.unused n) (left s.counter s.spent) h)

-- an empty piece is not, and it leaves the stream as it is
pub never_for_nothing : (s : Stream) (output : ℕ) → code_of s 0 output ≡ TOO_FEW_COUNTERS → ⊥
never_for_nothing s output e = none (left s.counter s.spent) (too_few s 0 output e).2
  where
    none : (l : ℕ) → l < needed s.unused 0 → ⊥
    none l h = omega arith

pub nothing-fed : (s : Stream) → fed s [] ≡ record { stream = s; bytes = [] }
unfolding fed after ◌⊕◌
nothing-fed s = refl

-- ---- decrypting is encrypting again

pub again : (s : Stream) (m : List ℕ) → fed s (fed s m).bytes ≡ record { stream = (fed s m).stream; bytes = m }
unfolding fed
again s m =
    λ i. record { stream = after (long i) s; bytes = (ap (λ (n : ℕ). (m ⊕ key_bytes (length m) s) ⊕ key_bytes n s) long ∙ ⊕_again m (key_bytes (length m) s) even) i }
  where
    even : length m ≡ length (key_bytes (length m) s)
    even = sym (length-bytes (length m) s)

    long : length (m ⊕ key_bytes (length m) s) ≡ length m
    long = length-⊕ m (key_bytes (length m) s) even ∙ sym even

-- ---- starting later

pub skipped : (words nonce : List ℕ) (c k : ℕ) → c + k < counters → after (16 * k) (started_by words nonce c) ≡ started_by words nonce (c + k)
unfolding started_by after
skipped words nonce c zero h = λ i. mk words nonce (here i) zero_block 0 0
  where
    here : c ≡ c + 0
    here = omega arith
skipped words nonce c (suc k) h = skip_unspent words nonce k c zero_block 0 h

-- ---- no counter block twice

-- the byte at position n is of the block of the counter n / 16 after the first
pub position : (words nonce : List ℕ) (c n : ℕ) → c + n / 16 < counters → key_byte (after n (started_by words nonce c)) ≡ get_or (encrypted_by words (counter_block nonce (c + n / 16))) (n % 16) 0
unfolding started_by
position words nonce c n h = byte_at words nonce n c zero_block 0 h

-- and positions that are not of one block are of two counter blocks
pub never-twice : (nonce : List ℕ) (c m n : ℕ) → c + m / 16 < counters → c + n / 16 < counters → counter_block nonce (c + m / 16) ≡ counter_block nonce (c + n / 16) → m / 16 ≡ n / 16
unfolding counter_block
never-twice nonce c m n hm hn e =
    let same : c + m / 16 ≡ c + n / 16 =
    sym (from_to 4 (c + m / 16) hm)
    ∙ ap from_bytes (sym (drop_at nonce (to_bytes 4 (c + m / 16)) (length nonce) refl) ∙ ap (drop (length nonce)) e ∙ drop_at nonce (to_bytes 4 (c + n / 16)) (length nonce) refl)
    ∙ from_to 4 (c + n / 16) hn in
    omega arith

-- ---- no second outcome

pub start : (key nonce : List ℕ) (c : ℕ) → OneOutcome (Starts key nonce c)
start key nonce c = one_outcome _ _ _

pub piece : (s : Stream) (input output : List ℕ) (r r' : ℕ) (e e' : Stream) (u u' : List ℕ) → Feeds s input output r e u → Feeds s input output r' e' u' → (r ≡ r') × (e ≡ e') × (u ≡ u')
piece s input output r r' e e' u u' f g =
    let o = one_outcome _ _ _ r r' _ _ f g in
    (o.0, ap (λ (l : Left). l.stream) o.1, ap (λ (l : Left). l.bytes) o.1)
