-- Many bytes at once: what the code computes of a stream, its unused bytes, whole blocks and the start of one more, is what as many single steps give.
use mathlib.Core.Path.{◌≡◌, refl, sym, ap, ap₂, ◌∙◌}
use mathlib.Core.Bool.{Bool, true, false, cond}
use mathlib.Core.List.{List, [], ◌∷◌, ◌++◌}
use Prim.Native.Nat.{ℕ, zero, suc, ◌+◌, ◌-◌, ◌*◌, ◌/◌, ◌%◌, ◌≤◌, ◌<◌}
use native.Mathlib.Nat.{zero-add, suc-add, le_refl, le_of_suc-le-suc, not-suc-le-zero}
use native.Mathlib.Omega.{arith}
use lib.Dec.{eqb, leb, eqb-suc-suc, eqb-suc-zero}
use lib.ListN.{length, take, drop, get_or, length-drop}
use lib.Seq.{take_all, take_at, drop-cons}
use borrow.Author.Tests.{eq-eqb, ne_eqb, eqb-true, eqb-false, leb-true, leb-false}
use Rattle.bits.proofs.Computed.{cond-true, cond-false}
use Rattle.gift128.specs.Calls.{encrypted_by}
use Rattle.counter_orders.specs.Orders.{counters, needed}
use Rattle.counter.specs.declared.Stream.{Stream}
use Rattle.counter.specs.Standard.{counter_block, key_blocks}
use Rattle.counter.specs.Steps.{zero_block, refilled, ready, used, key_byte, next, key_bytes, after}
use Rattle.counter.specs.Inner.{new_bytes, new_block, bytes_from, block_from}
use Rattle.counter.proofs.Blocks.{length-encrypted}

-- ---- m bytes, and then n

pub after_add : (m n : ℕ) (s : Stream) → after (m + n) s ≡ after n (after m s)
unfolding after
after_add zero n s = ap (λ (k : ℕ). after k s) (zero-add n)
after_add (suc m) n s = ap (λ (k : ℕ). after k s) (suc-add m n) ∙ after_add m n (next s)

pub bytes-add : (m n : ℕ) (s : Stream) → key_bytes (m + n) s ≡ key_bytes m s ++ key_bytes n (after m s)
unfolding key_bytes after
bytes-add zero n s = ap (λ (k : ℕ). key_bytes k s) (zero-add n)
bytes-add (suc m) n s = ap (λ (k : ℕ). key_bytes k s) (suc-add m n) ∙ ap (λ (l : List ℕ). key_byte s ∷ l) (bytes-add m n (next s))

pub length-bytes : (n : ℕ) (s : Stream) → length (key_bytes n s) ≡ n
unfolding key_bytes
length-bytes zero s = refl
length-bytes (suc n) s = ap suc (length-bytes n (next s))

-- the first n bytes of more
pub bytes_first : (n m : ℕ) (s : Stream) → key_bytes n s ≡ take n (key_bytes (n + m) s)
bytes_first n m s = sym (ap (take n) (bytes-add n m s) ∙ take_at (key_bytes n s) (key_bytes m (after n s)) n (length-bytes n s))

-- ---- a stream by its parts

abbrev pub mk : (w o : List ℕ) → ℕ → List ℕ → ℕ → ℕ → Stream
mk w o c b u p = record { words = w; nonce = o; counter = c; block = b; unused = u; spent = p }

module _ (w o : List ℕ) where
  -- the block of a counter, and whether the stream is spent after it
  abbrev pub E : ℕ → List ℕ
  E c = encrypted_by w (counter_block o c)

  abbrev pub spent_after : ℕ → ℕ → ℕ
  spent_after c p = cond (eqb c counters) 1 p

  -- ---- bytes that are unused

  ready_unused : (c : ℕ) (b : List ℕ) (v p : ℕ) → ready (mk w o c b (suc v) p) ≡ mk w o c b (suc v) p
  unfolding ready
  ready_unused c b v p = cond-false (eqb (suc v) 0) (refilled (mk w o c b (suc v) p)) (mk w o c b (suc v) p) (eqb-suc-zero v)

  next_unused : (c : ℕ) (b : List ℕ) (v p : ℕ) → next (mk w o c b (suc v) p) ≡ mk w o c (cond (eqb v 0) zero_block b) v p
  unfolding next used
  next_unused c b v p = ap used (ready_unused c b v p) ∙ (λ i. mk w o c (cond (eqb-suc-suc v 0 i) zero_block b) (less i) p)
    where
      less : suc v - 1 ≡ v
      less = omega arith

  -- while one more stays, the block does
  next_more : (c : ℕ) (b : List ℕ) (v p : ℕ) → next (mk w o c b (suc (suc v)) p) ≡ mk w o c b (suc v) p
  next_more c b v p = next_unused c b (suc v) p ∙ (λ i. mk w o c (cond (eqb-suc-zero v i) zero_block b) (suc v) p)

  byte_unused : (c : ℕ) (b : List ℕ) (v p : ℕ) → key_byte (mk w o c b (suc v) p) ≡ get_or b (16 - suc v) 0
  unfolding key_byte
  byte_unused c b v p = ap (λ (s : Stream). get_or s.block (16 - s.unused) 0) (ready_unused c b v p)

  pub within : (m v c : ℕ) (b : List ℕ) (u p : ℕ) → u ≡ suc m + v → after (suc m) (mk w o c b u p) ≡ mk w o c (cond (eqb v 0) zero_block b) v p
  unfolding after
  within zero v c b u p e = ap (λ (n : ℕ). next (mk w o c b n p)) one ∙ next_unused c b v p
    where
      one : u ≡ suc v
      one = omega arith
  within (suc m) v c b u p e =
      ap (λ (n : ℕ). after (suc m) (next (mk w o c b n p))) two ∙ ap (after (suc m)) (next_more c b (m + v) p) ∙ within m v c b (suc (m + v)) p (omega arith)
    where
      two : u ≡ suc (suc (m + v))
      two = omega arith

  -- the byte that stands next in the block, and those after it
  one_byte : (m : ℕ) (b : List ℕ) (v : ℕ) → length b ≡ 16 → suc v ≤ 16 → get_or b (16 - suc v) 0 ∷ take m (drop (16 - v) b) ≡ take (suc m) (drop (16 - suc v) b)
  one_byte m b v len l = ap (take (suc m)) (ap (λ (n : ℕ). get_or b (16 - suc v) 0 ∷ drop n b) place ∙ sym (drop-cons b (16 - suc v) 0 (omega arith)))
    where
      place : 16 - v ≡ suc (16 - suc v)
      place = omega arith

  pub bytes_within : (m c : ℕ) (b : List ℕ) (u p : ℕ) → length b ≡ 16 → m ≤ u → u ≤ 16 → key_bytes m (mk w o c b u p) ≡ take m (drop (16 - u) b)
  unfolding key_bytes
  bytes_within zero c b u p len h l = refl
  bytes_within (suc m) c b zero p len h l = absurd (not-suc-le-zero h)
  bytes_within (suc zero) c b (suc v) p len h l = ap (λ (x : ℕ). x ∷ []) (byte_unused c b v p) ∙ one_byte 0 b v len l
  bytes_within (suc (suc m)) c b (suc zero) p len h l = absurd (not-suc-le-zero (le_of_suc-le-suc h))
  bytes_within (suc (suc m)) c b (suc (suc v)) p len h l =
      ap₂ ◌∷◌ (byte_unused c b (suc v) p) (ap (key_bytes (suc m)) (next_more c b v p) ∙ bytes_within (suc m) c b (suc v) p len (le_of_suc-le-suc h) (omega arith))
      ∙ one_byte (suc m) b (suc v) len l

  -- ---- whole blocks

  -- a block is made
  pub after_new : (m c : ℕ) (b : List ℕ) (p : ℕ) → after (suc m) (mk w o c b 0 p) ≡ after (suc m) (mk w o (suc c % counters) (E c) 16 (spent_after (suc c) p))
  unfolding after next ready refilled
  after_new m c b p = refl

  pub bytes_new : (m c : ℕ) (b : List ℕ) (p : ℕ) → key_bytes m (mk w o c b 0 p) ≡ key_bytes m (mk w o (suc c % counters) (E c) 16 (spent_after (suc c) p))
  unfolding key_bytes key_byte next ready refilled
  bytes_new zero c b p = refl
  bytes_new (suc m) c b p = refl

  one_block : (c : ℕ) (b : List ℕ) (p : ℕ) → key_bytes 16 (mk w o c b 0 p) ≡ E c
  one_block c b p =
      bytes_new 16 c b p ∙ bytes_within 16 (suc c % counters) (E c) 16 (spent_after (suc c) p) (length-encrypted w (counter_block o c)) (omega arith) (omega arith)
      ∙ take_all 16 (E c) (omega (arith, length-encrypted w (counter_block o c)))

  one_after : (c : ℕ) (b : List ℕ) (p : ℕ) → after 16 (mk w o c b 0 p) ≡ mk w o (suc c % counters) zero_block 0 (spent_after (suc c) p)
  one_after c b p = after_new 15 c b p ∙ within 15 0 (suc c % counters) (E c) 16 (spent_after (suc c) p) refl

  -- while the last counter is not used, the next is one more, and the stream is not spent
  small : (c : ℕ) → c < counters → c % counters ≡ c
  small c h = omega arith

  unspent : (c p : ℕ) → c < counters → spent_after c p ≡ p
  unspent c p h = cond-false (eqb c counters) 1 p (ne_eqb c counters (λ (e : c ≡ counters). omega arith))

  next_blocks : (k c : ℕ) → suc c + k ≤ counters → key_blocks (encrypted_by w) o (suc c % counters) k ≡ key_blocks (encrypted_by w) o (suc c) k
  unfolding key_blocks
  next_blocks zero c h = refl
  next_blocks (suc k) c h = ap (λ (n : ℕ). key_blocks (encrypted_by w) o n (suc k)) (small (suc c) (omega arith))

  pub skip_bytes : (k c : ℕ) (b : List ℕ) (p : ℕ) → c + k ≤ counters → key_bytes (16 * k) (mk w o c b 0 p) ≡ key_blocks (encrypted_by w) o c k
  unfolding key_blocks key_bytes
  skip_bytes zero c b p h = refl
  skip_bytes (suc k) c b p h =
      ap (λ (n : ℕ). key_bytes n (mk w o c b 0 p)) more ∙ bytes-add 16 (16 * k) (mk w o c b 0 p)
      ∙ ap₂ ◌++◌ (one_block c b p) (ap (key_bytes (16 * k)) (one_after c b p) ∙ skip_bytes k (suc c % counters) zero_block (spent_after (suc c) p) (omega arith) ∙ next_blocks k c (omega arith))
    where
      more : 16 * suc k ≡ 16 + 16 * k
      more = omega arith

  pub skip_state : (k c : ℕ) (b : List ℕ) (p : ℕ) → c + suc k ≤ counters → after (16 * suc k) (mk w o c b 0 p) ≡ mk w o ((c + suc k) % counters) zero_block 0 (spent_after (c + suc k) p)
  skip_state zero c b p h = one_after c b p ∙ (λ i. mk w o (one i % counters) zero_block 0 (spent_after (one i) p))
    where
      one : suc c ≡ c + 1
      one = omega arith
  skip_state (suc k) c b p h =
      ap (λ (n : ℕ). after n (mk w o c b 0 p)) more ∙ after_add 16 (16 * suc k) (mk w o c b 0 p)
      ∙ ap (after (16 * suc k)) (one_after c b p ∙ (λ i. mk w o (small (suc c) room i) zero_block 0 (unspent (suc c) p room i)))
      ∙ skip_state k (suc c) zero_block p (omega arith)
      ∙ (λ i. mk w o (place i % counters) zero_block 0 (spent_after (place i) p))
    where
      more : 16 * suc (suc k) ≡ 16 + 16 * suc k
      more = omega arith

      room : suc c < counters
      room = omega arith

      place : suc c + suc k ≡ c + suc (suc k)
      place = omega arith

  -- where a counter is left, only the counter has moved
  pub skip_unspent : (k c : ℕ) (b : List ℕ) (p : ℕ) → c + suc k < counters → after (16 * suc k) (mk w o c b 0 p) ≡ mk w o (c + suc k) zero_block 0 p
  skip_unspent k c b p h = skip_state k c b p (omega arith) ∙ (λ i. mk w o (small (c + suc k) h i) zero_block 0 (unspent (c + suc k) p h i))

  skip_inside : (k c : ℕ) (b : List ℕ) (p : ℕ) → c + k < counters → (x : List ℕ) × (after (16 * k) (mk w o c b 0 p) ≡ mk w o (c + k) x 0 p)
  unfolding after
  skip_inside zero c b p h = (b, λ i. mk w o (here i) b 0 p)
    where
      here : c ≡ c + 0
      here = omega arith
  skip_inside (suc k) c b p h = (zero_block, skip_unspent k c b p h)

  -- ---- any number of bytes where none is unused

  pub new_bytes_lem : (d c : ℕ) (b : List ℕ) (p : ℕ) → c + needed 0 d ≤ counters → key_bytes d (mk w o c b 0 p) ≡ new_bytes w o c d
  new_bytes_lem d c b p h =
      bytes_first d (16 * needed 0 d - d) (mk w o c b 0 p) ∙ ap (take d) (ap (λ (n : ℕ). key_bytes n (mk w o c b 0 p)) whole ∙ skip_bytes (needed 0 d) c b p h)
    where
      whole : d + (16 * needed 0 d - d) ≡ 16 * needed 0 d
      whole = omega arith

  -- whole blocks, and the start of one more
  new_part : (k m c : ℕ) (b : List ℕ) (p : ℕ) → suc m < 16 → c + k < counters
      → after (16 * k + suc m) (mk w o c b 0 p) ≡ mk w o (suc (c + k) % counters) (E (c + k)) (16 - suc m) (spent_after (suc (c + k)) p)
  new_part k m c b p l h =
      after_add (16 * k) (suc m) (mk w o c b 0 p) ∙ ap (after (suc m)) (skip_inside k c b p h).1 ∙ after_new m (c + k) (skip_inside k c b p h).0 p
      ∙ within m (16 - suc m) (suc (c + k) % counters) (E (c + k)) 16 (spent_after (suc (c + k)) p) (omega arith)
      ∙ (λ i. mk w o (suc (c + k) % counters) (cond (some i) zero_block (E (c + k))) (16 - suc m) (spent_after (suc (c + k)) p))
    where
      some : eqb (16 - suc m) 0 ≡ false
      some = ne_eqb (16 - suc m) 0 (λ (e : 16 - suc m ≡ 0). omega arith)

  -- the byte at a position: whose block it is of, and which
  byte_new : (c : ℕ) (b : List ℕ) (p : ℕ) → key_byte (mk w o c b 0 p) ≡ get_or (E c) 0 0
  unfolding key_byte ready refilled
  byte_new c b p = refl

  pub byte_at : (n c : ℕ) (b : List ℕ) (p : ℕ) → c + n / 16 < counters → key_byte (after n (mk w o c b 0 p)) ≡ get_or (E (c + n / 16)) (n % 16) 0
  byte_at n c b p h = go (eqb (n % 16) 0) refl
    where
      go : (t : Bool) → eqb (n % 16) 0 ≡ t → key_byte (after n (mk w o c b 0 p)) ≡ get_or (E (c + n / 16)) (n % 16) 0
      go true e =
          let z : n % 16 ≡ 0 = eqb-true (n % 16) 0 e in
          let blocks : n ≡ 16 * (n / 16) = omega arith in
          ap (λ (m : ℕ). key_byte (after m (mk w o c b 0 p))) blocks ∙ ap key_byte (skip_inside (n / 16) c b p h).1 ∙ byte_new (c + n / 16) (skip_inside (n / 16) c b p h).0 p
          ∙ ap (λ (m : ℕ). get_or (E (c + n / 16)) m 0) (sym z)
      go false e =
          let nz : n % 16 ≡ 0 → ⊥ = eqb-false (n % 16) 0 e in
          let parts : n ≡ 16 * (n / 16) + suc (n % 16 - 1) = omega (arith, nz) in
          let rest : 16 - suc (n % 16 - 1) ≡ suc (15 - n % 16) = omega (arith, nz) in
          let place : 16 - suc (15 - n % 16) ≡ n % 16 = omega arith in
          ap (λ (m : ℕ). key_byte (after m (mk w o c b 0 p))) parts ∙ ap key_byte (new_part (n / 16) (n % 16 - 1) c b p (omega arith) h)
          ∙ ap (λ (u : ℕ). key_byte (mk w o (suc (c + n / 16) % counters) (E (c + n / 16)) u (spent_after (suc (c + n / 16)) p))) rest
          ∙ byte_unused (suc (c + n / 16) % counters) (E (c + n / 16)) (15 - n % 16) (spent_after (suc (c + n / 16)) p)
          ∙ ap (λ (m : ℕ). get_or (E (c + n / 16)) m 0) place

  -- ---- from any place

  drained : (u c : ℕ) (b : List ℕ) (p : ℕ) → (x : List ℕ) × (after u (mk w o c b u p) ≡ mk w o c x 0 p)
  unfolding after
  drained zero c b p = (b, refl)
  drained (suc v) c b p = (zero_block, within v 0 c b (suc v) p (omega arith))

  module _ (n c : ℕ) (b : List ℕ) (u p : ℕ) (l : u ≤ 15) (h : c + needed u n ≤ counters) where
    abbrev s : Stream
    s = mk w o c b u p

    split : u < n → n ≡ u + (n - u)
    split g = omega arith

    pub jump_bytes : length b ≡ 16 → key_bytes n s ≡ bytes_from w o c u b n
    jump_bytes len = go (leb n u) refl
      where
        all : take u (drop (16 - u) b) ≡ drop (16 - u) b
        all = take_all u (drop (16 - u) b) (simp length-drop (omega arith))

        go : (t : Bool) → leb n u ≡ t → key_bytes n s ≡ cond t (take n (drop (16 - u) b)) (drop (16 - u) b ++ new_bytes w o c (n - u))
        go true e = bytes_within n c b u p len (leb-true n u e) (omega arith)
        go false e =
            ap (λ (m : ℕ). key_bytes m s) (split (leb-false n u e)) ∙ bytes-add u (n - u) s
            ∙ ap₂ ◌++◌ (bytes_within u c b u p len (le_refl u) (omega arith) ∙ all)
            (ap (key_bytes (n - u)) (drained u c b p).1 ∙ new_bytes_lem (n - u) c (drained u c b p).0 p (omega arith))

    abbrev q : ℕ
    q = needed u n

    -- the stream with these numbers, where this block was made last
    abbrev pub landed : ℕ → ℕ → List ℕ → Stream
    landed k v x = mk w o ((c + k) % counters) (cond (eqb v 0) zero_block x) v (spent_after (c + k) p)

    few : 0 < n → c < counters → n ≤ u → after n s ≡ landed q (u + 16 * q - n) b
    few pos room g =
        ap (λ (m : ℕ). after m s) one ∙ within (n - 1) (u + 16 * q - n) c b u p (omega arith)
        ∙ (λ i. mk w o (stays i) (cond (eqb (u + 16 * q - n) 0) zero_block b) (u + 16 * q - n) (so i))
      where
        one : n ≡ suc (n - 1)
        one = omega arith

        none : c + q ≡ c
        none = omega arith

        stays : c ≡ (c + q) % counters
        stays = omega arith

        so : p ≡ spent_after (c + q) p
        so = sym (ap (λ (m : ℕ). spent_after m p) none ∙ unspent c p room)

    -- past the unused bytes: d new ones, d being no 0
    many : u < n → (t : Bool) → eqb ((n - u) % 16) 0 ≡ t → after n s ≡ landed q (u + 16 * q - n) (cond t b (E (c + (n - u) / 16)))
    many g true e =
        ap (λ (m : ℕ). after m s) (split g) ∙ after_add u (n - u) s ∙ ap (after (n - u)) (drained u c b p).1
        ∙ ap (λ (m : ℕ). after m (mk w o c (drained u c b p).0 0 p)) blocks ∙ skip_state (q - 1) c (drained u c b p).0 p (omega (arith, even))
        ∙ (λ i. mk w o (up i % counters) (gone i) (none i) (spent_after (up i) p))
      where
        even : (n - u) % 16 ≡ 0
        even = eqb-true ((n - u) % 16) 0 e

        blocks : n - u ≡ 16 * suc (q - 1)
        blocks = omega (arith, even)

        up : c + suc (q - 1) ≡ c + q
        up = omega (arith, even)

        none : 0 ≡ u + 16 * q - n
        none = omega (arith, even)

        gone : zero_block ≡ cond (eqb (u + 16 * q - n) 0) zero_block b
        gone = sym (cond-true (eqb (u + 16 * q - n) 0) zero_block b (eq-eqb (u + 16 * q - n) 0 (sym none)))
    many g false e =
        ap (λ (m : ℕ). after m s) (split g) ∙ after_add u (n - u) s ∙ ap (after (n - u)) (drained u c b p).1
        ∙ ap (λ (m : ℕ). after m (mk w o c (drained u c b p).0 0 p)) parts ∙ new_part ((n - u) / 16) ((n - u) % 16 - 1) c (drained u c b p).0 p (omega (arith, odd)) (omega (arith, odd))
        ∙ (λ i. mk w o (up i % counters) (stays i) (rest i) (spent_after (up i) p))
      where
        odd : (n - u) % 16 ≡ 0 → ⊥
        odd = eqb-false ((n - u) % 16) 0 e

        parts : n - u ≡ 16 * ((n - u) / 16) + suc ((n - u) % 16 - 1)
        parts = omega (arith, odd)

        up : suc (c + (n - u) / 16) ≡ c + q
        up = omega (arith, odd)

        rest : 16 - suc ((n - u) % 16 - 1) ≡ u + 16 * q - n
        rest = omega (arith, odd)

        stays : E (c + (n - u) / 16) ≡ cond (eqb (u + 16 * q - n) 0) zero_block (E (c + (n - u) / 16))
        stays = sym (cond-false (eqb (u + 16 * q - n) 0) zero_block (E (c + (n - u) / 16)) (ne_eqb (u + 16 * q - n) 0 (λ (z : u + 16 * q - n ≡ 0). omega (arith, odd))))

    pub jump_state : 0 < n → c < counters → after n s ≡ landed q (u + 16 * q - n) (block_from w o c u b n)
    jump_state pos room = go (leb n u) refl
      where
        go : (t : Bool) → leb n u ≡ t → after n s ≡ landed q (u + 16 * q - n) (cond t b (new_block w o c b (n - u)))
        go true e = few pos room (leb-true n u e)
        go false e = many (leb-false n u e) (eqb ((n - u) % 16) 0) refl
