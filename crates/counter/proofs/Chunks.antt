-- The key stream's blocks, several at once: what the cipher's call on many blocks makes of counter blocks, and those more after the ones before.
use mathlib.Core.Path.{◌≡◌, refl, sym, ap, ap₂, ◌∙◌}
use mathlib.Core.Bool.{false}
use mathlib.Core.List.{List, ◌++◌, append_assoc}
use Prim.Native.Nat.{ℕ, zero, suc, ◌+◌, ◌-◌, ◌*◌, ◌/◌, ◌%◌, ◌≤◌}
use native.Mathlib.Omega.{arith}
use lib.ListN.{length, take, drop, length-append, length-take, length-drop}
use lib.Seq.{take_at, drop_at}
use borrow.Author.Tests.{eq-eqb}
use Rattle.published.specs.Bytes.{to_bytes}
use Rattle.published.specs.Blocks.{each_of, all_of}
use Rattle.published.proofs.Many.{written}
use Rattle.published.proofs.Reading.{length_to_bytes}
use Rattle.gift128.specs.Calls.{order_code, many_words_code, encrypted_by, all_blocks, CiphersBlocksByWordsIn}
use Rattle.counter.specs.Standard.{counter_block, key_blocks}

-- ---- counter blocks through the cipher

module _ (f : List ℕ → List ℕ) (o : List ℕ) (twelve : length o ≡ 12) where
  block-length : (c : ℕ) → length (counter_block o c) ≡ 16
  unfolding counter_block
  block-length c = length-append o (to_bytes 4 c) ∙ ap₂ ◌+◌ twelve (length_to_bytes 4 c)

  counters-length : (k c : ℕ) → length (key_blocks (λ (t : List ℕ). t) o c k) ≡ 16 * k
  unfolding key_blocks
  counters-length zero c = refl
  counters-length (suc k) c =
      let next : 16 + 16 * k ≡ 16 * suc k = omega arith in
      length-append (counter_block o c) (key_blocks (λ (t : List ℕ). t) o (suc c) k) ∙ ap₂ ◌+◌ (block-length c) (counters-length k (suc c)) ∙ next

  each_counter : (k c : ℕ) → each_of 16 f k (key_blocks (λ (t : List ℕ). t) o c k) ≡ key_blocks f o c k
  unfolding each_of key_blocks
  each_counter zero c = refl
  each_counter (suc k) c =
      let more : List ℕ = key_blocks (λ (t : List ℕ). t) o (suc c) k in
      ap₂ (λ (a b : List ℕ). f a ++ each_of 16 f k b) (take_at (counter_block o c) more 16 (block-length c)) (drop_at (counter_block o c) more 16 (block-length c))
      ∙ ap (λ (l : List ℕ). f (counter_block o c) ++ l) (each_counter k (suc c))

  all_counters : (c k : ℕ) → all_of 16 f (key_blocks (λ (t : List ℕ). t) o c k) ≡ key_blocks f o c k
  unfolding all_of
  all_counters c k =
      let count : 16 * k / 16 ≡ k = omega arith in
      ap (λ (n : ℕ). each_of 16 f (n / 16) (key_blocks (λ (t : List ℕ). t) o c k)) (counters-length k c)
      ∙ ap (λ (n : ℕ). each_of 16 f n (key_blocks (λ (t : List ℕ). t) o c k)) count ∙ each_counter k c

-- many blocks by eighty words in order 0 are never refused
pub encrypts-many : (ws input output : List ℕ) {r : ℕ} {e : List ℕ} → length ws ≡ 80 → length input % 16 ≡ 0 → length output ≡ length input → CiphersBlocksByWordsIn false 0 ws input output r e
    → e ≡ all_blocks (encrypted_by ws) input
unfolding order_code many_words_code encrypted_by
encrypts-many ws input output {r} {e} w h l g = g.leaves ∙ rw (w, h, eq-eqb (length output) (length input) l)

-- ---- after those before

blocks-add : (f : List ℕ → List ℕ) (o : List ℕ) (j k c : ℕ) → key_blocks f o c (j + k) ≡ key_blocks f o c j ++ key_blocks f o (c + j) k
unfolding key_blocks
blocks-add f o zero k c =
    let none : 0 + k ≡ k = omega arith in
    let same : c ≡ c + 0 = omega arith in
    ap₂ (λ (n d : ℕ). key_blocks f o d n) none same
blocks-add f o (suc j) k c =
    let more : suc j + k ≡ suc (j + k) = omega arith in
    let on : suc c + j ≡ c + suc j = omega arith in
    ap (key_blocks f o c) more ∙ ap (λ (l : List ℕ). f (counter_block o c) ++ l) (blocks-add f o j k (suc c))
    ∙ sym (append_assoc (f (counter_block o c)) (key_blocks f o (suc c) j) (key_blocks f o (suc c + j) k))
    ∙ ap (λ (d : ℕ). (f (counter_block o c) ++ key_blocks f o (suc c) j) ++ key_blocks f o d k) on

-- n bytes from place a on were made of their counter blocks: those before a + n are
pub several_more : (f : List ℕ → List ℕ) (o out counts new rest : List ℕ) (c a n : ℕ) → length o ≡ 12 → a % 16 ≡ 0 → n % 16 ≡ 0 → a ≤ length out → length new ≡ n
    → take a out ≡ key_blocks f o c (a / 16) → counts ≡ key_blocks (λ (t : List ℕ). t) o (c + a / 16) (n / 16) → new ≡ all_blocks f counts
    → take (a + n) (take a out ++ (new ++ rest)) ≡ key_blocks f o c ((a + n) / 16)
several_more f o out counts new rest c a n twelve ha hn inside len before are made =
    let sum : a / 16 + n / 16 ≡ (a + n) / 16 = omega arith in
    written n a out new rest inside len
    ∙ ap₂ ◌++◌ before (made ∙ ap (all_blocks f) are ∙ all_counters f o twelve (c + a / 16) (n / 16))
    ∙ sym (blocks-add f o (a / 16) (n / 16) c)
    ∙ ap (key_blocks f o c) sum

-- the first n of some bytes, and n from a place on
pub first_of : (l : List ℕ) (n : ℕ) → n ≤ length l → length (take n l) ≡ n
first_of l n h = simp length-take (omega arith)

pub some_of : (l : List ℕ) (a n : ℕ) → a + n ≤ length l → length (take (a + n - a) (drop a l)) ≡ n
some_of l a n h = simp (length-take, length-drop) (omega arith)
