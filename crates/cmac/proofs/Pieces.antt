-- Pieces: what the code leaves of one, that two are their concatenation, and that any cutting gives the whole message's tag.
use mathlib.Core.Path.{◌≡◌, refl, sym, ap, ap₂, ◌∙◌, fun_ext}
use mathlib.Core.Bool.{Bool, true, false}
use mathlib.Core.List.{List, [], ◌∷◌, ◌++◌, append_assoc, append-nil}
use mathlib.Core.Logic.{◌≢◌}
use Prim.Native.Nat.{ℕ, suc, ◌+◌, ◌-◌, ◌*◌, ◌/◌, ◌≤◌, ◌<◌}
use native.Mathlib.Omega.{arith}
use lib.Dec.{leb}
use lib.ListN.{length, take, drop, replicate, length-append, length-drop}
use lib.Seq.{take_at, drop_at, drop-drop, drop-append-le, take-append_seam}
use borrow.Author.Tests.{leb-true, leb-false, le-leb, lt-leb, eq-eqb}
use Rattle.answers.specs.Numbers.{DONE, BAD_KEY_LENGTH, BAD_STATE}
use Rattle.answers.specs.Order.{unless, if_done}
use Rattle.answers.proofs.Outcome.{if_done_lem, if_refused}
use Rattle.published.specs.Calls.{block_code, key_code}
use Rattle.published.specs.Gift128.{encrypted}
use Rattle.key_schedule.specs.Expand.{expand_code, expanded}
use Rattle.gift128.specs.Calls.{encrypted_by}
use Rattle.gift128.proofs.Blocks.{crossed-key}
use Rattle.cmac_parts.specs.Standard.{◌⊕◌, zero_block, block_count, before, blocks, past, last_block, chained, cmac}
use Rattle.cmac_parts.specs.Orders.{piece_code, tag_code}
use Rattle.cmac.specs.Calls.{started_by, held_by, kept, fed, tag_of, joined, FedBy, none, more, TagsWhole, Starts, Feeds, TagsState}
use Rattle.cmac.specs.Inner.{Fills}
use Rattle.cmac.specs.declared.Mac.{Mac}
use Rattle.cmac.proofs.Chaining.{before_is, blocks-add, blocks-front, chained_append}

-- ---- what the code leaves

pub past_short : (m : List ℕ) → length (past (before m) m) ≤ 16
past_short m = let e : before m ≡ (length m - 1) / 16 = before_is m in rw length-drop (omega arith)

pub past_fits : (m : List ℕ) → 16 * before m ≤ length m
past_fits m = let e : before m ≡ (length m - 1) / 16 = before_is m in omega arith

-- at most a block: nothing is chained
pub fills_little : (ws c m h : List ℕ) (n : ℕ) → length m ≤ 16 → n ≡ length m → h ≡ kept m → Fills ws c m n c h
unfolding blocks chained
fills_little ws c m h n short counts holds =
    let none : before m ≡ 0 = let e : before m ≡ (length m - 1) / 16 = before_is m in omega arith in
    record {
      counts = counts ∙ ap (λ (k : ℕ). length (past k m)) (sym none);
      chains = ap (λ (k : ℕ). chained (encrypted_by ws) c (blocks k m)) (sym none);
      holds = holds ∙ ap (λ (k : ℕ). kept (past k m)) (sym none);
    }

-- a block and more after it
pub fills_more : (ws c c' b rest m c'' h : List ℕ) (n : ℕ) → length b ≡ 16 → 0 < length rest → c' ≡ encrypted_by ws (c ⊕ b) → b ++ rest ≡ m
    → Fills ws c' rest n c'' h → Fills ws c m n c'' h
unfolding blocks chained
fills_more ws c c' b rest m c'' h n len some first whole f =
    record {
      counts = f.counts ∙ ap length (sym left);
      chains =
          f.chains
          ∙ ap₂ (λ (x y : List ℕ). chained (encrypted_by ws) x (blocks (before rest) y)) (first ∙ ap (λ (x : List ℕ). encrypted_by ws (c ⊕ x)) (sym front)) (sym back)
          ∙ ap (λ (k : ℕ). chained (encrypted_by ws) c (blocks k m)) (sym one);
      holds = f.holds ∙ ap kept (sym left);
    }
  where
    one : before m ≡ suc (before rest)
    one =
        let e : before m ≡ (length m - 1) / 16 = before_is m in
        let d : before rest ≡ (length rest - 1) / 16 = before_is rest in
        let l : length m ≡ length b + length rest = ap length (sym whole) ∙ length-append b rest in
        omega arith

    front : take 16 m ≡ b
    front = ap (take 16) (sym whole) ∙ take_at b rest 16 len

    back : drop 16 m ≡ rest
    back = ap (drop 16) (sym whole) ∙ drop_at b rest 16 len

    left : past (before m) m ≡ past (before rest) rest
    left =
        ap (λ (k : ℕ). past k m) one ∙ ap (λ (k : ℕ). drop k m) (next (before rest)) ∙ sym (drop-drop (16 * before rest) 16 m)
        ∙ ap (drop (16 * before rest)) back
      where
        next : (k : ℕ) → 16 * suc k ≡ 16 + 16 * k
        next k = omega arith

-- the record that is given back
pub fed_by : (s : Mac) (piece c h : List ℕ) (n : ℕ) → Fills s.words s.chain (held_by s ++ piece) n c h
    → record { words = s.words; chain = c; held = h; count = n } ≡ fed s piece
unfolding fed
fed_by s piece c h n f = λ i. record { words = s.words; chain = f.chains i; held = f.holds i; count = f.counts i }

-- bytes that have room beside those held, and a block with more bytes after it
pub fed_little : (s : Mac) (m h : List ℕ) (n : ℕ) → n ≤ 16 → n ≡ length (held_by s ++ m) → h ≡ kept (held_by s ++ m)
    → record { words = s.words; chain = s.chain; held = h; count = n } ≡ fed s m
fed_little s m h n room counts holds = fed_by s m s.chain h n (fills_little s.words s.chain (held_by s ++ m) h n (omega arith) counts holds)

pub fed_more : (s : Mac) (m b rest h : List ℕ) → length b ≡ 16 → 0 < length rest → b ++ rest ≡ held_by s ++ m
    → fed (record { words = s.words; chain = encrypted_by s.words (s.chain ⊕ b); held = h; count = 0 }) rest ≡ fed s m
unfolding fed
fed_more s m b rest h len some whole =
    fed_by s m _ _ _
    (fills_more s.words s.chain (encrypted_by s.words (s.chain ⊕ b)) b rest (held_by s ++ m) _ _ _ len some refl whole (record { counts = refl; chains = refl; holds = refl }))

-- ---- two pieces are their concatenation

held_kept : (m : List ℕ) → take (length m) (kept m) ≡ m
held_kept m = take-append_seam m (replicate (16 - length m) 0)

-- what is left of a message, with more after it
module _ (ciph : List ℕ → List ℕ) (c m q : List ℕ) where
  abbrev gone : ℕ
  gone = before m

  abbrev rest : List ℕ
  rest = past gone m ++ q

  cut : before (m ++ q) ≡ gone + before rest
  cut =
      before_is (m ++ q) ∙ ap (λ (k : ℕ). (k - 1) / 16) (length-append m q) ∙ parts (length m) (length q) gone (before_is m)
      ∙ ap (λ (k : ℕ). gone + (k - 1) / 16) (sym (length-append (past gone m) q ∙ ap (λ (x : ℕ). x + length q) (length-drop (16 * gone) m)))
      ∙ ap (λ (k : ℕ). gone + k) (sym (before_is rest))
    where
      parts : (i j k : ℕ) → k ≡ (i - 1) / 16 → (i + j - 1) / 16 ≡ k + (i - 16 * k + j - 1) / 16
      parts i j k e = omega arith

  past_front : past gone (m ++ q) ≡ rest
  past_front = drop-append-le (16 * gone) m q (past_fits m)

  past_cut : past (before rest) rest ≡ past (before (m ++ q)) (m ++ q)
  past_cut =
      ap (past (before rest)) (sym past_front) ∙ drop-drop (16 * before rest) (16 * gone) (m ++ q) ∙ ap (λ (k : ℕ). drop k (m ++ q)) (spread gone (before rest))
      ∙ ap (λ (k : ℕ). past k (m ++ q)) (sym cut)
    where
      spread : (i j : ℕ) → 16 * i + 16 * j ≡ 16 * (i + j)
      spread i j = omega arith

  chained-cut : chained ciph (chained ciph c (blocks gone m)) (blocks (before rest) rest) ≡ chained ciph c (blocks (before (m ++ q)) (m ++ q))
  chained-cut =
      sym (chained_append ciph c (blocks gone m) (blocks (before rest) rest))
      ∙ ap₂ (λ (x y : List (List ℕ)). chained ciph c (x ++ y)) (sym (blocks-front gone m q (past_fits m))) (ap (blocks (before rest)) (sym past_front))
      ∙ ap (chained ciph c) (sym (blocks-add gone (before rest) (m ++ q)) ∙ ap (λ (k : ℕ). blocks k (m ++ q)) (sym cut))

-- a state that bytes l were fed to after its chain c
abbrev filled_with : List ℕ → List ℕ → List ℕ → Mac
filled_with ws c l =
    record {
      words = ws;
      chain = chained (encrypted_by ws) c (blocks (before l) l);
      held = kept (past (before l) l);
      count = length (past (before l) l);
    }

pub fed-twice : (s : Mac) (p q : List ℕ) → fed (fed s p) q ≡ fed s (p ++ q)
unfolding fed
fed-twice s p q =
    ap (λ (l : List ℕ). filled_with s.words (chained (encrypted_by s.words) s.chain (blocks (before (held_by s ++ p)) (held_by s ++ p))) (l ++ q))
    (held_kept (past (before (held_by s ++ p)) (held_by s ++ p)))
    ∙ (λ i.
    record {
      words = s.words;
      chain = chained-cut (encrypted_by s.words) s.chain (held_by s ++ p) q i;
      held = kept (past_cut (encrypted_by s.words) s.chain (held_by s ++ p) q i);
      count = length (past_cut (encrypted_by s.words) s.chain (held_by s ++ p) q i);
    })
    ∙ ap (filled_with s.words s.chain) (append_assoc (held_by s) p q)

piece-done : (count : ℕ) → count ≤ 16 → piece_code count ≡ 0
unfolding piece_code
piece-done count h = ap (λ (t : Bool). unless t BAD_STATE DONE) (le-leb count 16 h)

fed-count : (s : Mac) (p : List ℕ) → (fed s p).count ≤ 16
unfolding fed
fed-count s p = past_short (held_by s ++ p)

feeds_done : {s t : Mac} {n : ℕ} (p : List ℕ) → s.count ≤ 16 → Feeds s p n t → t ≡ fed s p
feeds_done {s} p h f = f.leaves ∙ if_done_lem (piece_code s.count) (fed s p) s (piece-done s.count h)

piece-refused : (count : ℕ) → 16 < count → piece_code count ≢ 0
unfolding piece_code
piece-refused count h e = let b : ◌≡◌ {A = ℕ} 10 0 = sym (ap (λ (t : Bool). unless t BAD_STATE DONE) (lt-leb count 16 h)) ∙ e in omega arith

-- From any state, two pieces are their concatenation: in what they leave, and in their numbers.
pub two_pieces : (s t u v : Mac) (p q : List ℕ) (i j k : ℕ) → Feeds s p i t → Feeds t q j u → Feeds s (p ++ q) k v → (u ≡ v) × (i ≡ k) × (j ≡ k)
two_pieces s t u v p q i j k f g w = go (leb s.count 16) refl
  where
    fits : s.count ≤ 16 → (u ≡ v) × (i ≡ k) × (j ≡ k)
    fits h =
        let at : t ≡ fed s p = feeds_done p h f in
        let low : t.count ≤ 16 = rw at (fed-count s p) in (
          feeds_done q low g ∙ ap (λ (x : Mac). fed x q) at ∙ fed-twice s p q ∙ sym (feeds_done (p ++ q) h w),
          f.is ∙ sym w.is,
          g.is ∙ piece-done t.count low ∙ sym (piece-done s.count h) ∙ sym w.is,
        )

    over : 16 < s.count → (u ≡ v) × (i ≡ k) × (j ≡ k)
    over h =
        let at : t ≡ s = f.leaves ∙ if_refused (piece_code s.count) (fed s p) s (piece-refused s.count h) in
        let high : piece_code t.count ≢ 0 = rw at (piece-refused s.count h) in (
          g.leaves ∙ if_refused (piece_code t.count) (fed t q) t high ∙ at ∙ sym (w.leaves ∙ if_refused (piece_code s.count) (fed s (p ++ q)) s (piece-refused s.count h)),
          f.is ∙ sym w.is,
          g.is ∙ ap (λ (x : Mac). piece_code x.count) at ∙ sym w.is,
        )

    go : (b : Bool) → leb s.count 16 ≡ b → (u ≡ v) × (i ≡ k) × (j ≡ k)
    go true e = fits (leb-true s.count 16 e)
    go false e = over (leb-false s.count 16 e)

-- ---- any cutting

encrypted-key : (key : List ℕ) → encrypted_by (expanded key) ≡ encrypted key
unfolding encrypted_by encrypted
encrypted-key key = fun_ext (crossed-key 0 false key)

started : {s : Mac} {n : ℕ} (key : List ℕ) → length key ≡ 16 → Starts key n s → s ≡ started_by (expanded key)
unfolding expand_code
started key len g = g.leaves ∙ if_done_lem (expand_code (length key) 80) (started_by (expanded key)) (started_by (replicate 80 0)) (ap (λ (n : ℕ). expand_code n 80) len)

-- by a key of sixteen bytes a start is not refused, and neither is the piece after it
pub start-done : (key : List ℕ) → length key ≡ 16 → expand_code (length key) 80 ≡ 0
unfolding expand_code
start-done key len = ap (λ (n : ℕ). expand_code n 80) len

pub fresh-done : {s : Mac} {n : ℕ} (key : List ℕ) → length key ≡ 16 → Starts key n s → piece_code s.count ≡ 0
unfolding started_by piece_code
fresh-done key len g = ap (λ (t : Mac). piece_code t.count) (started key len g)

nothing-fed : (ws : List ℕ) → started_by ws ≡ fed (started_by ws) []
unfolding started_by fed zero_block block_count blocks chained
nothing-fed ws = refl

-- all that was fed, one piece after another
fed_on : (s₀ : Mac) (m : List ℕ) {s t : Mac} {ps : List (List ℕ)} → s ≡ fed s₀ m → FedBy s ps t → t ≡ fed s₀ (m ++ joined ps)
unfolding joined
fed_on s₀ m e (none s) = e ∙ ap (fed s₀) (sym (append-nil m))
fed_on s₀ m e (more s t u p ps n f g) =
    fed_on s₀ (m ++ p) (feeds_done p (rw e (fed-count s₀ m)) f ∙ ap (λ (x : Mac). fed x p) e ∙ fed-twice s₀ m p) g
    ∙ ap (fed s₀) (append_assoc m p (joined ps))

-- the tag of a state that a whole message was fed to
tag_of_fed : (ws m : List ℕ) → tag_of (fed (started_by ws) m) ≡ cmac (encrypted_by ws) m
unfolding tag_of fed started_by zero_block cmac
tag_of_fed ws m =
    ap (λ (l : List ℕ). chained (encrypted_by ws) (chained (encrypted_by ws) zero_block (blocks (before m) m)) (last_block (encrypted_by ws) l ∷ [])) (held_kept (past (before m) m))
    ∙ sym (chained_append (encrypted_by ws) zero_block (blocks (before m) m) (last_block (encrypted_by ws) (past (before m) m) ∷ []))

-- the two orders agree where the key is good and the state claims no more than it can hold
same_order : (count key tag : ℕ) → count ≤ 16 → key ≡ 16 → tag_code count tag ≡ key_code key tag
unfolding tag_code key_code
same_order count key tag h k =
    ap (λ (t : Bool). unless t BAD_STATE (block_code tag)) (le-leb count 16 h) ∙ sym (ap (λ (t : Bool). unless t BAD_KEY_LENGTH (block_code tag)) (eq-eqb key 16 k))

-- Pieces cut anywhere, empty ones too, give what the call for the whole message gives.
pub any_cutting : (key out : List ℕ) (ps : List (List ℕ)) (s t : Mac) (n r : ℕ) (e : List ℕ) → length key ≡ 16
    → Starts key n s → FedBy s ps t → TagsState t out r e → TagsWhole key (joined ps) out r e
any_cutting key out ps s t n r e len starts feeds tags =
    let at : t ≡ fed (started_by (expanded key)) (joined ps) = fed_on (started_by (expanded key)) [] (started key len starts ∙ nothing-fed (expanded key)) feeds in
    let low : t.count ≤ 16 = rw at (fed-count (started_by (expanded key)) (joined ps)) in
    let right : tag_of t ≡ cmac (encrypted key) (joined ps) =
    ap tag_of at ∙ tag_of_fed (expanded key) (joined ps) ∙ ap (λ (ciph : List ℕ → List ℕ). cmac ciph (joined ps)) (encrypted-key key) in
    let number : tag_code t.count (length out) ≡ key_code (length key) (length out) = same_order t.count (length key) (length out) low len in
    record {
      is = tags.is ∙ number;
      leaves = tags.leaves ∙ ap₂ (λ (k : ℕ) (l : List ℕ). if_done k l out) number right;
    }

-- and so the whole message in one
pub in_one_piece : (key m out : List ℕ) (s t : Mac) {n k r : ℕ} {e : List ℕ} → length key ≡ 16 → Starts key n s → Feeds s m k t → TagsState t out r e → TagsWhole key m out r e
unfolding joined
in_one_piece key m out s t {n} {k} {r} {e} len starts feeds tags =
    rw append-nil at (any_cutting key out (m ∷ []) s t n r e len starts (more s t t m [] k feeds (none t)) tags)

-- what the call leaves where the lengths are right
pub tagged : (key m out : List ℕ) {r : ℕ} {e : List ℕ} → length key ≡ 16 → length out ≡ 16 → TagsWhole key m out r e → e ≡ cmac (encrypted key) m
unfolding key_code block_code
tagged key m out {r} {e} k l g = g.leaves ∙ ap₂ (λ (i j : ℕ). if_done (key_code i j) (cmac (encrypted key) m) out) k l
