-- What request 2026-11 wants: one encoding, read back exactly; accepted bytes are an encoding; two nodes never show two values; and what is claimed of the tag.
use mathlib.Core.Path.{◌≡◌, refl, sym, ap, ap₂, ◌∙◌}
use mathlib.Core.Bool.{Bool, true, false, cond, ◌&&◌}
use mathlib.Core.Logic.{◌≢◌, ◌⊎◌}
use mathlib.Core.List.{List, [], ◌∷◌, ◌++◌}
use Prim.Native.Nat.{ℕ, ◌/◌, ◌%◌, ◌<◌, ◌≤◌}
use native.Mathlib.Omega.{arith}
use lib.Dec.{eqb, leb}
use lib.ListN.{length, take, drop, set, get_or, length-set, take-append-drop}
use lib.Seq.{take_at, get_or-set_same}
use borrow.Author.Tests.{eq-eqb, eqb-true, le-leb}
use Rattle.answers.specs.Numbers.{DONE, BAD_KEY_LENGTH, MUST_KNOW, BAD_LIST, SHORT_OUTPUT}
use Rattle.answers.specs.Order.{unless, if_done}
use Rattle.answers.proofs.Outcome.{if_done_lem}
use Rattle.answers.proofs.Passed.{passed}
use Rattle.bits.proofs.Truth.{both}
use Rattle.published.specs.Bytes.{Bytes}
use Rattle.bundle_format.specs.Format.{knows, Setting, first_body, total_of, tag_of, encode, good_list}
use Rattle.bundle_format.specs.Reader.{edition_of, count_of, end_of, rows_from, rows_of, read_code, REFUSED, VALUE, ABSENT, bare, tell_in, tell_at, Asks, opened, answers_for, looked_up, entry_of, value, unknown, meant, answer_in, held, settings_of}
use Rattle.bundle_format.specs.Writer.{list_of, sizes, good_rows, write_code, Writes}
use Rattle.bundle_format.specs.Promises.{Encodes, Answers}
use Rattle.bundle_format.specs.declared.Row.{Row}
use Rattle.bundle_format.specs.declared.Told.{Told}
use Rattle.bundle_format.specs.declared.Opened.{Opened}
use Rattle.bundle_format.proofs.Accepted.{Whole, accepts}
use Rattle.bundle_format.proofs.Encoded.{listed_only, length-encode, edition_back, list_back, code_is, all_known_lem, all_held, answers_are}
use Rattle.bundle_format.proofs.Decoded.{is_encoding, is_list}
use Rattle.bundle_format.proofs.Nodes.{one_value, one_absence, same_told, same_code, earlier-code}

-- ---- one key, edition and list has one encoding, and two lists with one encoding are equal

only_of : (key : List ℕ) (e : ℕ) (ts : List Setting) (b : List ℕ) → e < 65536 → good_list e ts ≡ true → b ≡ encode key e ts → (e ≡ edition_of b) × (ts ≡ settings_of b)
only_of key e ts b h g same = (sym (edition_back key e ts h g) ∙ ap edition_of (sym same), sym (list_back key e ts h g) ∙ ap settings_of (sym same))

pub one_encoding : (key : List ℕ) (edition : ℕ) (ss : List Setting) → edition < 65536 → good_list edition ss ≡ true → Encodes key edition ss (encode key edition ss)
one_encoding key edition ss last good =
    record {
      good = good;
      bytes = refl;
      only =
          λ e ts h g same.
          let o = only_of key e ts (encode key edition ss) h g same in
          (o.0 ∙ edition_back key edition ss last good, o.1 ∙ list_back key edition ss last good);
    }

-- ---- it is read back exactly, by that edition's reader and by every later one

-- what any reader answers of it, whatever its edition
pub answers_of : (key : List ℕ) (edition : ℕ) (ss : List Setting) → edition < 65536 → good_list edition ss ≡ true → (reader id : ℕ)
    → meant (encode key edition ss) (tell_in reader id (rows_of (encode key edition ss))) ≡ answer_in reader id ss
answers_of key edition ss last good reader id =
    answers_are reader id (encode key edition ss) (rows_of (encode key edition ss)) ∙ ap (answer_in reader id) (list_back key edition ss last good)

pub read_back : (key : List ℕ) (edition : ℕ) (ss : List Setting) → length key ≡ 16 → 1 ≤ edition → edition < 65536 → good_list edition ss ≡ true
    → (reader : ℕ) → edition ≤ reader → Answers reader key ss (encode key edition ss)
read_back key edition ss keyed first last good reader h =
    record {
      accepts =
          code_is key edition ss last good keyed first reader
          ∙ ap (λ (t : Bool). unless t MUST_KNOW DONE) (all_known_lem reader edition 0 (first_body (length ss)) ss h (listed_only edition ss good).good);
      answers = λ id. answers_of key edition ss last good reader id ∙ all_held reader edition id 0 ss h (listed_only edition ss good).good;
    }

-- ---- what a reader accepts is an encoding

-- whatever its edition
pub accepted_is : (reader : ℕ) (key b : List ℕ) → Bytes b → read_code reader key b ≡ 0 → b ≡ encode key (edition_of b) (settings_of b)
accepted_is reader key b bytes e = is_encoding reader key b bytes (accepts reader key b e).0

-- of the reader's edition or an earlier one: of exactly one list of that edition, which is what the reader answers
pub accepted_exactly : (reader : ℕ) (key b : List ℕ) → Bytes b → read_code reader key b ≡ 0 → edition_of b ≤ reader
    → Encodes key (edition_of b) (settings_of b) b × Answers reader key (settings_of b) b
accepted_exactly reader key b bytes e h =
    let w : Whole reader key b = (accepts reader key b e).0 in
    let good : good_list (edition_of b) (settings_of b) ≡ true = is_list reader key b bytes w h in (
      record { good = good; bytes = is_encoding reader key b bytes w; only = λ f ts l g same. only_of key f ts b l g same },
      record {
        accepts = e;
        answers = λ id. answers_are reader id b (rows_of b) ∙ all_held reader (edition_of b) id 0 (settings_of b) h (listed_only (edition_of b) (settings_of b) good).good;
      },
    )

-- ---- two nodes, on any bytes at all

-- what is told that is no refusal is what the table says
shown : (r : ℕ) (key b : List ℕ) (id n : ℕ) (t : Told) → Asks r key b id n t → t.state ≢ REFUSED → (read_code r key b ≡ 0) × (t ≡ tell_in r id (rows_of b))
shown r key b id n t a not = go (eqb (read_code r key b) 0) refl
  where
    go : (k : Bool) → eqb (read_code r key b) 0 ≡ k → (read_code r key b ≡ 0) × (t ≡ tell_in r id (rows_of b))
    go true e = (eqb-true (read_code r key b) 0 e, a.leaves ∙ ap (λ (k : Bool). cond k (tell_in r id (rows_of b)) (bare REFUSED 0)) e)
    go false e = absurd (not (ap (λ (x : Told). x.state) (a.leaves ∙ ap (λ (k : Bool). cond k (tell_in r id (rows_of b)) (bare REFUSED 0)) e)))

value-shown : {x : ℕ} → x ≡ VALUE → x ≢ REFUSED
value-shown e f = let z : ◌≡◌ {A = ℕ} 0 3 = sym f ∙ e in omega arith

absence_shown : {x : ℕ} → x ≡ ABSENT → x ≢ REFUSED
absence_shown e f = let z : ◌≡◌ {A = ℕ} 0 1 = sym f ∙ e in omega arith

-- two readers of any two editions, two values of one id: they are one, in kind and place, and so in body
pub two_values : (r r' : ℕ) (key key' b : List ℕ) (id n n' : ℕ) (t t' : Told) → Asks r key b id n t → Asks r' key' b id n' t' → t.state ≡ VALUE → t'.state ≡ VALUE
    → t ≡ t'
two_values r r' key key' b id n n' t t' a a' v v' =
    let s = shown r key b id n t a (value-shown v) in
    let s' = shown r' key' b id n' t' a' (value-shown v') in
    s.1 ∙ one_value r r' id (rows_of b) (ap (λ (x : Told). x.state) (sym s.1) ∙ v) (ap (λ (x : Told). x.state) (sym s'.1) ∙ v') ∙ sym s'.1

-- if both accept, what is absent for one is absent for the other
pub two_absent : (r r' : ℕ) (key key' b : List ℕ) (id n n' : ℕ) (t t' : Told) → Asks r key b id n t → Asks r' key' b id n' t' → n' ≡ 0 → t.state ≡ ABSENT → t'.state ≡ ABSENT
two_absent r r' key key' b id n n' t t' a a' z v =
    let s = shown r key b id n t a (absence_shown v) in
    let told : (tell_in r id (rows_of b)).state ≡ ABSENT = ap (λ (x : Told). x.state) (sym s.1) ∙ v in
    ap (λ (x : Told). x.state) (a'.leaves ∙ if_done_lem (read_code r' key' b) (tell_in r' id (rows_of b)) (bare REFUSED 0) (sym a'.is ∙ z) ∙ sym (one_absence r r' id (rows_of b) told)) ∙ told

-- on a bundle of an edition that both have, they agree wholly: edition 1, for readers of edition 1 and 2
pub agree_wholly : (r r' : ℕ) (key b : List ℕ) (id n n' : ℕ) (t t' : Told) → edition_of b ≤ r → edition_of b ≤ r' → Asks r key b id n t → Asks r' key b id n' t' → (n ≡ n') × (t ≡ t')
agree_wholly r r' key b id n n' t t' h h' a a' = (a.is ∙ code ∙ sym a'.is, a.leaves ∙ go (eqb (read_code r key b) 0) refl ∙ sym a'.leaves)
  where
    code : read_code r key b ≡ read_code r' key b
    code = same_code r r' key b h h'

    none : Told
    none = bare REFUSED 0

    go : (k : Bool) → eqb (read_code r key b) 0 ≡ k
        → if_done (read_code r key b) (tell_in r id (rows_of b)) none ≡ if_done (read_code r' key b) (tell_in r' id (rows_of b)) none
    go true e =
        let w : Whole r key b = (accepts r key b (eqb-true (read_code r key b) 0 e)).0 in
        ap₂ (λ (m : ℕ) (x : Told). if_done m x none) code (same_told r r' id b 0 (first_body (count_of b)) (rows_of b) h h' w.formed.rows)
    go false e =
        let e' : eqb (read_code r' key b) 0 ≡ false = ap (λ (m : ℕ). eqb m 0) (sym code) ∙ e in
        ap (λ (k : Bool). cond k (tell_in r id (rows_of b)) none) e ∙ sym (ap (λ (k : Bool). cond k (tell_in r' id (rows_of b)) none) e')

-- what the new reader accepts, the old one accepts or refuses with 23
pub old_reader : (r r' : ℕ) (key b : List ℕ) → r ≤ r' → read_code r' key b ≡ 0 → (read_code r key b ≡ DONE) ⊎ (read_code r key b ≡ MUST_KNOW)
old_reader = earlier-code

-- ---- bundles that the writers wrote

-- what a reader says that is not unknown is what the list has
said_held : (reader id : ℕ) (ss : List Setting) → answer_in reader id ss ≢ unknown → answer_in reader id ss ≡ held id ss
unfolding answer_in held
said_held reader id [] not = refl
said_held reader id (s ∷ ss) not = go (eqb s.id id) (knows reader s.kind) (said_held reader id ss) not
  where
    go : (t k : Bool) → (answer_in reader id ss ≢ unknown → answer_in reader id ss ≡ held id ss)
        → cond t (cond k (value s.kind s.body) unknown) (answer_in reader id ss) ≢ unknown
        → cond t (cond k (value s.kind s.body) unknown) (answer_in reader id ss) ≡ cond t (value s.kind s.body) (held id ss)
    go true true h not = refl
    go true false h not = absurd (not refl)
    go false k h not = h not

value_said : (b : List ℕ) (t : Told) → t.state ≡ VALUE → meant b t ≢ unknown
unfolding meant
value_said b t v u = let z : ◌≡◌ {A = ℕ} 0 1 = cc (rw v at u) in omega arith

-- the writer's number is 0: the list is one of its edition, and the bundle is what the output begins with
pub written : (edition : ℕ) (key rows pool out : List ℕ) (total : ℕ) (e : List ℕ) → Writes edition key rows pool out 0 total e
    → (length key ≡ 16) × (good_list edition (list_of rows pool) ≡ true) × (take total e ≡ encode key edition (list_of rows pool))
unfolding write_code good_rows
written edition key rows pool out total e w =
    let ss : List Setting = list_of rows pool in
    let t1 : Bool = eqb (length key) 16 in
    let t2 : Bool = good_rows edition rows pool in
    let t3 : Bool = leb (total_of ss) (length out) in
    let p1 = passed t1 BAD_KEY_LENGTH (unless t2 BAD_LIST (unless t3 SHORT_OUTPUT DONE)) refl (sym w.is) in
    let p2 = passed t2 BAD_LIST (unless t3 SHORT_OUTPUT DONE) refl p1.1 in
    let good = (both (eqb (length rows % 4) 0 && eqb (sizes (length rows / 4) rows) (length pool)) (good_list edition ss) p2.0).1 in
    let code : write_code edition key rows pool (length out) ≡ 0 = sym w.is in
    let size : total ≡ total_of ss = w.tells ∙ if_done_lem (write_code edition key rows pool (length out)) (total_of ss) 0 code in
    let left : e ≡ encode key edition ss ++ drop (total_of ss) out = w.leaves ∙ if_done_lem (write_code edition key rows pool (length out)) (encode key edition ss ++ drop (total_of ss) out) out code in (
      eqb-true (length key) 16 p1.0,
      good,
      ap (take total) left ∙ take_at (encode key edition ss) (drop (total_of ss) out) total (length-encode key edition ss ∙ sym size),
    )

-- an old and a new reader never show different values for one id: each value shown is the one that was written
pub never_different_values : (edition : ℕ) (key rows pool out : List ℕ) (total : ℕ) (e : List ℕ) → edition < 65536 → Writes edition key rows pool out 0 total e
    → (r r' : ℕ) (k k' : List ℕ) (id n n' : ℕ) (t t' : Told) → Asks r k (take total e) id n t → Asks r' k' (take total e) id n' t' → t.state ≡ VALUE → t'.state ≡ VALUE
    → (t ≡ t') × (meant (take total e) t ≡ held id (list_of rows pool))
never_different_values edition key rows pool out total e last w r r' k k' id n n' t t' a a' v v' =
    let ss : List Setting = list_of rows pool in
    let p = written edition key rows pool out total e w in
    let s = shown r k (take total e) id n t a (value-shown v) in
    let says : meant (take total e) t ≡ answer_in r id ss =
    ap (meant (take total e)) s.1
    ∙ ap (λ (b : List ℕ). meant b (tell_in r id (rows_of b))) p.2
    ∙ answers_of key edition ss last p.1 r id
    in
    (two_values r r' k k' (take total e) id n n' t t' a a' v v', says ∙ said_held r id ss (λ u. value_said (take total e) t v (says ∙ u)))

-- ---- look-ups after one look through a bundle

-- both forms: f is what is told of a table
after_look : (f : ℕ → List Row → Told) (reader : ℕ) (key b : List ℕ)
    → cond (answers_for (opened reader key b) b) (f (opened reader key b).reader (rows_from (opened reader key b).count (drop 8 b))) (bare REFUSED 0)
    ≡ if_done (read_code reader key b) (f reader (rows_of b)) (bare REFUSED 0)
unfolding opened answers_for
after_look f reader key b = go (eqb (read_code reader key b) 0) refl
  where
    all : Opened
    all = record { code = 0; reader = reader; count = count_of b; size = length b }

    nothing : Opened
    nothing = record { code = read_code reader key b; reader = reader; count = 0; size = 0 }

    look : Opened → Told
    look o = cond (answers_for o b) (f o.reader (rows_from o.count (drop 8 b))) (bare REFUSED 0)

    go : (k : Bool) → eqb (read_code reader key b) 0 ≡ k → look (cond k all nothing) ≡ cond k (f reader (rows_of b)) (bare REFUSED 0)
    go true e =
        let w : Whole reader key b = (accepts reader key b (eqb-true (read_code reader key b) 0 e)).0 in
        let h : first_body (count_of b) ≤ end_of b = w.formed.table in
        let fits : leb (first_body (count_of b)) (length b) ≡ true = le-leb (first_body (count_of b)) (length b) (omega arith) in
        ap₂ (λ (x y : Bool). cond (x && y) (f reader (rows_of b)) (bare REFUSED 0)) (eq-eqb (length b) (length b) refl) fits
    go false e =
        ap (λ (x : Bool). cond (x && eqb 0 (length b) && leb (first_body 0) (length b)) (f reader (rows_from 0 (drop 8 b))) (bare REFUSED 0)) e

-- a look-up by what looking through the bundle gave is the same as asking
pub look_as_ask : (reader : ℕ) (key b : List ℕ) (id n : ℕ) (t : Told) → Asks reader key b id n t → looked_up (opened reader key b) b id ≡ t
unfolding looked_up
look_as_ask reader key b id n t a = after_look (λ r rs. tell_in r id rs) reader key b ∙ sym a.leaves

pub entry_is : (reader : ℕ) (key b : List ℕ) (i : ℕ) → entry_of (opened reader key b) b i ≡ if_done (read_code reader key b) (tell_at reader i (rows_of b)) (bare REFUSED 0)
unfolding entry_of
entry_is reader key b i = after_look (λ r rs. tell_at r i rs) reader key b

-- ---- the tag: what is claimed of it is that it is the CMAC of all before it

pub tag_is : (reader : ℕ) (key b : List ℕ) → read_code reader key b ≡ 0 → drop (end_of b) b ≡ tag_of key (take (end_of b) b)
tag_is reader key b e = (accepts reader key b e).0.tag

-- two bundles of one length and key, both accepted, that are not the same: their messages differ, and the second has the right tag of another message
pub another_message : (r r' : ℕ) (key b c : List ℕ) → length b ≡ length c → b ≢ c → read_code r key b ≡ 0 → read_code r' key c ≡ 0 → take (end_of b) b ≢ take (end_of c) c
another_message r r' key b c len not e f same =
    not
    (sym (take-append-drop (end_of b) b)
    ∙ ap₂ ◌++◌ same (tag_is r key b e ∙ ap (tag_of key) same ∙ sym (tag_is r' key c f))
    ∙ take-append-drop (end_of c) c)

-- a bundle with one byte changed is refused, or has the right tag of another message
pub one_byte_changed : (r r' : ℕ) (key b : List ℕ) (i x : ℕ) → i < length b → x ≢ get_or b i 0 → read_code r key b ≡ 0 → read_code r' key (set b i x) ≡ 0
    → take (end_of b) b ≢ take (end_of (set b i x)) (set b i x)
one_byte_changed r r' key b i x h not e f =
    another_message r r' key b (set b i x) (sym (length-set b i x)) (λ same. not (sym (get_or-set_same b i x 0 h) ∙ ap (λ (l : List ℕ). get_or l i 0) (sym same))) e f
