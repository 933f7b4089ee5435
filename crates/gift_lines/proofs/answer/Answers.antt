-- `answer` writes what document 01 answers to the whole input: the first line, the text of each byte fed, and the closing text.
use Rattle.std.proofs.Common.{◌≡◌, List, [], ◌∷◌, ◌++◌, ℕ, ◌^◌, ◌<◌, length, IfOk, OnOk, Result, Ok, Err, refl, sym, ap, ◌∙◌, subst, append_assoc, append-nil}
use Rattle.std.specs.declared.option.Option.{Option}
use Rattle.std.specs.Io.KnownBytes.{Appends, Consumes}
use Rattle.std.specs.Io.Iter.{bytes_remaining}
use Rattle.std.proofs.KnownBytes.{Consumes-nil, Consumes-trans, Consumes-whole, Appends-trans}
use Rattle.text.specs.Written.{written, shown}
use Rattle.lines.specs.declared.Reader.{Reader}
use Rattle.lines.specs.Input.{first_line, output_of}
use Rattle.lines.specs.Session.{Fed, fresh_reader, fed_by, closing_of, written_from, written_of}
use Rattle.lines.proofs.Whole.{whole}
use Rattle.gift_lines.proofs.answer.Goals as goal

-- ---- what is written of what was fed

-- whatever is fed yet, the answer to all of it is what was laid, and what comes to the rest
abbrev Answers : Reader → List ℕ → List ℕ → Type 0
Answers r fed laid = (rest : List ℕ) → laid ++ written_from r rest ≡ written_of (fed ++ rest)

fresh-answers : Answers fresh_reader [] (shown (written first_line))
unfolding written_of
fresh-answers rest = refl

more-answers : (r : Reader) (b : ℕ) (fed laid : List ℕ) → Answers r fed laid → Answers (fed_by r b).reader (fed ++ (b ∷ [])) (laid ++ shown (fed_by r b).text)
unfolding written_from
more-answers r b fed laid h rest =
    append_assoc laid (shown (fed_by r b).text) (written_from (fed_by r b).reader rest)
    ∙ h (b ∷ rest)
    ∙ sym (ap written_of (append_assoc fed (b ∷ []) rest))

all-answered : (r : Reader) (fed laid : List ℕ) → Answers r fed laid → laid ++ shown (written (closing_of r)) ≡ written_of fed
unfolding written_from
all-answered r fed laid h = h [] ∙ ap written_of (append-nil fed)

on_ok-weaken : {T E : Type 0} (r : Result T E) {P Q : Type 0} → (P → Q) → OnOk r P → OnOk r Q
on_ok-weaken (Ok x) f p = f p
on_ok-weaken (Err e) f p = p

taken : {E : Type 0} (old new : Option (List ℕ)) (item : Result ℕ E) (b : ℕ) → item ≡ Ok b → IfOk item (λ x. Consumes old new (x ∷ [])) → Consumes old new (b ∷ [])
taken old new item b e h = subst (λ i. IfOk i (λ x. Consumes old new (x ∷ []))) e h

-- ---- the run

pub loop-byte-init : goal.loop-byte-init
loop-byte-init g c = (
  [],
  shown (written first_line),
  subst (λ o. Consumes (g.R.Read.remaining c.args.input) o []) (sym (ap (bytes_remaining g.R.Read.remaining) c.into_iter-byte-iterator.ensures.into_iter_gives ∙ c.bytes-byte-items.ensures)) (Consumes-nil (g.R.Read.remaining c.args.input)),
  subst (Appends (g.W.Write.contents c.args.out.now) (g.W.Write.contents c.write_all.new.self)) (c.as_bytes.ensures ∙ ap shown c.first_line.ensures) c.in_ok-write_all.ensures.bytes,
  subst (λ r. Answers r [] (shown (written first_line))) (sym c.fresh-reader.ensures) fresh-answers,
)

pub loop-byte-preserved : goal.loop-byte-preserved
loop-byte-preserved g c =
    let (fed, laid, consumed, appended, answers) = c.loop-byte.invariant in
    let r = c.loop-byte.reader in
    let b = c.in_ok-byte.field-0 in
    let shows = subst (Appends (g.W.Write.contents c.loop-byte.out) (g.W.Write.contents c.write_all-in-loop-byte.new.self)) (c.as_bytes-in-loop-byte.ensures ∙ ap (λ (f : Fed). shown f.text) (sym c.feed-text.ensures)) c.in_ok-write_all-2.ensures.bytes in (
      fed ++ (b ∷ []),
      laid ++ shown (fed_by r b).text,
      Consumes-trans _ _ _ fed (b ∷ []) consumed (taken _ _ c.in-Some.byte b c.in_ok-byte.was c.in-Some.ensures.steps),
      Appends-trans _ _ _ laid (shown (fed_by r b).text) appended shows,
      subst (λ (f : Fed). Answers f.reader (fed ++ (b ∷ [])) (laid ++ shown (fed_by r b).text)) c.feed-text.ensures (more-answers r b fed laid answers),
    )

pub returns : goal.returns
returns g c =
    let (fed, laid, consumed, appended, answers) = c.loop-byte.invariant in
    let r = c.loop-byte.reader in
    let last = shown (written (closing_of r)) in
    on_ok-weaken c.write_all-2.result (λ p.
    Consumes-whole _ _ fed (λ xs. length xs < 2 ^ 64 → Appends (g.W.Write.contents c.args.out.now) (g.W.Write.contents c.write_all-2.new.self) (output_of xs)) consumed c.in-None.ensures.steps (λ short.
    subst (Appends (g.W.Write.contents c.args.out.now) (g.W.Write.contents c.write_all-2.new.self)) (all-answered r fed laid answers ∙ whole fed short) (Appends-trans _ _ _ laid last appended (subst (Appends (g.W.Write.contents c.loop-byte.out) (g.W.Write.contents c.write_all-2.new.self)) (c.as_bytes-2.ensures ∙ ap shown c.closing.ensures) p))))
    c.write_all-2.ensures.bytes
