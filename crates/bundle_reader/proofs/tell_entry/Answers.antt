-- `bundle_reader::tell_entry`: the entry at its place, or none.
use mathlib.Core.Path.{◌≡◌, sym, ap, ◌∙◌}
use mathlib.Core.List.{[]}
use lib.ListN.{get_or}
use Rattle.bundle_format.specs.Reader.{row_of}
use Rattle.bundle_reader.proofs.Steps.{told_none, told_there}
use Rattle.bundle_reader.proofs.tell_entry.Goals as goal

pub returns-in-Some : goal.returns-in-Some
returns-in-Some c =
    let a = c.args in
    let found = c.in-Some.ensures.lookup in
    let here : c.in-Some.entry.now ≡ get_or a.entries.now a.i [] = found.3.1 [] in
    c.tell_row.ensures ∙ sym (told_there a.reader a.i a.entries.now c.row_of.result found.3.0 (c.row_of.ensures ∙ ap row_of here))

pub returns-in-None : goal.returns-in-None
returns-in-None c = c.only.ensures ∙ sym (told_none c.args.reader c.args.i c.args.entries.now c.in-None.ensures.lookup.3)
