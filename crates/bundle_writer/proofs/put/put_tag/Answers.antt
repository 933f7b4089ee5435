-- `bundle_writer::put::put_tag`, made of what stands before it.
use mathlib.Core.Path.{◌≡◌, refl, ap, ◌∙◌}
use mathlib.Core.List.{List}
use Prim.Native.Nat.{ℕ}
use lib.ListN.{length, take}
use Rattle.bundle_format.proofs.Encoded.{length-tag}
use Rattle.bundle_format.specs.Format.{tag_of}
use Rattle.bundle_writer.proofs.Stored.{tag-put, tag_made}
use Rattle.bundle_writer.proofs.put.put_tag.Goals as goal

pub returns : goal.returns
returns c =
    let a = c.args in
    let out : List ℕ = a.out.now in
    let w = c.whole in
    let p = c.copy_from_slice in
    let made : p.new.self ≡ tag_of a.key.now (take a.end out) = p.ensures.after ∙ tag_made a.key.now out _ w.new.out a.end _ c.requires.key_len refl w.ensures in
    tag-put out p.new.self (tag_of a.key.now (take a.end out)) a.end c.requires.end_in_bounds (ap length made ∙ length-tag a.key.now (take a.end out)) made
