-- `bundle_writer::put_bundle`: all before the tag, and then the tag.
use mathlib.Core.Path.{◌≡◌, ap, ◌∙◌}
use mathlib.Core.List.{List}
use Prim.Native.Nat.{ℕ, ◌+◌, ◌-◌, ◌*◌, ◌/◌}
use native.Mathlib.Omega.{arith}
use lib.ListN.{length, length-take, length-drop}
use Rattle.bundle_format.proofs.Encoded.{length-untagged}
use Rattle.std.specs.Simd.{first_chunks}
use Rattle.bundle_format.specs.Format.{untagged}
use Rattle.bundle_format.specs.Writer.{list_of}
use Rattle.bundle_writer.specs.Inner.{settings_in, sizes_in}
use Rattle.bundle_writer.proofs.Lent.{chunks_list, chunks_sizes}
use Rattle.bundle_writer.proofs.Numbered.{Rows, good-rows}
use Rattle.bundle_writer.proofs.Stored.{put-length, bundle_put}
use Rattle.bundle_writer.proofs.put_bundle.Goals as goal

pub slice_bounds-put_untagged-end : goal.slice_bounds-put_untagged-end
slice_bounds-put_untagged-end c =
    let a = c.args in
    let r : Rows a.edition a.rows.now a.pool.now = good-rows a.edition a.rows.now a.pool.now c.requires.pool_value in
    let room = c.requires.pool_in_bounds in
    omega (arith, r.total, c.as_chunks.ensures.front_len)

pub put_untagged-requires : goal.put_untagged-requires
put_untagged-requires c =
    let a = c.args in
    let rows : List ℕ = a.rows.now in
    let r : Rows a.edition rows a.pool.now = good-rows a.edition rows a.pool.now c.requires.pool_value in
    let room = c.requires.pool_in_bounds in
    let count = c.as_chunks.ensures.front_len in
    let front : c.as_chunks.result.0.now ≡ first_chunks 4 (length rows / 4) rows = c.as_chunks.ensures.front in
    record {
      rows_value = ap sizes_in front ∙ chunks_sizes (length rows / 4) rows ∙ r.all;
      out_len = simp (length-take, length-drop) (omega (arith, r.total));
      out_len_bound = simp (length-take, length-drop) (omega (arith, r.total, r.small));
    }

pub put_tag-requires : goal.put_tag-requires
put_tag-requires c =
    let a = c.args in
    let rows : List ℕ = a.rows.now in
    let pool : List ℕ = a.pool.now in
    let out : List ℕ = a.out.now in
    let r : Rows a.edition rows pool = good-rows a.edition rows pool c.requires.pool_value in
    let room = c.requires.pool_in_bounds in
    let count = c.as_chunks.ensures.front_len in
    let end : ℕ = 8 + 12 * length c.as_chunks.result.0.now + length pool in
    let p = c.put_untagged in
    let front : c.as_chunks.result.0.now ≡ first_chunks 4 (length rows / 4) rows = c.as_chunks.ensures.front in
    let made : p.new.out ≡ untagged a.edition (list_of rows pool) = p.ensures ∙ ap (λ (l : List (List ℕ)). untagged a.edition (settings_in l pool)) front ∙ ap (untagged a.edition) (chunks_list (length rows / 4) rows pool) in
    let len : length p.new.out ≡ end - 0 = ap length made ∙ length-untagged a.edition (list_of rows pool) ∙ omega (arith, r.total) in
    let whole = put-length 0 end out p.new.out (omega (arith, r.total)) len in
    record { key_len = c.requires.key_len; end_in_bounds = omega (arith, r.total, whole) }

pub returns : goal.returns
returns c =
    let a = c.args in
    let rows : List ℕ = a.rows.now in
    let pool : List ℕ = a.pool.now in
    let out : List ℕ = a.out.now in
    let r : Rows a.edition rows pool = good-rows a.edition rows pool c.requires.pool_value in
    let room = c.requires.pool_in_bounds in
    let count = c.as_chunks.ensures.front_len in
    let end : ℕ = 8 + 12 * length c.as_chunks.result.0.now + length pool in
    let p = c.put_untagged in
    let t = c.put_tag in
    let front : c.as_chunks.result.0.now ≡ first_chunks 4 (length rows / 4) rows = c.as_chunks.ensures.front in
    let made : p.new.out ≡ untagged a.edition (list_of rows pool) = p.ensures ∙ ap (λ (l : List (List ℕ)). untagged a.edition (settings_in l pool)) front ∙ ap (untagged a.edition) (chunks_list (length rows / 4) rows pool) in
    let len : length p.new.out ≡ end = ap length made ∙ length-untagged a.edition (list_of rows pool) ∙ omega (arith, r.total) in
    bundle_put a.key.now out p.new.out t.new.out a.edition end (list_of rows pool) (omega (arith, r.total)) len made (omega (arith, r.total)) t.ensures
