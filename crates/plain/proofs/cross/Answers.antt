-- `plain::cross`: the block's nibbles read, taken through the rounds and written.
use mathlib.Core.Path.{◌≡◌, ap, ◌∙◌}
use mathlib.Core.List.{List}
use Prim.Native.Nat.{ℕ, ◌*◌, ◌/◌, ◌%◌, ◌≤◌}
use native.Mathlib.Omega.{arith}
use lib.ListN.{length, length-replicate}
use Rattle.published.specs.Bytes.{from_bytes, to_bytes}
use Rattle.plain_key.specs.Inner.{key_of}
use Rattle.plain.specs.Inner.{state_of, nibbles_of, rounds_by}
use Rattle.plain.proofs.Nibbles.{nibbles_of_lem, length-nibbles_of}
use Rattle.plain.proofs.Rounds.{within, block_made}
use Rattle.plain.proofs.cross.Goals as goal

pub through-requires : goal.through-requires
through-requires g c =
    let block : List ℕ = c.args.block.now in
    let read : c.read_block.new.s ≡ nibbles_of (2 * length block) (from_bytes block) = c.read_block.ensures ∙ ap (λ (n : ℕ). nibbles_of n (from_bytes block)) (length-replicate g.row.N 0 ∙ c.requires.nibbles) in
    let size : length c.args.block.now % 2 ≡ 0 = c.requires.block_len.0 in
    let least : 4 ≤ length c.args.block.now = c.requires.block_len.1 in
    let most : length c.args.block.now ≤ 16 = c.requires.block_len.2 in
    nibbles_of_lem (2 * length block) _ (omega arith) (omega arith) (omega arith) read

pub write_block-requires : goal.write_block-requires
write_block-requires g c =
    let block : List ℕ = c.args.block.now in
    let read : c.read_block.new.s ≡ nibbles_of (2 * length block) (from_bytes block) = c.read_block.ensures ∙ ap (λ (n : ℕ). nibbles_of n (from_bytes block)) (length-replicate g.row.N 0 ∙ c.requires.nibbles) in
    let gone : c.through.new.s ≡ nibbles_of (2 * length block) (rounds_by c.args.back (2 * length block) (key_of c.read_key.result) (state_of c.read_block.new.s)) =
    c.through.ensures
    ∙ ap (λ (n : ℕ). nibbles_of n (rounds_by c.args.back n (key_of c.read_key.result) (state_of c.read_block.new.s))) (ap length read ∙ length-nibbles_of _ _) in
    let size : length c.args.block.now % 2 ≡ 0 = c.requires.block_len.0 in
    let least : 4 ≤ length c.args.block.now = c.requires.block_len.1 in
    let most : length c.args.block.now ≤ 16 = c.requires.block_len.2 in
    (nibbles_of_lem (2 * length block) _ (omega arith) (omega arith) (omega arith) gone, ap length gone ∙ length-nibbles_of _ _)

pub returns : goal.returns
returns g c =
    let block : List ℕ = c.args.block.now in
    let read : c.read_block.new.s ≡ nibbles_of (2 * length block) (from_bytes block) = c.read_block.ensures ∙ ap (λ (n : ℕ). nibbles_of n (from_bytes block)) (length-replicate g.row.N 0 ∙ c.requires.nibbles) in
    let gone : c.through.new.s ≡ nibbles_of (2 * length block) (rounds_by c.args.back (2 * length block) (key_of c.read_key.result) (state_of c.read_block.new.s)) =
    c.through.ensures
    ∙ ap (λ (n : ℕ). nibbles_of n (rounds_by c.args.back n (key_of c.read_key.result) (state_of c.read_block.new.s))) (ap length read ∙ length-nibbles_of _ _) in
    let k : ℕ = key_of c.read_key.result in
    let size : length block % 2 ≡ 0 = c.requires.block_len.0 in
    let whole : 4 * (2 * length block) ≡ 16 * (length block / 2) = omega arith in
    block_made (rounds_by c.args.back (2 * length block) k) block (within c.args.back (length block / 2) (2 * length block) k (from_bytes block) whole)
    (λ i. (c.slice_known-1.given i).fits) read gone c.write_block.ensures
    ∙ ap (λ (x : ℕ). to_bytes (length block) (rounds_by c.args.back (2 * length block) x (from_bytes block))) c.read_key.ensures
