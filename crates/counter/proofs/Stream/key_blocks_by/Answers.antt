-- `counter::Stream::key_blocks_by`: the blocks before place a are written.
use borrow.Author.Rules.{rules}
use mathlib.Core.Path.{◌≡◌, refl, sym, ap, ◌∙◌}
use mathlib.Core.List.{List, ◌++◌}
use Prim.Native.Nat.{ℕ, ◌+◌, ◌-◌, ◌/◌, ◌%◌}
use native.Mathlib.Omega.{arith}
use lib.ListN.{length, take, drop}
use lib.Seq.{take_at}
use Rattle.gift128.specs.Calls.{encrypted_by}
use Rattle.counter.specs.Standard.{key_blocks}
use Rattle.counter.proofs.Blocks.{blocks_none}
use Rattle.counter.proofs.Chunks.{first_of, some_of, encrypts-many, several_more}
use Rattle.counter.proofs.Stream.key_blocks_by.Goals as goal

pub loop-a-init : goal.loop-a-init
loop-a-init c = (refl, omega arith, sym (blocks_none _ _ _))

pub loop-a-preserved : goal.loop-a-preserved
loop-a-preserved c =
    let call = c.encrypt_blocks_by_words in
    let counts = c.counter_blocks in
    let q = c.loop-a in
    let s = c.args.self.now in
    let n : ℕ = c.min-n.result in
    let here : ℕ = q.a in
    let words : length s.words ≡ 80 = search rules in
    let nonce : length s.nonce ≡ 12 = search rules in
    let even : n % 16 ≡ 0 = omega arith in
    let first : length (take n q.blocks) ≡ n = first_of q.blocks n (omega arith) in
    let part : length (take (here + n - here) (drop here q.output)) ≡ n = some_of q.output here n (omega arith) in
    let long : length counts.new.blocks ≡ n = counts.auto.blocks ∙ first in
    let front : take n (counts.new.blocks ++ drop n q.blocks) ≡ counts.new.blocks = take_at counts.new.blocks (drop n q.blocks) n long in (
      omega arith,
      omega arith,
      several_more (encrypted_by s.words) s.nonce q.output (take n (counts.new.blocks ++ drop n q.blocks)) call.new.output _ s.counter here n nonce q.invariant.0 even (omega arith)
          (call.auto.output ∙ part) q.invariant.2
          (front ∙ counts.ensures ∙ ap (λ (k : ℕ). key_blocks (λ (t : List ℕ). t) s.nonce (s.counter + here / 16) (k / 16)) first)
          (encrypts-many s.words (take n (counts.new.blocks ++ drop n q.blocks)) (take (here + n - here) (drop here q.output)) words (ap (λ (k : ℕ). k % 16) (ap length front ∙ long) ∙ even) (part ∙ sym (ap length front ∙ long)) call.ensures),
    )
