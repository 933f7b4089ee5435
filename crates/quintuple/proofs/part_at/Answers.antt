-- `quintuple::part_at` reads a part where a quintuple starts.
use mathlib.Core.Path.{◌≡◌, sym, ◌∙◌}
use Rattle.bits.proofs.Truth.{told-false, told-true}
use Rattle.bits.proofs.Computed.{cond-true, cond-false}
use Rattle.quintuple.specs.declared.RoundKey.{RoundKey}
use Rattle.quintuple.specs.Inner.{no_key, part_in}
use Rattle.quintuple.proofs.part_at.Goals as goal

zeros : {k : RoundKey} → (k.v ≡ 0) × ((k.u ≡ 0) × (k.c ≡ 0)) → k ≡ no_key
zeros e = λ i. record { v = e.0 i; u = e.1.0 i; c = e.1.1 i }

pub returns-then-not-starts : goal.returns-then-not-starts
unfolding part_in
returns-then-not-starts c =
    let d = c.default.ensures in
    (λ i. record { k0 = zeros d.0 i; k1 = zeros d.1.0 i; k2 = zeros d.1.1.0 i; k3 = zeros d.1.1.1.0 i; k4 = zeros d.1.1.1.1 i })
    ∙ sym (cond-false _ _ _ (told-false c.starts.ensures c.if-not-starts.true))

pub returns : goal.returns
unfolding part_in
returns c = c.read_part.ensures ∙ sym (cond-true _ _ _ (told-true c.starts.ensures c.if-not-starts.false))
