use Rattle.std.proofs.Common.{◌∙◌}
use Rattle.tough_ed25519.specs.Words.{words_number}
use Rattle.tough_ed25519.proofs.Powers.{power_none, power_more}
use Rattle.tough_ed25519.proofs.field.element.Element.pow.Goals as goal

pub loop-done-init : goal.loop-done-init
loop-done-init c = c.from_u64-answer.ensures ∙ power_none _ _

pub loop-done-preserved : goal.loop-done-preserved
loop-done-preserved c =
    let more = power_more c.loop-done.done c.args.bits (words_number c.args.exponent) c.args.self.now c.loop-done-test.true in
    let before = c.loop-done.invariant in
    cc
