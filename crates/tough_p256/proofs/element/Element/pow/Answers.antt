use Rattle.std.proofs.Common.{◌∙◌}
use Rattle.tough_modular.specs.Number.{number}
use Rattle.tough_p256.proofs.Powers.{power_none, power_more}
use Rattle.tough_p256.proofs.element.Element.pow.Goals as goal

pub loop-done-init : goal.loop-done-init
loop-done-init c = c.one-answer.ensures ∙ power_none _ _

pub loop-done-preserved : goal.loop-done-preserved
loop-done-preserved c =
    let more = power_more c.loop-done.done (number c.args.exponent.now) c.args.self.now c.loop-done-test.true in
    let before = c.loop-done.invariant in
    cc
