use Rattle.std.proofs.Common.{◌∙◌}
use Rattle.tough_ed25519.specs.Words.{words_number}
use Rattle.tough_ed25519.proofs.Multiples.{multiple_none, multiple_more}
use Rattle.tough_ed25519.proofs.curve.point.Point.mul.Goals as goal

pub loop-done-init : goal.loop-done-init
loop-done-init c = c.neutral-answer.ensures ∙ multiple_none _ _

pub loop-done-preserved : goal.loop-done-preserved
loop-done-preserved c =
    let more = multiple_more c.loop-done.done c.args.bits (words_number c.args.number) c.args.self.now c.loop-done-test.true in
    let before = c.loop-done.invariant in
    cc
