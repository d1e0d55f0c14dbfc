use Rattle.std.proofs.Common.{◌%◌, ℕ, ap, ◌∙◌}
use Rattle.tough_ed25519.specs.Order.{order}
use Rattle.tough_ed25519.proofs.Remainders.{number_more, number_none, reduced_more}
use Rattle.tough_ed25519.proofs.scalar.Scalar.reduce.Goals as goal

pub loop-done-init : goal.loop-done-init
loop-done-init c = c.zero-answer.ensures ∙ ap (λ (n : ℕ). n % order) (number_none c.args.bytes.now)

pub loop-done-preserved : goal.loop-done-preserved
loop-done-preserved c =
    let n = number_more c.args.bytes.now c.loop-done.done c.loop-done-test.true in
    c.shift_in_byte-answer.ensures ∙ reduced_more c.loop-done.answer _ _ _ c.loop-done.invariant n
