use Rattle.std.proofs.Common.{◌∙◌, arith}
use Rattle.tough_ed25519.specs.Words.{words_number}
use Rattle.tough_ed25519.proofs.Products.{product_more, product_none, product_all}
use Rattle.tough_ed25519.proofs.scalar.Scalar.mul.Goals as goal

pub loop-done-init : goal.loop-done-init
loop-done-init c = c.zero-answer.ensures ∙ product_none (words_number c.args.number) c.args.self.now (omega arith)

pub loop-done-preserved : goal.loop-done-preserved
loop-done-preserved c =
    let more = product_more (words_number c.args.number) c.args.self.now c.loop-done.answer c.loop-done.done c.loop-done-test.true c.loop-done.invariant in
    cc

pub returns : goal.returns
returns c = c.loop-done.invariant ∙ product_all (words_number c.args.number) c.args.self.now c.loop-done.done c.loop-done-test.false
