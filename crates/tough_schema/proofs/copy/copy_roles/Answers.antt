use Rattle.std.proofs.Common.{◌≡◌, sym, ap, ◌∙◌, arith}
use Rattle.tough_schema.specs.declared.copy.Step.{Step}
use Rattle.tough_schema.specs.Below.{work}
use Rattle.tough_schema.specs.Copying.{stack, stepped, all_stepped, weight, weights}
use Rattle.tough_schema.proofs.Copied.{step-taken, weights-push}
use Rattle.tough_schema.proofs.copy.copy_roles.Goals as goal

pub loop-step-smaller-in-Continue-branch-2 : goal.loop-step-smaller-in-Continue-branch-2
loop-step-smaller-in-Continue-branch-2 c =
    let taken : weight c.in-Some.step ≡ work c.in-Copy.roles.now = ap weight c.in-Copy.is in
    omega (arith, c.in_ok-copy_last-in-Copy.ensures.fewer, taken, ap weights c.in-Some.ensures.items, weights-push c.pop.new.self.items c.in-Some.step)

pub loop-step-preserved-in-Continue-branch-2 : goal.loop-step-preserved-in-Continue-branch-2
loop-step-preserved-in-Continue-branch-2 c =
    let copies = stack c.loop-step.copies.items in
    let steps = c.pop.new.self.items in
    c.in_ok-copy_last-in-Copy.ensures.copies copies ∙ ap (λ (s : Step). all_stepped steps (stepped s copies)) (sym c.in-Copy.is)
    ∙ step-taken steps c.loop-step.steps.items c.in-Some.step copies c.in-Some.ensures.items ∙ c.loop-step.invariant

pub loop-step-smaller : goal.loop-step-smaller
loop-step-smaller c =
    let taken : weight c.in-Some.step ≡ 1 = ap weight c.in-Make.is in
    omega (arith, taken, ap weights c.in-Some.ensures.items, weights-push c.pop.new.self.items c.in-Some.step)

pub loop-step-preserved : goal.loop-step-preserved
loop-step-preserved c =
    let copies = stack c.loop-step.copies.items in
    let steps = c.pop.new.self.items in
    ap (all_stepped steps) c.in_ok-make-in-Make.ensures ∙ ap (λ (s : Step). all_stepped steps (stepped s copies)) (sym c.in-Make.is)
    ∙ step-taken steps c.loop-step.steps.items c.in-Some.step copies c.in-Some.ensures.items ∙ c.loop-step.invariant
