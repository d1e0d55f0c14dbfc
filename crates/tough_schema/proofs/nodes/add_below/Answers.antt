use Rattle.std.proofs.Common.{◌≡◌, ℕ, slice_set, sym, ap, ◌∙◌, arith}
use Rattle.tough_schema.specs.declared.nodes.Step.{Step}
use Rattle.tough_schema.specs.Whole.{role_tree}
use Rattle.tough_schema.specs.Numbered.{node_spans}
use Rattle.tough_schema.specs.Below.{work}
use Rattle.tough_schema.specs.Adding.{stepped, all_stepped, weight, weights}
use Rattle.tough_schema.proofs.Numbers.{length-node_spans, step-taken, weights-push}
use Rattle.tough_schema.proofs.nodes.add_below.Goals as goal

pub loop-step-smaller-in-Continue-branch-2 : goal.loop-step-smaller-in-Continue-branch-2
loop-step-smaller-in-Continue-branch-2 c =
    let taken : weight c.in-Some.step ≡ work c.in-Add.roles.now = ap weight c.in-Add.is in
    omega (arith, c.in_ok-add_first-in-Add.ensures.fewer, taken, ap weights c.in-Some.ensures.items, weights-push c.pop.new.self.items c.in-Some.step)

pub loop-step-preserved-in-Continue-branch-2 : goal.loop-step-preserved-in-Continue-branch-2
loop-step-preserved-in-Continue-branch-2 c =
    let found = node_spans c.loop-step.found.items in
    let steps = c.pop.new.self.items in
    c.in_ok-add_first-in-Add.ensures.nodes ∙ ap (λ (s : Step). all_stepped steps (stepped s found)) (sym c.in-Add.is) ∙ step-taken steps c.loop-step.steps.items c.in-Some.step found c.in-Some.ensures.items ∙ c.loop-step.invariant

pub loop-step-smaller : goal.loop-step-smaller
loop-step-smaller c =
    let taken : weight c.in-Some.step ≡ 1 = ap weight c.in-Close.is in
    omega (arith, taken, ap weights c.in-Some.ensures.items, weights-push c.pop.new.self.items c.in-Some.step)

pub loop-step-preserved : goal.loop-step-preserved
loop-step-preserved c =
    let found = c.loop-step.found.items in
    let steps = c.pop.new.self.items in
    ap (all_stepped steps) (c.close.ensures ∙ ap (λ (k : ℕ). slice_set (node_spans found) c.in-Close.at (role_tree c.in-Close.role.now, k)) (sym (length-node_spans found)))
    ∙ ap (λ (s : Step). all_stepped steps (stepped s (node_spans found))) (sym c.in-Close.is) ∙ step-taken steps c.loop-step.steps.items c.in-Some.step (node_spans found) c.in-Some.ensures.items ∙ c.loop-step.invariant
