use Rattle.std.proofs.Common.{rules, ◌≡◌, ℕ, ◌-◌, List, length, take, vec_len, Bor, sym, ap, ◌∙◌, arith}
use Rattle.tough_schema.specs.declared.delegations.DelegatedRole.{DelegatedRole}
use Rattle.tough_schema.specs.declared.strays.Step.{Step}
use Rattle.tough_schema.specs.Below.{work}
use Rattle.tough_schema.specs.Passing.{Pass, pass, but_last, stepped, all_stepped, weight, weights}
use Rattle.tough_schema.specs.Strays.{names_of}
use Rattle.tough_schema.specs.Visited.{names_in}
use Rattle.tough_schema.proofs.Straying.{step-taken, weights-push}
use Rattle.tough_schema.proofs.targets.Targets.strays.Goals as goal

pub loop-step-smaller-in-Leave : goal.loop-step-smaller-in-Leave
loop-step-smaller-in-Leave c =
    let taken : weight c.in-Some.step ≡ 1 = ap weight c.in-Leave.is in
    omega (arith, taken, ap weights c.in-Some.ensures.items, weights-push c.pop.new.self.items c.in-Some.step)

pub loop-step-preserved-in-Leave : goal.loop-step-preserved-in-Leave
loop-step-preserved-in-Leave c =
    let steps = c.pop.new.self.items in
    let above = c.loop-step.above in
    let now = pass above.items c.loop-step.seen c.loop-step.found.items in
    let size : vec_len above ≡ length above.items = search rules in
    let left : c.pop-in-Leave.new.self.items ≡ but_last above.items = c.pop-in-Leave.ensures.rest ∙ ap (λ (n : ℕ). take (n - 1) above.items) size in
    ap (λ (rs : List (Bor DelegatedRole)). let p : Pass = record { above = rs; seen = names_in c.loop-step.seen; found = names_of c.loop-step.found.items } in (all_stepped steps p).found) left
    ∙ ap (λ (s : Step). (all_stepped steps (stepped s now)).found) (sym c.in-Leave.is)
    ∙ ap (λ (p : Pass). p.found) (step-taken steps c.loop-step.steps.items c.in-Some.step now c.in-Some.ensures.items) ∙ c.loop-step.invariant

pub loop-step-smaller : goal.loop-step-smaller
loop-step-smaller c =
    let taken : weight c.in-Some.step ≡ work c.in-Visit.roles.now = ap weight c.in-Visit.is in
    omega (arith, c.in_ok-strays_first-in-Visit.ensures.fewer, taken, ap weights c.in-Some.ensures.items, weights-push c.pop.new.self.items c.in-Some.step)

pub loop-step-preserved : goal.loop-step-preserved
loop-step-preserved c =
    let steps = c.pop.new.self.items in
    let now = pass c.loop-step.above.items c.loop-step.seen c.loop-step.found.items in
    ap (λ (p : Pass). p.found)
    (c.in_ok-strays_first-in-Visit.ensures.passed ∙ ap (λ (s : Step). all_stepped steps (stepped s now)) (sym c.in-Visit.is)
    ∙ step-taken steps c.loop-step.steps.items c.in-Some.step now c.in-Some.ensures.items) ∙ c.loop-step.invariant
