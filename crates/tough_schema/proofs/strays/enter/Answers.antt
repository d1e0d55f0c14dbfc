use Rattle.std.proofs.Common.{List, Bor, ap, ◌∙◌, arith}
use Rattle.tough_schema.specs.declared.delegations.DelegatedRole.{DelegatedRole}
use Rattle.tough_schema.specs.declared.strays.Step.{Step}
use Rattle.tough_schema.specs.declared.strays.Step.TheVariants.{Leave}
use Rattle.tough_schema.specs.Passing.{Pass, all_stepped, weights}
use Rattle.tough_schema.proofs.Straying.{left-last, step-push, weights-push}
use Rattle.tough_schema.proofs.strays.enter.Goals as goal

pub returns-in_ok-push-2-clause-back : goal.returns-in_ok-push-2-clause-back
returns-in_ok-push-2-clause-back c = λ seen found.
    let steps = c.args.steps.now.items in
    let now : Pass = record { above = c.push.new.self.items; seen = seen; found = found } in
    ap (λ (l : List Step). all_stepped l now) c.in_ok-push-2.ensures.items ∙ step-push steps Leave now
    ∙ ap (λ (rs : List (Bor DelegatedRole)). let p : Pass = record { above = rs; seen = seen; found = found } in all_stepped steps p) (left-last c.args.role c.args.above.now.items c.push.new.self.items c.in_ok-push.ensures.items)

pub returns-in_ok-push-2-clause-few : goal.returns-in_ok-push-2-clause-few
returns-in_ok-push-2-clause-few c = omega (arith, ap weights c.in_ok-push-2.ensures.items, weights-push c.args.steps.now.items Leave)
