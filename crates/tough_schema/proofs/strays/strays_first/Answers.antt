use Rattle.std.proofs.Common.{List, sym, ap, ◌∙◌, arith}
use Rattle.tough_schema.specs.declared.delegations.DelegatedRole.{DelegatedRole}
use Rattle.tough_schema.specs.declared.strays.Step.{Step}
use Rattle.tough_schema.specs.declared.strays.Step.TheVariants.{Visit}
use Rattle.tough_schema.specs.Below.{count}
use Rattle.tough_schema.specs.Passing.{pass, passed, passed_at, all_stepped, weights}
use Rattle.tough_schema.specs.Whole.{role_tree, role_branches}
use Rattle.tough_schema.proofs.Belows.{count-put}
use Rattle.tough_schema.proofs.Straying.{passed-next, step-push, weights-push}
use Rattle.tough_schema.proofs.strays.strays_first.Goals as goal

pub returns-clause-passed : goal.returns-clause-passed
returns-clause-passed c =
    let steps = c.args.steps.now.items in
    let is_open = c.args.is_open in
    let before = pass c.args.above.now.items c.args.seen.now c.args.found.now.items in
    let r = c.in-Some.role.now in
    let after = passed_at (role_tree r) is_open before in
    c.in_ok-strays_at.ensures.passed ∙ ap (λ (l : List Step). all_stepped l after) c.in_ok-push.ensures.items ∙ step-push steps (Visit c.in-Some.others is_open) after
    ∙ ap (all_stepped steps) (passed-next r c.in-Some.others.now is_open before ∙ ap (λ (rs : List DelegatedRole). passed rs is_open before) (sym c.in-Some.ensures.cases.0))

pub returns-clause-fewer : goal.returns-clause-fewer
returns-clause-fewer c =
    let others = c.in-Some.others in
    omega (arith, c.in_ok-strays_at.ensures.few, ap weights c.in_ok-push.ensures.items, weights-push c.args.steps.now.items (Visit others c.args.is_open), ap (λ (rs : List DelegatedRole). count (role_branches rs)) c.in-Some.ensures.cases.0, count-put (role_tree c.in-Some.role.now) (role_branches others.now))
