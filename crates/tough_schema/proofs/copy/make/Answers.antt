use Rattle.std.proofs.Common.{List, ◌∷◌, take, drop, length, ap, ◌∙◌}
use Rattle.tough_schema.specs.declared.delegations.DelegatedRole.{DelegatedRole}
use Rattle.tough_schema.specs.Whole.{RoleTree}
use Rattle.tough_schema.specs.Copying.{rebuilt, stack}
use Rattle.tough_schema.proofs.Copied.{stack-push}
use Rattle.tough_schema.proofs.copy.make.Goals as goal

pub returns : goal.returns
returns c =
    let r = c.args.role.now in
    let before = stack c.args.copies.now.items in
    let left = stack c.take_last.new.copies.items in
    let n = length c.roles_under.result.now in
    ap stack c.in_ok-push.ensures.items ∙ stack-push c.take_last.new.copies.items c.in_ok-copy.copy
    ∙ ap (λ (x : RoleTree). x ∷ left) c.in_ok-copy.ensures ∙ ap (λ (l : List RoleTree). rebuilt r l ∷ left) c.in_ok-below.ensures.taken
    ∙ ap (λ (l : List RoleTree). rebuilt r (take n before) ∷ l) c.in_ok-below.ensures.left
    ∙ ap (λ (rs : List DelegatedRole). rebuilt r (take (length rs) before) ∷ drop (length rs) before) c.roles_under.ensures.same
