use Rattle.std.proofs.Common.{map, option_map, ap, sym, ◌∙◌}
use Rattle.tough_schema.specs.Whole.{role_tree, branches_of, delegations_tree}
use Rattle.tough_edit.specs.Edits.{roles_in}
use Rattle.tough_edit.proofs.Opening.{split_roles}
use Rattle.tough_edit.proofs.edits.split.Goals as goal

pub returns-in-Some-clause-roles : goal.returns-in-Some-clause-roles
returns-in-Some-clause-roles c =
    ap (λ v. map role_tree v.items) c.replace-roles.ensures.value ∙ split_roles c.in-Some.delegations
    ∙ ap (λ o. roles_in (branches_of (option_map delegations_tree o))) (sym c.in-Some.is)
