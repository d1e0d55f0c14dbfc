use Rattle.std.proofs.Common.{List, map, option_map, ap, ◌∙◌}
use Rattle.tough_schema.specs.declared.delegations.DelegatedRole.{DelegatedRole}
use Rattle.tough_schema.specs.Whole.{tree_doc, role_tree, held_doc}
use Rattle.tough_schema.specs.Update.{documents_for, needed}
use Rattle.tough_schema.proofs.Updates.{updated-with, needed-within}
use Rattle.tough_schema.proofs.targets.Targets.update_targets.Goals as goal

pub returns-clause-updated : goal.returns-clause-updated
returns-clause-updated c =
    let old = tree_doc c.args.self.now in
    c.give_below.ensures ∙ updated-with old c.args.new_targets.now.signed (map (option_map held_doc) c.in_ok-documents.documents.items) (c.in_ok-documents.ensures ∙ ap (λ (rs : List DelegatedRole). documents_for old (map role_tree rs)) c.roles_of-roles.ensures.same)

pub returns-clause-needed : goal.returns-clause-needed
returns-clause-needed c =
    let old = tree_doc c.args.self.now in
    c.in_ok-names.ensures ∙ ap (λ (rs : List DelegatedRole). needed old (map (λ r. (role_tree r).0) rs)) c.roles_of-roles.ensures.same ∙ needed-within old c.args.new_targets.now.signed
