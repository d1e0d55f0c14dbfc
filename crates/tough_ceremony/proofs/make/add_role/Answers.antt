use Rattle.std.proofs.Common.{ap, ◌∙◌}
use Rattle.std.specs.BTreeMap.{insert_entry}
use Rattle.tough_roles.specs.Roles.{role_cmp}
use Rattle.tough_roles.specs.Root.{roles_doc}
use Rattle.tough_ceremony.proofs.Rolls.{insert_roles}
use Rattle.tough_ceremony.proofs.make.add_role.Goals as goal

pub returns : goal.returns
returns c =
    ap roles_doc c.in_ok-insert.ensures.entries ∙ (insert_roles c.args.roles.now.entries c.args.role c.no_keys.result
    ∙ ap (insert_entry role_cmp (roles_doc c.args.roles.now.entries) c.args.role) c.no_keys.ensures)
