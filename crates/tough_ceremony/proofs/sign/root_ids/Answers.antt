use Rattle.std.proofs.Common.{sym, ap, option_map, ◌∙◌}
use Rattle.tough_roles.specs.Root.{role_keys_doc}
use Rattle.tough_roles.specs.declared.role_type.RoleType.TheVariants as types
use Rattle.tough_roles.proofs.lemmas.Verdicts.{get-roles_doc}
use Rattle.tough_ceremony.specs.Signing.{listed_by}
use Rattle.tough_ceremony.proofs.sign.root_ids.Goals as goal

pub returns-in-Some : goal.returns-in-Some
returns-in-Some c = c.deref.ensures.value ∙ sym (ap listed_by (get-roles_doc c.args.root.now.roles.entries types.Root ∙ ap (option_map role_keys_doc) (sym c.in-Some.ensures.value)))

pub returns-in-None : goal.returns-in-None
returns-in-None c = sym (ap listed_by (get-roles_doc c.args.root.now.roles.entries types.Root ∙ ap (option_map role_keys_doc) (sym c.in-None.ensures.value)))
