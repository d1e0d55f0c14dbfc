use Rattle.std.proofs.Common.{option_map, sym, ap, ◌∙◌}
use Rattle.tough_roles.specs.Root.{role_keys_doc}
use Rattle.tough_roles.proofs.lemmas.Verdicts.{get-roles_doc}
use Rattle.tough_checks.specs.Rotation.{ids_of}
use Rattle.tough_checks.proofs.rotation.ids_of.Goals as goal

pub returns-in-Some : goal.returns-in-Some
returns-in-Some c = c.deref.ensures.value ∙ sym (ap ids_of (get-roles_doc c.args.root.now.roles.entries c.args.role ∙ ap (option_map role_keys_doc) (sym c.in-Some.ensures.value)))

pub returns-in-None : goal.returns-in-None
returns-in-None c = sym (ap ids_of (get-roles_doc c.args.root.now.roles.entries c.args.role ∙ ap (option_map role_keys_doc) (sym c.in-None.ensures.value)))
