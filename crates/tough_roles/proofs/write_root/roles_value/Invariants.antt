use Rattle.std.proofs.Common.{◌≡◌}
use Rattle.serde_json.specs.Data.{no_members}
use Rattle.serde_json.specs.View.{members_view}
use Rattle.tough_roles.specs.Root.{roles_json, roles_doc}
use Rattle.tough_roles.proofs.write_root.roles_value.Given as goal

abbrev pub invariant-loop-role : goal.invariant-loop-role
invariant-loop-role l = roles_json (roles_doc l.roles.entries) no_members ≡ roles_json (roles_doc l.role-iterator) (members_view l.members.entries)
