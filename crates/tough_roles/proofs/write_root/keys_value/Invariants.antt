use Rattle.std.proofs.Common.{◌≡◌}
use Rattle.serde_json.specs.Data.{no_members}
use Rattle.serde_json.specs.View.{members_view}
use Rattle.tough_roles.specs.Root.{keys_json, keys_doc}
use Rattle.tough_roles.proofs.write_root.keys_value.Given as goal

abbrev pub invariant-loop-id : goal.invariant-loop-id
invariant-loop-id l = keys_json (keys_doc l.keys.entries) no_members ≡ keys_json (keys_doc l.id-iterator) (members_view l.members.entries)
