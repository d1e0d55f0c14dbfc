use Rattle.std.proofs.Common.{◌≡◌, Some, take}
use Rattle.serde_json.specs.View.{items_view}
use Rattle.tough_json.specs.Writing.{all_json, hexadecimal_json}
use Rattle.tough_roles.proofs.write_root.keyid_values.Given as goal

abbrev pub invariant-loop-keyid : goal.invariant-loop-keyid
invariant-loop-keyid l = all_json hexadecimal_json (take l.keyid-index l.keyids) ≡ Some (items_view l.values.items)
