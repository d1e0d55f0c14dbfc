use Rattle.std.proofs.Common.{◌≡◌, Some, take}
use Rattle.serde_json.specs.View.{items_view}
use Rattle.tough_json.specs.Writing.{all_json}
use Rattle.tough_schema.specs.Paths.{text_json}
use Rattle.tough_schema.proofs.write_delegations.prefix_values.Given as goal

abbrev pub invariant-loop-prefix : goal.invariant-loop-prefix
invariant-loop-prefix l = all_json text_json (take l.prefix-index l.prefixes) ≡ Some (items_view l.values.items)
