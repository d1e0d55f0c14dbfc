use Rattle.std.proofs.Common.{◌≡◌, Some, take}
use Rattle.serde_json.specs.View.{items_view}
use Rattle.tough_json.specs.Writing.{all_json}
use Rattle.tough_schema.specs.Paths.{pattern_json}
use Rattle.tough_schema.proofs.write_delegations.pattern_values.Given as goal

abbrev pub invariant-loop-pattern : goal.invariant-loop-pattern
invariant-loop-pattern l = all_json pattern_json (take l.pattern-index l.patterns) ≡ Some (items_view l.values.items)
