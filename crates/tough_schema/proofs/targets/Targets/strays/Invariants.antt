use Rattle.std.proofs.Common.{◌≡◌}
use Rattle.tough_schema.specs.Whole.{tree_doc}
use Rattle.tough_schema.specs.Search.{no_names}
use Rattle.tough_schema.specs.Strays.{any_name, strays_below}
use Rattle.tough_schema.specs.Passing.{pass, all_stepped, weights}
use Rattle.tough_schema.proofs.targets.Targets.strays.Given as goal

-- the steps that are left lead to all of them
abbrev pub invariant-loop-step : goal.invariant-loop-step
invariant-loop-step l = (all_stepped l.steps.items (pass l.above.items l.seen l.found.items)).found ≡ strays_below no_names any_name (tree_doc l.self)

abbrev pub decreases-loop-step : goal.decreases-loop-step
decreases-loop-step l = weights l.steps.items
