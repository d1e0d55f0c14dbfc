use Rattle.std.proofs.Common.{◌≡◌}
use Rattle.tough_schema.specs.Whole.{tree_doc}
use Rattle.tough_schema.specs.Seek.{standing_in, first_named}
use Rattle.tough_schema.specs.Seeking.{all_standing, level_work}
use Rattle.tough_schema.proofs.seek.parent_in.Given as goal

abbrev pub invariant-loop-level : goal.invariant-loop-level
invariant-loop-level l = first_named l.name (all_standing l.levels.items) ≡ first_named l.name (standing_in (tree_doc l.document))

abbrev pub decreases-loop-level : goal.decreases-loop-level
decreases-loop-level l = level_work l.levels.items
