use Rattle.std.proofs.Common.{◌-◌, map, length}
use Rattle.tough_schema.specs.Whole.{role_tree}
use Rattle.tough_schema.specs.Copying.{stack}
use Rattle.tough_schema.proofs.Copied.{Takes}
use Rattle.tough_schema.proofs.copy.take_last.Given as goal

abbrev pub invariant-loop-copies : goal.invariant-loop-copies
invariant-loop-copies l = Takes l.count (stack l.fn.copies.items) (map role_tree l.taken.items) (stack l.copies.items)

abbrev pub decreases-loop-copies : goal.decreases-loop-copies
decreases-loop-copies l = l.count - length l.taken.items
