use Rattle.std.proofs.Common.{◌-◌, length}
use Rattle.tough_schema.specs.Visited.{names_in}
use Rattle.tough_schema.specs.Whole.{tree_doc}
use Rattle.tough_schema.proofs.Rests.{IsCourse}
use Rattle.tough_schema.proofs.nodes.Nodes.search_roles.Given as goal

abbrev pub invariant-loop-course : goal.invariant-loop-course
invariant-loop-course l = IsCourse l.permissive l.name l.course (names_in l.reached) (tree_doc l.self.top.now) (length l.self.entries.items)

abbrev pub decreases-loop-course : goal.decreases-loop-course
decreases-loop-course l = length l.self.entries.items - l.course.at
