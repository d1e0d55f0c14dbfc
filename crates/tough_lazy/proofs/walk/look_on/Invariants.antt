use Rattle.std.proofs.Common.{◌≡◌, ◌+◌, [], None}
use Rattle.tough_schema.specs.Search.{no_names}
use Rattle.tough_schema.specs.Visited.{names_in}
use Rattle.tough_lazy.specs.Course.{sought_by}
use Rattle.tough_lazy.specs.Walking.{course_on, course_maybe, through, steps_behind, steps_on}
use Rattle.tough_lazy.proofs.walk.look_on.Given as goal

-- what the search comes to that goes on from here is what it comes to in the whole list
abbrev pub invariant-loop-here : goal.invariant-loop-here
invariant-loop-here l = record {
  course : sought_by (through l.name l.above.items (course_maybe l.name (names_in l.reached) l.here)) ≡ sought_by (course_on l.name no_names l.fn.list);
  ended : l.here ≡ None → l.above.items ≡ [];
}

abbrev pub decreases-loop-here : goal.decreases-loop-here
decreases-loop-here l = steps_behind l.above.items + steps_on l.here
