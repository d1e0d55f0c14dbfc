use Rattle.std.proofs.Common.{◌≡◌, reverse, length, Some, option_map}
use Rattle.tough_schema.specs.Whole.{held_doc}
use Rattle.tough_schema.specs.Putting.{turned_back}
use Rattle.tough_schema.proofs.put.turn_back.Given as goal

abbrev pub invariant-loop-place : goal.invariant-loop-place
invariant-loop-place l =
    turned_back (reverse l.left) (option_map held_doc l.above) (option_map held_doc l.here) ≡ turned_back (reverse l.way) (option_map held_doc l.fn.last) (Some (held_doc l.fn.new))

abbrev pub decreases-loop-place : goal.decreases-loop-place
decreases-loop-place l = length l.left
