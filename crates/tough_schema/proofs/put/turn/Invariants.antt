use Rattle.std.proofs.Common.{◌≡◌, take, drop, reverse, option_map}
use Rattle.tough_schema.specs.Whole.{HeldDoc, held_doc}
use Rattle.tough_schema.specs.Putting.{held_along, turned_back, IsOpen}
use Rattle.tough_schema.proofs.put.turn.Given as goal

-- what is turned back, with the document put at the end of the rest of the way, is the whole with it
abbrev pub invariant-loop-place : goal.invariant-loop-place
invariant-loop-place l =
    IsOpen l.way (option_map held_doc l.fn.old) → IsOpen (drop l.place-index l.way) (option_map held_doc l.here)
    × ((h : HeldDoc) → turned_back (reverse (take l.place-index l.way)) (option_map held_doc l.above) (held_along (drop l.place-index l.way) h (option_map held_doc l.here)) ≡ held_along l.way h (option_map held_doc l.fn.old))
