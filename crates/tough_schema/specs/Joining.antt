-- Roles of two lists, one list after the other.
use Rattle.tough_schema.specs.Whole.{Branches, no_branches, unloaded, loaded}

abbrev pub and_then_branches : Branches → Branches → Branches
and_then_branches no_branches more = more
and_then_branches (unloaded e bs) more = unloaded e (and_then_branches bs more)
and_then_branches (loaded e name signatures t bs) more = loaded e name signatures t (and_then_branches bs more)
