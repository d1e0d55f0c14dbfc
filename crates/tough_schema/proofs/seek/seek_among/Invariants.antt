use Rattle.std.proofs.Common.{◌≡◌}
use Rattle.tough_schema.specs.Whole.{role_branches}
use Rattle.tough_schema.specs.Seek.{missing, seek}
use Rattle.tough_schema.specs.Seeking.{sought_through, list_work}
use Rattle.tough_schema.proofs.seek.seek_among.Given as goal

abbrev pub invariant-loop-list : goal.invariant-loop-list
invariant-loop-list l = sought_through l.name l.lists.items missing ≡ seek l.name (role_branches l.roles)

abbrev pub decreases-loop-list : goal.decreases-loop-list
decreases-loop-list l = list_work l.lists.items
