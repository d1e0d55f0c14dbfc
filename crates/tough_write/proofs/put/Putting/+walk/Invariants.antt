use Rattle.std.proofs.Common.{◌≡◌, ◌+◌, ◌*◌, true, drop}
use Rattle.tough_write.specs.Putting.{manner_of}
use Rattle.tough_write.specs.Steps.{EachOf}
use Rattle.tough_write.specs.Walking.{Enters, VisitsName}
use Rattle.tough_write.proofs.put.Putting.+walk.Given as goal

abbrev pub decreases-visit : goal.decreases-visit
decreases-visit g l = 2 * l.left

abbrev pub decreases-walk : goal.decreases-walk
decreases-walk g l = 2 * l.left + 1

-- what visits the rest completes the whole
abbrev pub invariant-walk-loop-name : goal.invariant-walk-loop-name
invariant-walk-loop-name g l = g.F.Files.tells ≡ true → (r : _) (calls : _)
    → EachOf (VisitsName (manner_of l.self) l.root (Enters (manner_of l.self) l.root l.left) l.dir) (drop l.name-index l.name-items) r (g.F.Files.calls l.files) calls
    → EachOf (VisitsName (manner_of l.self) l.root (Enters (manner_of l.self) l.root l.left) l.dir) l.name-items r (g.F.Files.calls l.initial.files) calls
