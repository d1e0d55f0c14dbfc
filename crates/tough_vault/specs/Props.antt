-- What a vault keeps has at most one proof.
use Rattle.std.proofs.Common.{◌≡◌, List, [], ◌∷◌}
use Rattle.std.proofs.Props.{props}
use Rattle.tough_vault.specs.Journal.{Note, Noted, Root, Timestamp, Snapshot, Cleared, Document, Broken, Last, applied, Follows, Rises}

pub Follows-prop : (tip : Last) (n : Note) → IsProp (Follows tip n)
Follows-prop tip (Noted t) = hlevel props
Follows-prop tip (Root v c) = hlevel props
Follows-prop tip (Timestamp p had) = hlevel props
Follows-prop tip (Snapshot r had) = hlevel props
Follows-prop tip Cleared = hlevel props
Follows-prop tip (Document name) = hlevel props
Follows-prop tip Broken = hlevel props

pub Rises-prop : (tip : Last) (ns : List Note) → IsProp (Rises tip ns)
Rises-prop tip [] = hlevel props
Rises-prop tip (n ∷ ns) = let a = Follows-prop tip n in let b = Rises-prop (applied tip n) ns in hlevel (props, a, b)

pub replays-prop : (a b : Last) → IsProp (a ≡ b)
replays-prop a b = hlevel props
