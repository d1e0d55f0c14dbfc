-- The parts of a load.
use Rattle.std.specs.Prelude.{◌≤◌, length, Option, IfSome}
use Rattle.tough_net.specs.declared.collect.Collect.{Collect}
use Rattle.tough_net.specs.Collecting.{collected, bounds_of, held_by}

-- the fetch that runs, if one does, may be polled
abbrev pub CanPoll : {S : Type 0} → (S → Type 0) → Option (Collect S) → Type 0
CanPoll can_poll fetch = IfSome fetch (λ f. can_poll (collected f) × (length (held_by f) ≤ (bounds_of f).max))
