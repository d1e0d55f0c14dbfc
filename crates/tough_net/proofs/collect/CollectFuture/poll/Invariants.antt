use Rattle.std.specs.Prelude.{◌≡◌, ◌≤◌, length}
use Rattle.futures.specs.Task.{Keeps}
use Rattle.tough_net.specs.Collecting.{Collects, bounds_of}
use Rattle.tough_net.proofs.collect.CollectFuture.poll.Given as goal

abbrev pub invariant-loop : goal.invariant-loop
invariant-loop g l =
    g.S.Stream.can_poll l.self.stream × Keeps l.initial.cx l.cx
    × (bounds_of l.self ≡ bounds_of l.initial.self) × (length l.self.bytes.items ≤ l.self.max_size)
    × ((r : _) → Collects (bounds_of l.self) (g.S.Stream.yields l.self.stream) l.self.bytes.items r
    → Collects (bounds_of l.initial.self) (g.S.Stream.yields l.initial.self.stream) l.initial.self.bytes.items r)
