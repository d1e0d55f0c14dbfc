use Rattle.futures.specs.Task.{Keeps}
use Rattle.tough_net.specs.Joining.{Joins}
use Rattle.tough_net.proofs.into_vec.IntoVecFutureFuture.poll.Given as goal

abbrev pub invariant-loop : goal.invariant-loop
invariant-loop g l =
    g.S.Stream.can_poll l.self.stream × Keeps l.initial.cx l.cx
    × ((r : _) → Joins (g.S.Stream.yields l.self.stream) l.self.bytes.items r
    → Joins (g.S.Stream.yields l.initial.self.stream) l.initial.self.bytes.items r)
