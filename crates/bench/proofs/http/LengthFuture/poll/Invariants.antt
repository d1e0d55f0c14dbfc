use Rattle.futures.specs.Task.{Keeps}
use Rattle.bench.proofs.http.LengthFuture.poll.Given as goal

abbrev pub invariant-loop : goal.invariant-loop
invariant-loop g l = g.S.Stream.can_poll l.self.stream × Keeps l.initial.cx l.cx
