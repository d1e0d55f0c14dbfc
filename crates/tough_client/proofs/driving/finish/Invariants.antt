use Rattle.tough_client.proofs.driving.finish.Given as goal

abbrev pub invariant-loop : goal.invariant-loop
invariant-loop g l =
    g.F.Future.can_poll l.future
    × ((x : _) → g.F.Future.gives l.future x → g.F.Future.gives l.initial.future x)
