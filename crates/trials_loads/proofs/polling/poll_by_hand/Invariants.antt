use Rattle.trials_loads.proofs.polling.poll_by_hand.Given as goal

abbrev pub invariant-loop-poll : goal.invariant-loop-poll
invariant-loop-poll g l = g.F.Future.can_poll l.future
