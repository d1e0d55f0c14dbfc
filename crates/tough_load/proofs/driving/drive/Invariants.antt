use Rattle.tough_load.specs.Advancing.{Advances}
use Rattle.tough_load.specs.Running.{CanPoll}
use Rattle.tough_load.proofs.driving.drive.Given as goal

abbrev pub invariant-loop : goal.invariant-loop
invariant-loop g l =
    CanPoll g.T.Stream.Stream.can_poll l.load.fetch
    × Advances g.T.Transport.refuses g.T.Transport.serves g.K.Keeper.keeps g.K.Keeper.reads g.C.Clock.may_give g.T.Stream.Stream.yields g.V.Verify.verifies l.initial.load l.load
