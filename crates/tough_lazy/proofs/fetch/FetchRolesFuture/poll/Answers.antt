use Rattle.std.proofs.Common.{rules}
use Rattle.tough_lazy.proofs.Taking.{takes-settles, either}
use Rattle.tough_lazy.proofs.fetch.FetchRolesFuture.poll.Goals as goal

pub returns-in-Ok-clause-same : goal.returns-in-Ok-clause-same
returns-in-Ok-clause-same g c = rw c.yield_now-in-Ok.ensures.pending
    (takes-settles g.K.Keeper.keeps g.V.Verify.verifies c.args.self.now c.take.new.self (search rules) (search rules))

pub returns-in-Err-clause-done : goal.returns-in-Err-clause-done
returns-in-Err-clause-done g c = either (λ w. (record { documents = w.0.documents; keeping = w.0.keeping }, w.1)) c.in-Err.ensures.refused
