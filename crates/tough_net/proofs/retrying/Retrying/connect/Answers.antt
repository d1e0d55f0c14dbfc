use Rattle.tough_net.specs.declared.retry_events.RetryEvent.TheVariants.{Fault}
use Rattle.tough_net.proofs.Going.{Goes_pending, fault_at}
use Rattle.tough_net.proofs.retrying.Retrying.connect.Goals as goal

pub returns-in-Ok : goal.returns-in-Ok
returns-in-Ok g c =
    Goes_pending c.yield_now.ensures.pending
    (c.requires.counted, (c.requires.goes_on, (c.in-Ok.ensures.can, (λ o given. fault_at (λ fault from. g.Q.Requests.answers (g.Q.Requests.resource c.args.self.now.requests) from (Fault fault)) c.args.self.now.core.progress.received o (c.in-Ok.ensures.lost o given)))))
    (λ xs last h. h) c.yield_now.ensures.armed c.yield_now.ensures.kept
