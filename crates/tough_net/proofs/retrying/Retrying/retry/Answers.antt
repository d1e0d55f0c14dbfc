use Rattle.std.specs.Prelude.{string_bytes}
use Rattle.tough_net.specs.declared.retry_events.RetryEvent.TheVariants.{Fault}
use Rattle.tough_net.proofs.Going.{Goes_turned, was_so}
use Rattle.tough_net.proofs.TurnLemmas.{fault_received}
use Rattle.tough_net.proofs.retrying.Retrying.retry.Goals as goal

pub returns : goal.returns
returns g c =
    let s = c.args.self.now.core.settings in
    let q = g.Q.Requests.resource c.args.self.now.requests in
    let p = c.args.self.now.core.progress in
    let acts = rw (c.next-action.ensures.action, c.next-action.ensures.progress) at c.act.ensures.acts in
    rw (c.act.ensures.core, c.act.ensures.requests, c.act.ensures.url, c.next-action.ensures.progress, c.next-action.ensures.settings)
    (Goes_turned g.Q.Requests.bodies g.Q.Requests.answers s q p
    g.Q.Pause.Future.can_poll g.Q.Pause.Future.gives g.Q.Connect.Future.can_poll g.Q.Connect.Future.gives g.Q.Conn.Future.can_poll g.Q.Answer.Future.can_poll g.Q.Answer.Future.gives g.Q.Body.Stream.can_poll g.Q.Body.Stream.yields
    (string_bytes c.args.self.now.url) (g.Q.Requests.sent c.args.self.now.requests) (Fault c.args.fault) c.act.new.self.state c.args.cx.now c.act.new.cx c.act.result c.requires.goes_on c.requires.counted acts
    (λ told e. was_so g.Q.Requests.bodies g.Q.Requests.answers s q p (Fault c.args.fault) told c.requires.happens e)
    (λ is. (c.requires.happens, fault_received s p c.args.fault)))
