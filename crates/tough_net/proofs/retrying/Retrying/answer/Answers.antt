use Rattle.std.proofs.Common.{◌≡◌, ◌∙◌, sym, refl, rules}
use Rattle.std.specs.Prelude.{string_bytes}
use Rattle.tough_net.specs.declared.retry_events.RetryAction.TheVariants.{Read}
use Rattle.tough_net.specs.declared.retry_events.RetryEvent.TheVariants.{Answer}
use Rattle.tough_net.proofs.Going.{Goes_turned, Goes_pending, was_so, goes_on_over, read_body}
use Rattle.tough_net.proofs.PacingLemmas.{turn_counted}
use Rattle.tough_net.proofs.TurnLemmas.{answer_received}
use Rattle.tough_net.proofs.ResourceLemmas.{Continues-Within_body, Fetches-Within, Reads_body}
use Rattle.tough_net.proofs.retrying.Retrying.answer.Goals as goal

pub returns-then-eq : goal.returns-then-eq
returns-then-eq g c =
    let s = c.args.self.now.core.settings in
    let q = g.Q.Requests.resource c.args.self.now.requests in
    let p = c.args.self.now.core.progress in
    let status = c.args.response.status in
    let accepts = c.args.response.accepts_ranges in
    let is_read : c.next-action.result ≡ Read = search rules in
    let read = sym c.next-action.ensures.action ∙ is_read in
    let within = c.requires.body.body (read_body g.Q.Requests.bodies g.Q.Requests.answers s q p status accepts c.requires.goes_on read) in
    let on = goes_on_over g.Q.Requests.bodies g.Q.Requests.answers s q p (Answer status accepts) Read c.requires.goes_on refl read in
    let same = answer_received s p status accepts in
    rw (c.next-action.ensures.progress, c.next-action.ensures.settings)
    (Goes_pending c.yield_now.ensures.pending
    (turn_counted s (g.Q.Requests.sent c.args.self.now.requests) p (Answer status accepts) c.requires.counted, (on, (c.requires.conn, c.requires.body.can, rw same (Continues-Within_body g.Q.Requests.bodies q p.received _ within), rw same (Reads_body g.Q.Requests.bodies q p.received _ within))))
    (Fetches-Within g.Q.Requests.bodies g.Q.Requests.answers s q (string_bytes c.args.self.now.url) p (Answer status accepts) c.requires.body.answers_so on same)
    c.yield_now.ensures.armed c.yield_now.ensures.kept)

pub returns-else-eq : goal.returns-else-eq
returns-else-eq g c =
    let s = c.args.self.now.core.settings in
    let q = g.Q.Requests.resource c.args.self.now.requests in
    let p = c.args.self.now.core.progress in
    let event = Answer c.args.response.status c.args.response.accepts_ranges in
    let acts = rw (c.next-action.ensures.action, c.next-action.ensures.progress) at c.act.ensures.acts in
    rw (c.act.ensures.core, c.act.ensures.requests, c.act.ensures.url, c.next-action.ensures.progress, c.next-action.ensures.settings)
    (Goes_turned g.Q.Requests.bodies g.Q.Requests.answers s q p
    g.Q.Pause.Future.can_poll g.Q.Pause.Future.gives g.Q.Connect.Future.can_poll g.Q.Connect.Future.gives g.Q.Conn.Future.can_poll g.Q.Answer.Future.can_poll g.Q.Answer.Future.gives g.Q.Body.Stream.can_poll g.Q.Body.Stream.yields
    (string_bytes c.args.self.now.url) (g.Q.Requests.sent c.args.self.now.requests) event c.act.new.self.state c.args.cx.now c.act.new.cx c.act.result c.requires.goes_on c.requires.counted acts
    (λ told e. was_so g.Q.Requests.bodies g.Q.Requests.answers s q p event told c.requires.body.answers_so e)
    (λ is. (c.requires.body.answers_so, answer_received s p c.args.response.status c.args.response.accepts_ranges)))
