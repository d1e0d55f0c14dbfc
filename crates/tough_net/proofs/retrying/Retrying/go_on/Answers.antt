use Rattle.std.proofs.Common.{◌∙◌, [], sym, refl, length, Some, None, Ok, rules}
use Rattle.std.specs.Prelude.{string_bytes}
use Rattle.futures.specs.Runs.{After}
use Rattle.tough_net.specs.declared.retry_events.RetryEvent.TheVariants.{Piece}
use Rattle.tough_net.proofs.Going.{Goes_turned, Goes_pending, Goes_later, Goes_piece, Goes_end, was_so_piece, piece_asks}
use Rattle.tough_net.proofs.TurnLemmas.{piece_counts}
use Rattle.tough_net.proofs.ResourceLemmas.{Continues-Within_rest, Fetches_end, Fetches_piece, Fetches-After_piece, Reads_gave, Reads_rest, Reads_within}
use Rattle.tough_net.proofs.retrying.Retrying.go_on.Goals as goal

pub returns-in-Pending : goal.returns-in-Pending
returns-in-Pending g c =
    let all = rw c.in-Pausing.is at c.requires in
    let stands = all.1 in
    rw c.in-Pausing.is (Goes_pending refl (all.0, (stands.0, (c.in-Pending.ensures.again, (λ o given. stands.1.1 o (c.in-Pending.ensures.same o given))))) (λ xs last h. h) c.in-Pending.ensures.registered.0 c.poll.ensures.kept)

pub returns-in-Ready : goal.returns-in-Ready
returns-in-Ready g c = rw c.in-Pausing.is (Goes_later c.poll.ensures.kept c.connect.ensures)

pub returns-in-Pending-poll : goal.returns-in-Pending-poll
returns-in-Pending-poll g c =
    let all = rw c.in-Connecting.is at c.requires in
    let stands = all.1 in
    rw c.in-Connecting.is (Goes_pending refl
    (all.0, (stands.0, (c.in-Pending-poll.ensures.again, (λ o given. stands.1.1 o (c.in-Pending-poll.ensures.same o given)))))
    (λ xs last h. h) c.in-Pending-poll.ensures.registered.0 c.poll-in-Connecting.ensures.kept)

pub returns-in-Ready-Ok : goal.returns-in-Ready-Ok
returns-in-Ready-Ok g c = rw c.in-Connecting.is (Goes_later c.poll-in-Connecting.ensures.kept c.send.ensures)

pub returns-in-Ready-Err : goal.returns-in-Ready-Err
returns-in-Ready-Err g c = rw c.in-Connecting.is (Goes_later c.poll-in-Connecting.ensures.kept c.retry.ensures)

pub returns-in-Pending-poll-2 : goal.returns-in-Pending-poll-2
returns-in-Pending-poll-2 g c =
    let all = rw c.in-Asking.is at c.requires in
    let stands = all.1 in
    let same = rw c.poll_conn.ensures.body at c.in-Pending-poll-2.ensures.same in
    rw c.in-Asking.is (Goes_pending refl
    (all.0, (stands.0, (c.poll_conn.ensures.can, c.in-Pending-poll-2.ensures.again, (λ o given. stands.1.2 o (same o given)))))
    (λ xs last h. h) c.in-Pending-poll-2.ensures.registered.0 (λ fact h. c.poll-in-Asking.ensures.kept fact (c.poll_conn.ensures.kept fact h)))

pub returns-in-Ready-Ok-poll : goal.returns-in-Ready-Ok-poll
returns-in-Ready-Ok-poll g c =
    rw c.in-Asking.is (Goes_later (λ fact h. c.poll-in-Asking.ensures.kept fact (c.poll_conn.ensures.kept fact h)) c.answer.ensures)

pub returns-in-Ready-Err-poll : goal.returns-in-Ready-Err-poll
returns-in-Ready-Err-poll g c =
    rw c.in-Asking.is (Goes_later (λ fact h. c.poll-in-Asking.ensures.kept fact (c.poll_conn.ensures.kept fact h)) c.retry-in-Ready-Err-poll.ensures)

pub returns-in-Pending-poll_next : goal.returns-in-Pending-poll_next
returns-in-Pending-poll_next g c =
    let all = rw c.in-Reading.is at c.requires in
    let stands = all.1 in
    let same = c.in-Pending-poll_next.ensures.same in
    rw c.in-Reading.is (Goes_pending refl (
      all.0,
      (
        stands.0,
        (
          c.in-Pending-poll_next.ensures.again.0,
          c.in-Pending-poll_next.ensures.again.1,
          (λ xs last h. stands.1.2 xs last (same xs last h)),
          Reads_within g.Q.Requests.bodies (g.Q.Requests.resource c.args.self.now.requests) c.args.self.now.core.progress.received _ _ stands.1.3 same,
        ),
      ),
    )
    (λ xs last h. h) c.in-Pending-poll_next.ensures.registered.0 c.poll_next.ensures.kept)

pub returns-in-Read : goal.returns-in-Read
returns-in-Read g c =
    let all = rw c.in-Reading.is at c.requires in
    let stands = all.1 in
    let s = c.args.self.now.core.settings in
    let q = g.Q.Requests.resource c.args.self.now.requests in
    let p = c.args.self.now.core.progress in
    let piece = c.in-Ready-Some-Ok.piece in
    let old = g.Q.Body.Stream.yields c.in-Reading.exchange.body in
    let new = g.Q.Body.Stream.yields c.poll_next.new.self.body in
    let first = stands.1.2 [] (Some (Ok piece)) (search rules) in
    let gave = Reads_gave g.Q.Requests.bodies q p.received old (Some (Ok piece)) stands.1.3 (search rules) in
    let after : After old (Ok piece) new = search rules in
    let counts = rw c.len-len.ensures.value at (piece_counts s p c.len-len.result stands.0 (sym c.next.ensures.action ∙ c.in-Read.is)) in
    rw (c.in-Reading.is, c.next.ensures.progress, c.next.ensures.settings, c.len-len.ensures.value) (rw counts
    (Goes_piece piece (Fetches_piece g.Q.Requests.bodies g.Q.Requests.answers s q (string_bytes c.args.self.now.url) p piece first gave)
    (Fetches-After_piece g.Q.Requests.bodies g.Q.Requests.answers s q (string_bytes c.args.self.now.url) p piece first gave) (
      record { few = all.0.few; sent = all.0.sent },
      (
        stands.0,
        (
          search rules,
          search rules,
          Continues-Within_rest g.Q.Requests.bodies q p.received piece old new stands.1.2 after,
          Reads_rest g.Q.Requests.bodies q p.received old new piece stands.1.3 after,
        ),
      ),
    )
    c.poll_next.ensures.kept))

pub returns-in_default : goal.returns-in_default
returns-in_default g c =
    let all = rw c.in-Reading.is at c.requires in
    let stands = all.1 in
    let s = c.args.self.now.core.settings in
    let q = g.Q.Requests.resource c.args.self.now.requests in
    let p = c.args.self.now.core.progress in
    let piece = c.in-Ready-Some-Ok.piece in
    let old = g.Q.Body.Stream.yields c.in-Reading.exchange.body in
    let gave = Reads_gave g.Q.Requests.bodies q p.received old (Some (Ok piece)) stands.1.3 (search rules) in
    let acts = rw (c.next.ensures.action, c.next.ensures.progress, c.len-len.ensures.value) at c.act.ensures.acts in
    rw (c.in-Reading.is, c.act.ensures.core, c.act.ensures.requests, c.act.ensures.url, c.next.ensures.progress, c.next.ensures.settings, c.len-len.ensures.value)
    (Goes_later c.poll_next.ensures.kept (Goes_turned g.Q.Requests.bodies g.Q.Requests.answers s q p
    g.Q.Pause.Future.can_poll g.Q.Pause.Future.gives g.Q.Connect.Future.can_poll g.Q.Connect.Future.gives g.Q.Conn.Future.can_poll g.Q.Answer.Future.can_poll g.Q.Answer.Future.gives g.Q.Body.Stream.can_poll g.Q.Body.Stream.yields
    (string_bytes c.args.self.now.url) (g.Q.Requests.sent c.args.self.now.requests) (Piece (length piece)) c.act.new.self.state c.poll_next.new.cx c.act.new.cx c.act.result stands.0 all.0 acts
    (λ told e. was_so_piece g.Q.Requests.bodies g.Q.Requests.answers s q p piece told gave e)
    (λ is. absurd (piece_asks g.Q.Requests.bodies g.Q.Requests.answers s q p (length piece) stands.0 is))))

pub returns-in-Ready-Some-Err : goal.returns-in-Ready-Some-Err
returns-in-Ready-Some-Err g c = rw c.in-Reading.is (Goes_later c.poll_next.ensures.kept c.retry-in-Ready-Some-Err.ensures)

pub returns-in-Ready-None : goal.returns-in-Ready-None
returns-in-Ready-None g c =
    let all = rw c.in-Reading.is at c.requires in
    let stands = all.1 in
    let q = g.Q.Requests.resource c.args.self.now.requests in
    let p = c.args.self.now.core.progress in
    let gave = Reads_gave g.Q.Requests.bodies q p.received (g.Q.Body.Stream.yields c.in-Reading.exchange.body) None stands.1.3 (search rules) in
    rw c.in-Reading.is (Goes_end (Fetches_end g.Q.Requests.bodies g.Q.Requests.answers c.args.self.now.core.settings q (string_bytes c.args.self.now.url) p gave) c.poll_next.ensures.kept)
