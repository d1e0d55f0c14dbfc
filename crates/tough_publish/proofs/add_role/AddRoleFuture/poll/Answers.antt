use Rattle.std.proofs.Common.{rules, ◌≡◌, None, Some}
use Rattle.tough_publish.specs.Adding.{editor_in, url_in, role_in}
use Rattle.tough_publish.specs.Editors.{editor_doc}
use Rattle.tough_publish.proofs.Addings.{begun_same, polled_unbegun, polled, waits_same}
use Rattle.tough_publish.proofs.add_role.AddRoleFuture.poll.Goals as goal

pub returns-in-Pending-clause-same : goal.returns-in-Pending-clause-same
returns-in-Pending-clause-same g c =
    let m = c.args.self.now in
    let is : m.fetch ≡ Some c.in-Some.fetch = search rules in
    waits_same g.T.Transport.refuses g.T.Transport.serves g.T.Stream.Stream.yields (editor_doc (editor_in m).now) (url_in m) (role_in m) m.fetch c.in-Some.fetch c.poll.new.self is c.in-Pending.ensures.same

pub returns-in-Ready-clause-value : goal.returns-in-Ready-clause-value
returns-in-Ready-clause-value g c =
    let m = c.args.self.now in
    let is : m.fetch ≡ Some c.in-Some.fetch = search rules in
    let new = (editor_doc c.finish_adding.new.self).edits in
    (new, polled g.T.Transport.refuses g.T.Transport.serves g.T.Stream.Stream.yields (editor_doc (editor_in m).now) (url_in m) (role_in m) m.fetch c.in-Some.fetch c.in-Ready.outcome new c.finish_adding.result is c.in-Ready.ensures.value c.finish_adding.ensures.ended)

pub returns-in-Ready-clause-adds : goal.returns-in-Ready-clause-adds
returns-in-Ready-clause-adds g c =
    let m = c.args.self.now in
    let is : m.fetch ≡ Some c.in-Some.fetch = search rules in
    polled g.T.Transport.refuses g.T.Transport.serves g.T.Stream.Stream.yields (editor_doc (editor_in m).now) (url_in m) (role_in m) m.fetch c.in-Some.fetch c.in-Ready.outcome (editor_doc c.finish_adding.new.self).edits c.finish_adding.result is c.in-Ready.ensures.value
    c.finish_adding.ensures.ended

pub returns-in-Ok-clause-same : goal.returns-in-Ok-clause-same
returns-in-Ok-clause-same g c =
    let m = c.args.self.now in
    let is : m.fetch ≡ None = search rules in
    begun_same g.T.Transport.refuses g.T.Transport.serves g.T.Stream.Stream.yields (editor_doc (editor_in m).now) (url_in m) (role_in m) c.in-Ok.fetch m.fetch is c.in-Ok.ensures.opened c.in-Ok.ensures.begun c.yield_now.result

pub returns-in-Err-clause-value : goal.returns-in-Err-clause-value
returns-in-Err-clause-value g c =
    let m = c.args.self.now in
    let is : m.fetch ≡ None = search rules in
    ((editor_doc (editor_in m).now).edits, polled_unbegun g.T.Transport.refuses g.T.Transport.serves g.T.Stream.Stream.yields (editor_doc (editor_in m).now) (url_in m) (role_in m) m.fetch is c.in-Err.error c.in-Err.ensures.refused)

pub returns-in-Err-clause-adds : goal.returns-in-Err-clause-adds
returns-in-Err-clause-adds g c =
    let m = c.args.self.now in
    let is : m.fetch ≡ None = search rules in
    polled_unbegun g.T.Transport.refuses g.T.Transport.serves g.T.Stream.Stream.yields (editor_doc (editor_in m).now) (url_in m) (role_in m) m.fetch is c.in-Err.error c.in-Err.ensures.refused
