use Rattle.std.proofs.Common.{rules, ◌≡◌, None}
use Rattle.tough_editor.specs.Adding.{editor_in, url_in, role_in}
use Rattle.tough_editor.specs.Editors.{editor_doc}
use Rattle.tough_editor.proofs.Adding.{begun_same}
use Rattle.tough_editor.proofs.add_role.AddRoleFuture.poll.Goals as goal

pub returns-in-Ok-clause-same : goal.returns-in-Ok-clause-same
returns-in-Ok-clause-same g c =
    let m = c.args.self.now in
    let is : m.fetch ≡ None = search rules in
    begun_same g.T.Transport.refuses g.T.Transport.serves g.T.Stream.Stream.yields (editor_doc (editor_in m).now) (url_in m) (role_in m) c.in-Ok.fetch m.fetch is c.in-Ok.ensures.begun c.yield_now.result

pub returns-in-Err-clause-value : goal.returns-in-Err-clause-value
returns-in-Err-clause-value g c = ((editor_doc (editor_in c.args.self.now).now).edits, search rules)

pub returns-in-Ready-clause-value : goal.returns-in-Ready-clause-value
returns-in-Ready-clause-value g c = ((editor_doc c.finish.new.self).edits, search rules)
