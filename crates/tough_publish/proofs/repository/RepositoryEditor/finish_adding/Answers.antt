use Rattle.tough_editor.specs.Adding.{role_doc}
use Rattle.tough_publish.specs.Editors.{editor_doc}
use Rattle.tough_publish.proofs.Addings.{ended, unread, same_edits}
use Rattle.tough_publish.proofs.repository.RepositoryEditor.finish_adding.Goals as goal

pub returns-in-Ok-clause-ended : goal.returns-in-Ok-clause-ended
returns-in-Ok-clause-ended g c =
    let old = editor_doc c.args.self.now in
    let new = editor_doc c.delegate.new.self in
    ended (role_doc c.args.role.now) c.args.outcome c.read_document.result c.in-Ok.signed old.edits new.edits c.delegate.result c.in-Ok.is c.read_document.ensures
    c.delegate.ensures.delegated c.delegate.ensures.refused (same_edits old new c.delegate.result c.delegate.ensures.unchanged)

pub returns-in-Err-clause-ended : goal.returns-in-Err-clause-ended
returns-in-Err-clause-ended g c = unread (role_doc c.args.role.now) c.args.outcome c.read_document.result c.in-Err.error (editor_doc c.args.self.now).edits c.in-Err.is c.read_document.ensures
