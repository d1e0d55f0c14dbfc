use Rattle.std.proofs.Common.{subst}
use Rattle.tough_editor.specs.Adding.{role_doc}
use Rattle.tough_editor.specs.Editors.{editor_doc}
use Rattle.tough_editor.specs.Fetched.{IsDocument}
use Rattle.tough_editor.proofs.Adding.{ended, same_edits}
use Rattle.tough_editor.proofs.targets.TargetsEditor.finish.Goals as goal

pub returns-in-Ok-document-clause-ended : goal.returns-in-Ok-document-clause-ended
returns-in-Ok-document-clause-ended g c =
    let old = editor_doc c.args.self.now in
    let new = editor_doc c.delegate.new.self in
    ended (role_doc c.args.role.now) c.args.outcome c.in-Ok.bytes c.in-Ok-document.signed old.edits new.edits c.delegate.result c.in-Ok.is
    (subst (λ b. IsDocument b c.in-Ok-document.signed) c.as_slice.ensures.value c.in-Ok-document.ensures.read)
    c.delegate.ensures.delegated c.delegate.ensures.refused (same_edits old new c.delegate.result c.delegate.ensures.unchanged)
