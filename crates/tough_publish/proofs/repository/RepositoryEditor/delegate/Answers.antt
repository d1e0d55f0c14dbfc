use Rattle.tough_editor.specs.Adding.{role_doc}
use Rattle.tough_publish.specs.Editors.{editor_doc}
use Rattle.tough_publish.proofs.Addings.{undelegated}
use Rattle.tough_publish.proofs.repository.RepositoryEditor.delegate.Goals as goal

pub returns-in-Err-NoDelegations-clause-refused : goal.returns-in-Err-NoDelegations-clause-refused
returns-in-Err-NoDelegations-clause-refused g c = undelegated (role_doc c.args.role.now) c.args.signed (editor_doc c.args.self.now).edits _ c.in-Err-NoDelegations.field-0-is c.in-Err-NoDelegations.ensures.refused
