-- An editor of a repository with what fetches for it: the edits, the limits and the transport.
use Rattle.tough_editor.specs.Editors.{EditorDoc}
use Rattle.tough_release.specs.Edits.{ReleaseDoc, release_doc}
use Rattle.tough_publish.specs.declared.repository.RepositoryEditor.{RepositoryEditor}

abbrev pub editor_doc : {T : Type 0} → RepositoryEditor T → EditorDoc ReleaseDoc T
editor_doc e = record { edits = release_doc e.edits; limits = e.limits; transport = e.transport }
