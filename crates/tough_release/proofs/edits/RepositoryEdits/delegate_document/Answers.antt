use Rattle.std.proofs.Common.{option_map, ap}
use Rattle.tough_edit.specs.Edits.{edits_doc}
use Rattle.tough_release.specs.Edits.{release_doc}
use Rattle.tough_release.proofs.Delegating.{delegates}
use Rattle.tough_release.proofs.edits.RepositoryEdits.delegate_document.Goals as goal

pub returns-clause-there : goal.returns-clause-there
returns-clause-there c = delegates c.delegate_role.result (release_doc c.args.self.now) (edits_doc c.in-Some.editor) (ap (option_map edits_doc) c.in-Some.is) c.delegate_role.ensures.there
