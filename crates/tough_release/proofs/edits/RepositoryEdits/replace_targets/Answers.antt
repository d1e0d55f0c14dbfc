use Rattle.std.proofs.Common.{ap, option_map}
use Rattle.tough_roles.specs.Signature.{signed_doc}
use Rattle.tough_schema.specs.Whole.{tree_doc, held_doc}
use Rattle.tough_edit.specs.Edits.{edits_doc}
use Rattle.tough_release.specs.Edits.{release_doc}
use Rattle.tough_release.proofs.Closings.{replaced}
use Rattle.tough_release.proofs.edits.RepositoryEdits.replace_targets.Goals as goal

pub returns-in-Ok-clause-replaced : goal.returns-in-Ok-clause-replaced
returns-in-Ok-clause-replaced c =
    replaced (held_doc c.args.document) (release_doc c.args.self.now) (option_map (signed_doc tree_doc) c.place.new.targets) (option_map edits_doc c.replace.new.dest) c.in-Ok.ensures.placed (ap (option_map edits_doc) c.replace.ensures.after)
