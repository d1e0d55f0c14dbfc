use Rattle.std.proofs.Common.{ap, option_map, sym}
use Rattle.tough_roles.specs.Root.{root_doc}
use Rattle.tough_roles.specs.Signature.{signed_doc}
use Rattle.tough_roles.specs.declared.root.Root.{Root}
use Rattle.tough_roles.specs.declared.signed.Signed.{Signed}
use Rattle.tough_schema.specs.Whole.{tree_doc}
use Rattle.tough_edit.specs.Edits.{edits_doc}
use Rattle.tough_release.specs.Edits.{release_doc}
use Rattle.tough_release.proofs.Closings.{none_of, changed, unchangeable}
use Rattle.tough_release.proofs.edits.RepositoryEdits.change_delegated_targets.Goals as goal

pub returns-in-Ok-clause-changed : goal.returns-in-Ok-clause-changed
returns-in-Ok-clause-changed c =
    changed c.args.role.now (release_doc c.args.self.now) (root_doc c.signed.result.now.signed) (signed_doc tree_doc c.in-Some.targets) (edits_doc c.in-Ok.editor) (option_map edits_doc c.replace.new.dest) (ap (λ (x : Signed Root). root_doc x.signed) c.signed.ensures)
    (none_of edits_doc c.args.self.now.editor (sym c.if-is_some.ensures)) (ap (option_map (signed_doc tree_doc)) c.in-Some.is) c.in-Ok.ensures.opened (ap (option_map edits_doc) c.replace.ensures.after)

pub returns-in-Err-clause-refused : goal.returns-in-Err-clause-refused
returns-in-Err-clause-refused c =
    unchangeable c.args.role.now (release_doc c.args.self.now) (signed_doc tree_doc c.in-Some.targets) c.in-Err.error (none_of edits_doc c.args.self.now.editor (sym c.if-is_some.ensures)) (ap (option_map (signed_doc tree_doc)) c.in-Some.is) c.in-Err.ensures.refused
