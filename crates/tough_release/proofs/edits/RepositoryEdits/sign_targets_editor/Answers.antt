use Rattle.std.proofs.Common.{ap, option_map}
use Rattle.tough_roles.specs.Root.{root_doc}
use Rattle.tough_roles.specs.declared.root.Root.{Root}
use Rattle.tough_roles.specs.declared.signed.Signed.{Signed}
use Rattle.tough_edit.specs.Edits.{edits_doc}
use Rattle.tough_release.specs.Edits.{release_doc}
use Rattle.tough_release.proofs.Closings.{unclosed, closed_by, unclosed_by}
use Rattle.tough_release.proofs.edits.RepositoryEdits.sign_targets_editor.Goals as goal

pub returns-in-Err-clause-refused : goal.returns-in-Err-clause-refused
returns-in-Err-clause-refused g c =
    unclosed g.S.Sign.key g.S.Sign.signs g.S.Sign.fails c.args.signers.now (release_doc c.args.self.now) (root_doc c.signed.result.now.signed) (edits_doc c.in-Some.editor) c.in-Err.error
    (ap (λ (x : Signed Root). root_doc x.signed) c.signed.ensures) (ap (option_map edits_doc) c.in-Some.is) c.in-Err.ensures.refused

pub returns-clause-signed : goal.returns-clause-signed
returns-clause-signed g c =
    closed_by g.S.Sign.key g.S.Sign.signs g.S.Sign.fails c.args.signers.now (release_doc c.args.self.now) (release_doc c.replace_targets.new.self) (root_doc c.signed.result.now.signed) (edits_doc c.in-Some.editor) c.in-Ok.document c.replace_targets.result
    (ap (λ (x : Signed Root). root_doc x.signed) c.signed.ensures) (ap (option_map edits_doc) c.in-Some.is) c.in-Ok.ensures.created c.replace_targets.ensures.replaced

pub returns-clause-refused : goal.returns-clause-refused
returns-clause-refused g c =
    unclosed_by g.S.Sign.key g.S.Sign.signs g.S.Sign.fails c.args.signers.now (release_doc c.args.self.now) (root_doc c.signed.result.now.signed) (edits_doc c.in-Some.editor) c.in-Ok.document c.replace_targets.result
    (ap (λ (x : Signed Root). root_doc x.signed) c.signed.ensures) (ap (option_map edits_doc) c.in-Some.is) c.in-Ok.ensures.created c.replace_targets.ensures.refused
