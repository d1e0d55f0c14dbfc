use Rattle.std.proofs.Common.{inl}
use Rattle.tough_release.specs.Edits.{release_doc}
use Rattle.tough_release.proofs.Makings.{released, unreleased}
use Rattle.tough_release.proofs.edits.RepositoryEdits.sign.Goals as goal

pub returns-in-Ok-clause-released : goal.returns-in-Ok-clause-released
returns-in-Ok-clause-released g c = released g.S.Sign.key g.S.Sign.signs c.args.signers.now (release_doc c.args.self) (release_doc c.sign_targets_editor.new.self) c.make.result c.in-Ok.ensures.signed c.make.ensures.made

pub returns-in-Ok-clause-refused : goal.returns-in-Ok-clause-refused
returns-in-Ok-clause-refused g c = unreleased g.S.Sign.key g.S.Sign.signs c.args.signers.now g.S.Sign.fails (release_doc c.args.self) (release_doc c.sign_targets_editor.new.self) c.make.result c.in-Ok.ensures.signed c.make.ensures.refused

pub returns-in-Err-clause-refused : goal.returns-in-Err-clause-refused
returns-in-Err-clause-refused g c = inl c.in-Err.ensures.refused
