use Rattle.std.proofs.Common.{map, ap, string_bytes}
use Rattle.tough_roles.specs.Signature.{signed_doc}
use Rattle.tough_schema.specs.Whole.{tree_doc}
use Rattle.tough_publish.specs.Editors.{editor_doc}
use Rattle.tough_publish.specs.Updating.{names_of}
use Rattle.tough_publish.proofs.Updatings.{follows_rejected, follows_renewed}
use Rattle.tough_publish.proofs.repository.RepositoryEditor.follow.Goals as goal

pub returns-in-Ok-clause-steps : goal.returns-in-Ok-clause-steps
returns-in-Ok-clause-steps g c =
    let v = g.V.Verify.verifies c.args.verifier.now in
    follows_renewed g.T.Transport.refuses g.T.Transport.serves g.T.Stream.Stream.yields v (editor_doc c.args.self.now) c.args.url.now c.args.name.now c.args.document (signed_doc tree_doc c.in-Ok.pair.0) (map string_bytes c.in-Ok.pair.1.items)
    (names_of c.into_iter.result) (ap (map string_bytes) c.into_iter.ensures.rest) c.in-Ok.ensures.renewed (editor_doc c.go_on.new.self).edits c.go_on.result (c.go_on.ensures.steps v)

pub returns-in-Err-clause-steps : goal.returns-in-Err-clause-steps
returns-in-Err-clause-steps g c =
    follows_rejected g.T.Transport.refuses g.T.Transport.serves g.T.Stream.Stream.yields (g.V.Verify.verifies c.args.verifier.now) (editor_doc c.args.self.now) c.args.url.now c.args.name.now c.args.document c.in-Err.error c.in-Err.ensures.refused
