use Rattle.std.proofs.Common.{None, Some, option_map, ap}
use Rattle.tough_publish.specs.Editors.{editor_doc}
use Rattle.tough_publish.specs.Updating.{update_doc}
use Rattle.tough_publish.proofs.Updatings.{gains_unread, gains_read}
use Rattle.tough_publish.proofs.repository.RepositoryEditor.advance.Goals as goal

pub returns-in-Err-clause-steps : goal.returns-in-Err-clause-steps
returns-in-Err-clause-steps g c =
    gains_unread g.T.Transport.refuses g.T.Transport.serves g.T.Stream.Stream.yields (g.V.Verify.verifies c.args.verifier.now) (editor_doc c.args.self.now) c.args.url.now c.args.name.now (option_map update_doc c.args.update) c.args.outcome c.read_document.result c.in-Err.error
    c.in-Err.is c.read_document.ensures

pub returns-in-None-clause-steps : goal.returns-in-None-clause-steps
returns-in-None-clause-steps g c =
    gains_read g.T.Transport.refuses g.T.Transport.serves g.T.Stream.Stream.yields (g.V.Verify.verifies c.args.verifier.now) (editor_doc c.args.self.now) c.args.url.now c.args.name.now (option_map update_doc c.args.update) None c.args.outcome c.read_document.result c.in-Ok.document
    (ap (option_map update_doc) c.in-None.is) c.in-Ok.is c.read_document.ensures (editor_doc c.follow.new.self).edits c.follow.result c.follow.ensures.steps

pub returns-in-Some-clause-steps : goal.returns-in-Some-clause-steps
returns-in-Some-clause-steps g c =
    gains_read g.T.Transport.refuses g.T.Transport.serves g.T.Stream.Stream.yields (g.V.Verify.verifies c.args.verifier.now) (editor_doc c.args.self.now) c.args.url.now c.args.name.now (option_map update_doc c.args.update) (Some (update_doc c.in-Some.update)) c.args.outcome c.read_document.result c.in-Ok.document
    (ap (option_map update_doc) c.in-Some.is) c.in-Ok.is c.read_document.ensures (editor_doc c.take_up.new.self).edits c.take_up.result c.take_up.ensures.steps
