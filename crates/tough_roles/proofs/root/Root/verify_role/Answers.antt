use Rattle.tough_roles.specs.Signature.{signed_doc}
use Rattle.tough_roles.specs.Root.{root_doc}
use Rattle.tough_roles.proofs.lemmas.Reached.{ok-reaches, reaches-ok}
use Rattle.tough_roles.proofs.root.Root.verify_role.Goals as goal

pub returns-clause-ok : goal.returns-clause-ok
returns-clause-ok g c = ok-reaches (g.V.Verify.verifies c.args.verifier.now) (root_doc c.args.self.now) g.T.Role.TYPE g.T.Role.json (signed_doc (λ x. x) c.args.role.now) c.answer.result c.answer.ensures

pub returns-clause-only : goal.returns-clause-only
returns-clause-only g c = reaches-ok (g.V.Verify.verifies c.args.verifier.now) (root_doc c.args.self.now) g.T.Role.TYPE g.T.Role.json (signed_doc (λ x. x) c.args.role.now) c.answer.result c.answer.ensures
