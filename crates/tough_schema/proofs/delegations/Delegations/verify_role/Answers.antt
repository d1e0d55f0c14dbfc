use Rattle.tough_roles.specs.Signature.{signed_doc}
use Rattle.tough_schema.specs.Delegations.{delegations_doc}
use Rattle.tough_schema.proofs.Delegated.{ok-delegated, delegated-ok}
use Rattle.tough_schema.proofs.delegations.Delegations.verify_role.Goals as goal

pub returns-clause-ok : goal.returns-clause-ok
returns-clause-ok g c = ok-delegated (g.V.Verify.verifies c.args.verifier.now) (delegations_doc c.args.self.now) c.args.name.now g.T.Role.TYPE g.T.Role.json (signed_doc (λ x. x) c.args.document.now) c.answer.result c.answer.ensures

pub returns-clause-only : goal.returns-clause-only
returns-clause-only g c = delegated-ok (g.V.Verify.verifies c.args.verifier.now) (delegations_doc c.args.self.now) c.args.name.now g.T.Role.TYPE g.T.Role.json (signed_doc (λ x. x) c.args.document.now) c.answer.result c.answer.ensures
