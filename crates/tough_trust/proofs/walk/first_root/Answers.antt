use Rattle.tough_roles.specs.Signature.{signed_doc}
use Rattle.tough_roles.specs.Root.{root_doc}
use Rattle.tough_trust.proofs.lemmas.Walking.{under}
use Rattle.tough_trust.proofs.walk.first_root.Goals as goal

pub returns-in-Ok-verify_role-clause-signed : goal.returns-in-Ok-verify_role-clause-signed
returns-in-Ok-verify_role-clause-signed g c =
    under (g.V.Verify.verifies c.args.verifier.now) (root_doc c.in-Ok.root.signed) (signed_doc root_doc c.in-Ok.root) c.in-Ok-verify_role.ensures.verdict
