use Rattle.tough_roles.specs.Signature.{signed_doc}
use Rattle.tough_roles.specs.Root.{root_doc}
use Rattle.tough_trust.proofs.lemmas.Walking.{root-next}
use Rattle.tough_trust.proofs.walk.next_root.Goals as goal

pub returns-in-Ok-check-clause-next : goal.returns-in-Ok-check-clause-next
returns-in-Ok-check-clause-next g c = λ before is.
    root-next (g.V.Verify.verifies c.args.verifier.now) (root_doc c.args.old.now) before (signed_doc root_doc c.in-Ok.new) is c.in-Ok-check.ensures
