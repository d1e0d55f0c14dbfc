use Rattle.std.proofs.Common.{string_bytes, ap, inr, subst, ◌∙◌}
use Rattle.tough_roles.specs.Signature.{signed_doc}
use Rattle.tough_schema.specs.Targets.{targets_doc}
use Rattle.tough_vault.specs.Act.{PutDocument}
use Rattle.tough_trust.proofs.lemmas.Bare.{page-tells}
use Rattle.tough_trust.specs.Listed.{targets_text}
use Rattle.tough_trust.specs.Steps.{TakesStep}
use Rattle.tough_trust.specs.View.{step_doc}
use Rattle.tough_client.specs.Repositories.{keeping_of}
use Rattle.tough_lazy.proofs.role.store.Goals as goal

pub returns-in-Some-clause-stored : goal.returns-in-Some-clause-stored
returns-in-Some-clause-stored g c =
    let named = c.in-Some.ensures in
    inr (
      named.1,
      subst (λ p. TakesStep g.K.Keeper.keeps (g.V.Verify.verifies c.args.verifier.now) p (keeping_of c.args.repository.now) (step_doc c.keep.result) (keeping_of c.keep.new.self))
          (ap (λ n. PutDocument n (targets_text (signed_doc targets_doc c.args.document.now))) named.0 ∙ ap (λ p. PutDocument (string_bytes c.args.file) (targets_text p)) (page-tells c.args.document.now)) c.keep.ensures.taken,
    )
