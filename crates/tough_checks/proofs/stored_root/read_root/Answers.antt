use Rattle.std.proofs.Common.{◌≡◌, subst, sym}
use Rattle.std.specs.Prelude.{Some, IfOk}
use Rattle.tough_checks.specs.StoredDocuments.{IsAcceptedRoot, content, root_where, stored_root}
use Rattle.tough_checks.proofs.Kept.{each, root-stored}
use Rattle.tough_checks.proofs.stored_root.read_root.Goals as goal

pub returns : goal.returns
returns g c =
    let verifies = g.V.Verify.verifies c.args.verifier.now in
    let bytes = c.as_slice.result.now in
    subst (λ f. IfOk c.accepted.result (λ old. root_where old ≡ stored_root verifies (content f))) (sym c.in-Some.is)
    (subst (λ b. IfOk c.accepted.result (λ old. root_where old ≡ stored_root verifies (Some b))) c.as_slice.ensures.value
    (each (IsAcceptedRoot verifies c.read-read.result) (λ old. root_where old ≡ stored_root verifies (Some bytes)) c.accepted.result c.accepted.ensures
    (λ old h. root-stored verifies bytes c.read-read.result old c.read-read.ensures.read h)))
