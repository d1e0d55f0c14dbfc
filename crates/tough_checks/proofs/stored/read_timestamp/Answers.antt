use Rattle.std.proofs.Common.{◌≡◌, subst, sym}
use Rattle.std.specs.Prelude.{Some, IfOk}
use Rattle.tough_roles.specs.Root.{root_doc}
use Rattle.tough_roles.specs.Timestamp.{timestamp_doc, timestamp_at, timestamp_json}
use Rattle.tough_roles.specs.declared.role_type.RoleType.TheVariants as types
use Rattle.tough_checks.specs.Checks.{timestamp_where}
use Rattle.tough_checks.specs.StoredDocuments.{IsAccepted, content, stored_timestamp}
use Rattle.tough_checks.proofs.Kept.{each, accepted-stored, timestamp-stored}
use Rattle.tough_checks.proofs.stored.read_timestamp.Goals as goal

pub returns : goal.returns
returns g c =
    let verifies = g.V.Verify.verifies c.args.verifier.now in
    let root = root_doc c.args.root.now in
    let bytes = c.as_slice.result.now in
    subst (λ f. IfOk c.accepted.result (λ old. timestamp_where old ≡ stored_timestamp verifies root (content f))) (sym c.in-Some.is)
    (subst (λ b. IfOk c.accepted.result (λ old. timestamp_where old ≡ stored_timestamp verifies root (Some b))) c.as_slice.ensures.value
    (each (IsAccepted verifies root types.Timestamp (λ x. timestamp_json (timestamp_doc x)) c.read-read.result) (λ old. timestamp_where old ≡ stored_timestamp verifies root (Some bytes)) c.accepted.result c.accepted.ensures
    (λ old h. timestamp-stored old _ (accepted-stored verifies root types.Timestamp timestamp_at timestamp_doc timestamp_json bytes c.read-read.result old c.read-read.ensures.read h))))
