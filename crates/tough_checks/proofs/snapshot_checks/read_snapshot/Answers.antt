use Rattle.std.proofs.Common.{◌≡◌, subst, sym}
use Rattle.std.specs.Prelude.{Some, IfOk}
use Rattle.tough_roles.specs.Root.{root_doc}
use Rattle.tough_roles.specs.Snapshot.{snapshot_doc, snapshot_at, snapshot_json}
use Rattle.tough_roles.specs.declared.role_type.RoleType.TheVariants as types
use Rattle.tough_checks.specs.Checks.{snapshot_where}
use Rattle.tough_checks.specs.StoredDocuments.{IsAccepted, content, stored_snapshot}
use Rattle.tough_checks.proofs.Kept.{each, accepted-stored, snapshot-stored}
use Rattle.tough_checks.proofs.snapshot_checks.read_snapshot.Goals as goal

pub returns : goal.returns
returns g c =
    let verifies = g.V.Verify.verifies c.args.verifier.now in
    let root = root_doc c.args.root.now in
    let bytes = c.as_slice.result.now in
    subst (λ f. IfOk c.accepted.result (λ old. snapshot_where old ≡ stored_snapshot verifies root (content f))) (sym c.in-Some.is)
    (subst (λ b. IfOk c.accepted.result (λ old. snapshot_where old ≡ stored_snapshot verifies root (Some b))) c.as_slice.ensures.value
    (each (IsAccepted verifies root types.Snapshot (λ x. snapshot_json (snapshot_doc x)) c.read-read.result) (λ old. snapshot_where old ≡ stored_snapshot verifies root (Some bytes)) c.accepted.result c.accepted.ensures
    (λ old h. snapshot-stored old _ (accepted-stored verifies root types.Snapshot snapshot_at snapshot_doc snapshot_json bytes c.read-read.result old c.read-read.ensures.read h))))
