use Rattle.std.proofs.Common.{Err, sym, ap, ◌∙◌}
use Rattle.tough_roles.specs.Root.{root_doc}
use Rattle.tough_roles.specs.Signature.{signed_doc}
use Rattle.tough_roles.specs.Snapshot.{snapshot_at, snapshot_doc, snapshot_json}
use Rattle.tough_checks.specs.StoredDocuments.{content}
use Rattle.tough_checks.specs.Versions.{roles_where}
use Rattle.tough_vault.specs.Journal.{Snapshot}
use Rattle.tough_checks.specs.Checks.{snapshot_after, enforces, roles_in}
use Rattle.tough_vault.proofs.Backs.{reads-back}
use Rattle.tough_vault.proofs.Preparing.{prepared, refused_after, checked_at, had_snapshot}
use Rattle.tough_vault.proofs.Verified.{snapshot-unwritten}
use Rattle.tough_vault.proofs.snapshot_step.prepare_snapshot.Goals as goal

pub unreachable-requires : goal.unreachable-requires
unreachable-requires g c =
    snapshot-unwritten (g.V.Verify.verifies c.args.checker.now.verifier.now) (root_doc c.args.root.now) c.args.listed (signed_doc snapshot_doc c.args.new.now) c.in_default.ensures
    (c.in-Err-Unwritable.ensures.unwritable (ap Err c.in-Err-Unwritable.field-0-is))

pub returns-in-Err-check_snapshot_late-clause-step : goal.returns-in-Err-check_snapshot_late-clause-step
returns-in-Err-check_snapshot_late-clause-step g c = refused_after _ _ _ _ _ _ (content c.in-Ok.found) _ c.in-Ok.ensures.found c.in_default.ensures
    (checked_at (λ o. snapshot_after o (roles_where c.args.tip.now.snapshot) (snapshot_doc c.args.new.now.signed) c.args.checker.now.start.nanosecond (enforces c.args.checker.now.enforcement)) _ _ _ (c.in-Ok-read_snapshot.ensures) (c.in-Err-check_snapshot_late.ensures)) c.in-Ok.ensures.same

pub returns-clause-step : goal.returns-clause-step
returns-clause-step g c =
    let old = c.in-Ok-read_snapshot.ensures in
    prepared _ _ _ _ _ _ (content c.in-Ok.found) _ c.in-Ok.ensures.found c.in_default.ensures
    (ap (λ o. snapshot_after o (roles_where c.args.tip.now.snapshot) (snapshot_doc c.args.new.now.signed) c.args.checker.now.start.nanosecond (enforces c.args.checker.now.enforcement)) (sym old) ∙ c.in_default-check_snapshot_late.ensures)
    (record {
      entry = ap (λ x. Snapshot x c.is_some.result) c.in-Ok-versions_of.ensures ∙ ap (Snapshot (roles_in (snapshot_doc c.args.new.now.signed))) (had_snapshot _ _ _ c.is_some.ensures old);
      bytes = c.in-Ok-compact.ensures.written;
    })
    (c.in-Ok.ensures.quiet) c.in-Ok.ensures.same

pub returns-clause-back : goal.returns-clause-back
returns-clause-back g c = reads-back snapshot_at snapshot_doc snapshot_json c.args.new.now c.in-Ok-compact.bytes.items c.in-Ok-compact.ensures.written (c.in-Ok-compact.ensures.back tt)
