use Rattle.std.proofs.Common.{Err, sym, ap, ◌∙◌}
use Rattle.tough_roles.specs.Root.{root_doc}
use Rattle.tough_roles.specs.Signature.{signed_doc}
use Rattle.tough_roles.specs.Timestamp.{timestamp_at, timestamp_doc, timestamp_json}
use Rattle.tough_checks.specs.StoredDocuments.{content}
use Rattle.tough_checks.specs.Versions.{pair_where}
use Rattle.tough_checks.specs.Checks.{timestamp_after, enforces}
use Rattle.tough_checks.specs.declared.checks.StepError.TheVariants.{Refused}
use Rattle.tough_vault.proofs.Backs.{reads-back}
use Rattle.tough_vault.proofs.Preparing.{prepared, refused_after, checked_at, same_pair, had_old}
use Rattle.tough_vault.proofs.Verified.{timestamp-unwritten}
use Rattle.tough_vault.proofs.prepare.prepare_timestamp.Goals as goal

pub unreachable-requires : goal.unreachable-requires
unreachable-requires g c =
    timestamp-unwritten (g.V.Verify.verifies c.args.checker.now.verifier.now) (root_doc c.args.root.now) (signed_doc timestamp_doc c.args.new.now) c.in_default.ensures
    (c.in-Err-Unwritable.ensures.unwritable (ap Err c.in-Err-Unwritable.field-0-is))

pub returns-in-Err-check_timestamp_late-clause-step : goal.returns-in-Err-check_timestamp_late-clause-step
returns-in-Err-check_timestamp_late-clause-step g c = refused_after _ _ _ _ _ _ (content c.in-Ok.found) (Refused c.in-Err-check_timestamp_late.refusal) c.in-Ok.ensures.found c.in_default.ensures
    (checked_at (λ o. timestamp_after o (pair_where c.args.tip.now.timestamp) (timestamp_doc c.args.new.now.signed) c.args.checker.now.start.nanosecond (enforces c.args.checker.now.enforcement)) _ _ (Refused c.in-Err-check_timestamp_late.refusal) (c.in-Ok-read_timestamp.ensures) (c.in-Err-check_timestamp_late.ensures)) c.in-Ok.ensures.same

pub returns-clause-step : goal.returns-clause-step
returns-clause-step g c =
    let old = c.in-Ok-read_timestamp.ensures in
    let had = had_old _ _ _ c.is_some.ensures old in
    prepared _ _ _ _ _ _ (content c.in-Ok.found) _ c.in-Ok.ensures.found c.in_default.ensures
    (ap (λ o. timestamp_after o (pair_where c.args.tip.now.timestamp) (timestamp_doc c.args.new.now.signed) c.args.checker.now.start.nanosecond (enforces c.args.checker.now.enforcement)) (sym old) ∙ c.in_default-check_timestamp_late.ensures)
    (record {
      entry = same_pair _ _ _ _ _ _ c.get.ensures.value c.snapshot_version.ensures had;
      bytes = c.in-Ok-compact.ensures.written;
    }) (c.in-Ok.ensures.quiet) c.in-Ok.ensures.same

pub returns-clause-back : goal.returns-clause-back
returns-clause-back g c = reads-back timestamp_at timestamp_doc timestamp_json c.args.new.now c.in-Ok-compact.bytes.items c.in-Ok-compact.ensures.written (c.in-Ok-compact.ensures.back tt)
