use Rattle.std.proofs.Common.{[], ◌∷◌, refl, sym, ap, ◌∙◌}
use Rattle.tough_checks.specs.StoredDocuments.{content, stored_time}
use Rattle.tough_checks.specs.declared.checks.Refusal.TheVariants.{DatastoreSerialize}
use Rattle.tough_checks.specs.declared.checks.StepError.TheVariants.{Refused}
use Rattle.tough_checks.specs.Checks.{time_after, first_of}
use Rattle.tough_checks.specs.Versions.{time_where}
use Rattle.tough_vault.specs.Steps.{needs}
use Rattle.tough_vault.proofs.Preparing.{prepared, refused_after, checked_more, checked_at, or_none, or_second}
use Rattle.tough_vault.proofs.prepare.prepare_time.Goals as goal

pub returns-in-Err-check_time-clause-step : goal.returns-in-Err-check_time-clause-step
returns-in-Err-check_time-clause-step g c = refused_after _ _ _ _ _ _ (content c.in-Ok.found) (Refused c.in-Err-check_time.refusal) c.in-Ok.ensures.found refl
    (checked_more (time_after (stored_time (content c.in-Ok.found)) (time_where c.args.tip.now.time) c.args.now.nanosecond) _ (Refused c.in-Err-check_time.refusal)
    (checked_at (λ o. time_after o (time_where c.args.tip.now.time) c.args.now.nanosecond) _ _ (Refused c.in-Err-check_time.refusal) c.in-Ok-read_time.ensures c.in-Err-check_time.ensures)) c.in-Ok.ensures.same

pub returns-in-Err-Unwritable-clause-step : goal.returns-in-Err-Unwritable-clause-step
returns-in-Err-Unwritable-clause-step g c = refused_after _ _ _ _ _ _ (content c.in-Ok.found) (Refused DatastoreSerialize) c.in-Ok.ensures.found refl
    (or_second (time_after (stored_time (content c.in-Ok.found)) (time_where c.args.tip.now.time) c.args.now.nanosecond) _ _
    (ap (λ o. time_after o (time_where c.args.tip.now.time) c.args.now.nanosecond) (sym c.in-Ok-read_time.ensures) ∙ c.in_default-check_time.ensures)
    (ap (λ x. first_of (needs x ∷ [])) (rw c.in-Err-Unwritable.field-0-is at c.in-Err-Unwritable.ensures.written))) c.in-Ok.ensures.same

pub returns-clause-step : goal.returns-clause-step
returns-clause-step g c = prepared _ _ _ _ _ _ (content c.in-Ok.found) _ c.in-Ok.ensures.found refl
    (or_none (time_after (stored_time (content c.in-Ok.found)) (time_where c.args.tip.now.time) c.args.now.nanosecond) _
    (ap (λ o. time_after o (time_where c.args.tip.now.time) c.args.now.nanosecond) (sym c.in-Ok-read_time.ensures) ∙ c.in_default-check_time.ensures)
    (ap (λ x. first_of (needs x ∷ [])) c.in-Ok-time_bytes.ensures.written))
    (record { entry = refl; bytes = c.in-Ok-time_bytes.ensures.written }) (c.in-Ok.ensures.quiet) c.in-Ok.ensures.same

pub returns-clause-back : goal.returns-clause-back
returns-clause-back g c = ap stored_time c.in-Ok-time_bytes.ensures.written ∙ c.in-Ok-time_bytes.ensures.back
