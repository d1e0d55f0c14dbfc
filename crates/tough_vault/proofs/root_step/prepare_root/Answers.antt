use Rattle.std.proofs.Common.{[], ◌∷◌, sym, ap, ◌∙◌}
use Rattle.tough_roles.specs.Root.{root_at, root_doc, root_json}
use Rattle.tough_checks.specs.Checks.{root_after, first_of}
use Rattle.tough_checks.specs.StoredDocuments.{content}
use Rattle.tough_checks.specs.declared.checks.Refusal.TheVariants.{DatastoreSerialize}
use Rattle.tough_checks.specs.declared.checks.StepError.TheVariants.{Refused}
use Rattle.tough_vault.specs.Steps.{needs}
use Rattle.tough_vault.proofs.Backs.{reads-back}
use Rattle.tough_vault.proofs.Preparing.{prepared, refused_after, checked_more, checked_at, or_none, or_second, same_root}
use Rattle.tough_vault.proofs.root_step.prepare_root.Goals as goal

pub returns-in-Err-check_root_late-clause-step : goal.returns-in-Err-check_root_late-clause-step
returns-in-Err-check_root_late-clause-step g c = refused_after _ _ _ _ _ _ (content c.in-Ok.found) (Refused c.in-Err-check_root_late.refusal) c.in-Ok.ensures.found c.in_default.ensures
    (checked_more (root_after _ c.args.tip.now.root (root_doc c.args.new.now.signed)) _ (Refused c.in-Err-check_root_late.refusal)
    (checked_at (λ o. root_after o c.args.tip.now.root (root_doc c.args.new.now.signed)) _ _ (Refused c.in-Err-check_root_late.refusal) c.in-Ok-read_root.ensures c.in-Err-check_root_late.ensures)) c.in-Ok.ensures.same

pub returns-in-Err-Unwritable-clause-step : goal.returns-in-Err-Unwritable-clause-step
returns-in-Err-Unwritable-clause-step g c = refused_after _ _ _ _ _ _ (content c.in-Ok.found) (Refused DatastoreSerialize) c.in-Ok.ensures.found c.in_default.ensures
    (or_second (root_after _ c.args.tip.now.root (root_doc c.args.new.now.signed)) _ _
    (ap (λ o. root_after o c.args.tip.now.root (root_doc c.args.new.now.signed)) (sym c.in-Ok-read_root.ensures) ∙ c.in_default-check_root_late.ensures)
    (ap (λ x. first_of (needs x ∷ [])) (rw c.in-Err-Unwritable.field-0-is at c.in-Err-Unwritable.ensures.written))) c.in-Ok.ensures.same

pub returns-clause-step : goal.returns-clause-step
returns-clause-step g c = prepared _ _ _ _ _ _ (content c.in-Ok.found) _ c.in-Ok.ensures.found c.in_default.ensures
    (or_none (root_after _ c.args.tip.now.root (root_doc c.args.new.now.signed)) _
    (ap (λ o. root_after o c.args.tip.now.root (root_doc c.args.new.now.signed)) (sym c.in-Ok-read_root.ensures) ∙ c.in_default-check_root_late.ensures)
    (ap (λ x. first_of (needs x ∷ [])) c.in-Ok-compact.ensures.written))
    (record { entry = same_root _ _ _ _ _ c.get.ensures.value c.rotates.ensures c.in-Ok-read_root.ensures; bytes = c.in-Ok-compact.ensures.written }) (c.in-Ok.ensures.quiet) c.in-Ok.ensures.same

pub returns-clause-back : goal.returns-clause-back
returns-clause-back g c = λ own. reads-back root_at root_doc root_json c.args.new.now c.in-Ok-compact.bytes.items c.in-Ok-compact.ensures.written (c.in-Ok-compact.ensures.back own)
