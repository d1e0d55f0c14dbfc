use Rattle.std.proofs.Common.{refl, ap, ◌∙◌}
use Rattle.tough_vault.specs.Journal.{Document}
use Rattle.tough_checks.specs.DocumentName.{name_of}
use Rattle.tough_vault.proofs.Preparing.{prepared, needs_none}
use Rattle.tough_vault.proofs.prepare.prepare_document.Goals as goal

pub returns-clause-step : goal.returns-clause-step
returns-clause-step g c = prepared _ _ _ _ _ _ (g.S.Store.files c.args.store.now (name_of c.args.name.now)) _ (λ t. refl) (needs_none _ _ c.in-Ok.ensures) refl
    (record { entry = ap Document (c.in-Ok-from_str.ensures.ok ∙ c.as_str.ensures); bytes = c.in-Ok.ensures }) refl (λ t n. refl)
