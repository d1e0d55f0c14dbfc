use Rattle.std.proofs.Common.{refl, ap, ◌∙◌}
use Rattle.tough_checks.specs.Checks.{enforces}
use Rattle.tough_update.specs.Promises.{ended}
use Rattle.tough_update.specs.Stages.{CoreDoc, SettingDoc}
use Rattle.tough_update.specs.View.{is_whole, stage_doc}
use Rattle.tough_update.proofs.Settling.{unended}
use Rattle.tough_update.proofs.machine.Core.take_outcome.Goals as goal

pub returns-in_default : goal.returns-in_default
returns-in_default c =
    let self = c.args.self.now in
    let setting : SettingDoc = record { trusted = self.trusted.items; limits = self.limits; enforced = enforces self.enforcement; whole = is_whole self.extent } in
    record {
      done = unended c.replace.result c.in_default.not-Done ∙ ap (λ s. ended (stage_doc s)) c.replace.ensures.value;
      taken = λ h. cc;
      counts = refl;
      file = refl;
      not_yet = λ h. ap (λ s. let d : CoreDoc = record { setting = setting; stage = stage_doc s } in d) (c.replace-in_default.ensures.after ∙ c.replace.ensures.value);
    }
