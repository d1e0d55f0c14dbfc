use Rattle.std.proofs.Common.{◌∙◌, ap}
use Rattle.tough_load.specs.Loader.{settings_of}
use Rattle.tough_load.specs.Words as part
use Rattle.tough_client.specs.Repositories.{documents_of}
use Rattle.tough.specs.Program.{IsVouchedFor}
use Rattle.tough.proofs.Vouching.{come, vouched}
use Rattle.tough.proofs.opening.open_by.Goals as goal

pub returns-in-Ok-from_outcome : goal.returns-in-Ok-from_outcome
returns-in-Ok-from_outcome g c =
    come {Q = λ r. IsVouchedFor (documents_of r)} c.in-Ok-from_outcome.is (c.from_outcome.ensures.trusted c.keeper-loader.result (part.base_of c.in-Ok.load) (c.in-Ok-drive_on.ensures.trusted c.keeper-loader.result c.in-Ok.ensures.begun))
    (λ r v. vouched (settings_of c.keeper-loader.result) (documents_of r) v.1.answers
    (ap (λ s. s.enforced) (c.keeper-loader.ensures.settings ∙ (c.clock.ensures.settings ∙ (c.verifier.ensures.settings ∙ (c.transport.ensures.settings ∙ c.new.ensures)))))
    v.1.loaded)
