use Rattle.std.proofs.Common.{ap, sym, ◌∙◌}
use Rattle.tough_vault.specs.Act.{PutDocument}
use Rattle.tough_checks.specs.Checks.{enforces}
use Rattle.tough_checks.specs.DocumentName.{name_of}
use Rattle.tough_checks.specs.Files.{targets_file}
use Rattle.tough_trust.proofs.lemmas.Bare.{page-tells}
use Rattle.tough_trust.specs.Listed.{targets_text}
use Rattle.tough_update.specs.Machine.{act_at}
use Rattle.tough_update.specs.View.{pending_doc}
use Rattle.tough_update.proofs.stage.Pending.act.Goals as goal

pub returns-in-PutTargets : goal.returns-in-PutTargets
returns-in-PutTargets c =
    ap (λ p. PutDocument targets_file (targets_text p)) (page-tells c.in-PutTargets.targets) ∙ ap (λ x. act_at (enforces c.args.enforcement) (pending_doc x)) (sym c.in-PutTargets.is)

pub returns-in-PutDelegated : goal.returns-in-PutDelegated
returns-in-PutDelegated c =
    ap (λ p. PutDocument (name_of c.in-PutDelegated.name) (targets_text p)) (page-tells c.in-PutDelegated.targets) ∙ ap (λ x. act_at (enforces c.args.enforcement) (pending_doc x)) (sym c.in-PutDelegated.is)
