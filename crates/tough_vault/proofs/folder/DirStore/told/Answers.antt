use Rattle.std.proofs.Common.{ap, ◌∙◌}
use Rattle.tough_vault.specs.Replacing.{count_after}
use Rattle.tough_vault.proofs.Replacing.{cause-after}
use Rattle.tough_vault.proofs.folder.DirStore.told.Goals as goal

pub returns-clause-counts : goal.returns-clause-counts
returns-clause-counts g c = cause-after _ _ _ c.outcome-second.ensures.cause ∙ ap (count_after c.outcome-second.result) (cause-after _ _ _ c.outcome-first.ensures.cause)
