use Rattle.tough_vault.proofs.Replacing.{replaces-by}
use Rattle.tough_vault.proofs.folder.DirStoreStore.replace.Goals as goal

pub returns-clause-replaced : goal.returns-clause-replaced
returns-clause-replaced g c = replaces-by _ _ _ _ _ _ _ c.change.ensures.counts
