use Rattle.tough_update.proofs.growth.Laws.{grows-once}
use Rattle.tough_update.proofs.growth_laws.grows_once.Goals as goal

pub returns : goal.returns
returns c = grows-once
