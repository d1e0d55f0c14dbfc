use Rattle.tough_update.proofs.growth.Indexed.{grows-indexed}
use Rattle.tough_update.proofs.growth_laws.grows_indexed.Goals as goal

pub returns : goal.returns
returns c = grows-indexed
