use Rattle.tough_update.proofs.growth.Listed.{wanted-listed}
use Rattle.tough_update.proofs.growth_laws.wanted_is_listed.Goals as goal

pub returns : goal.returns
returns c = wanted-listed
