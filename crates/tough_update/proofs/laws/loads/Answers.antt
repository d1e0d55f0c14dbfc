use Rattle.tough_update.proofs.Loads as lemmas
use Rattle.tough_update.proofs.laws.loads.Goals as goal

pub returns : goal.returns
returns c = lemmas.loads
