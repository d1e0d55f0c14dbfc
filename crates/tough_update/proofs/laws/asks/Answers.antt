use Rattle.tough_update.proofs.Asked as lemmas
use Rattle.tough_update.proofs.laws.asks.Goals as goal

pub returns : goal.returns
returns c = lemmas.asks
