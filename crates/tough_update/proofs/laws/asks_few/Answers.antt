use Rattle.tough_update.proofs.Counting as lemmas
use Rattle.tough_update.proofs.laws.asks_few.Goals as goal

pub returns : goal.returns
returns c = lemmas.asks_few
