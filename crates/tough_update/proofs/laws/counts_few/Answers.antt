use Rattle.tough_update.proofs.Bounds as bounds
use Rattle.tough_update.proofs.Keeping as keeping
use Rattle.tough_update.proofs.laws.counts_few.Goals as goal

pub returns : goal.returns
returns c = record { fetches = bounds.fetches_few; keeps = keeping.keeps_few; loaded = bounds.keeps_all }
