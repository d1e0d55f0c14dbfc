use Rattle.tough_update.proofs.lemmas.Whole.{loaded}
use Rattle.tough_update.proofs.laws.trusts.Goals as goal

pub returns : goal.returns
returns c = loaded
