use Rattle.tough_write.proofs.Standing.{holds}
use Rattle.tough_write.proofs.replace.laws.replaced_holds.Goals as goal

pub returns : goal.returns
returns c = holds
