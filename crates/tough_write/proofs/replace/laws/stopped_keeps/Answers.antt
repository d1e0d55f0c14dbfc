use Rattle.tough_write.proofs.Standing.{keeps}
use Rattle.tough_write.proofs.replace.laws.stopped_keeps.Goals as goal

pub returns : goal.returns
returns c = keeps
