use Rattle.tough_lazy.proofs.Agreeing.{agrees}
use Rattle.tough_lazy.proofs.growing.finds_as_the_whole.Goals as goal

pub returns : goal.returns
returns c = λ name l w more settled. agrees name l.targets.role w.targets.role more settled
