use Rattle.tough_load.proofs.Trails.{trail-receipts}
use Rattle.tough_load.proofs.laws.receipts_are_of_steps.Goals as goal

pub returns : goal.returns
returns g c = λ verifies k steps new h. trail-receipts g.K.Keeper.keeps g.K.Keeper.reads verifies k steps new h
