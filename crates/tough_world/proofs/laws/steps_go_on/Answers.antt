use Rattle.tough_world.proofs.Going.{steps_go_on}
use Rattle.tough_world.proofs.laws.steps_go_on.Goals as goal

pub returns : goal.returns
returns g c = λ v xs old new P Q t p u told b n. steps_go_on g.S.Store.tells g.S.Store.files g.S.Store.count v P Q told xs old new u p t b n
