use Rattle.tough_world.proofs.Walking.{lives_take_steps}
use Rattle.tough_world.proofs.laws.lives_take_steps.Goals as goal

pub returns : goal.returns
returns g c = λ v lives journals old new lived fresh. lives_take_steps g.S.Store.tells g.S.Store.files g.S.Store.count v lives journals old new lived fresh
