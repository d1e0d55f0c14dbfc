use Rattle.tough_world.proofs.Living.{lives_go_on}
use Rattle.tough_world.proofs.laws.lives_go_on.Goals as goal

pub returns : goal.returns
returns g c = λ v lives journals old new lived P Q fresh roots told b. lives_go_on g.S.Store.tells g.S.Store.files g.S.Store.count v P Q told lives journals old new lived fresh roots b
