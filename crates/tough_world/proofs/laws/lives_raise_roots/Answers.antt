use Rattle.tough_world.proofs.Walking.{lives_raise_roots}
use Rattle.tough_world.proofs.laws.lives_raise_roots.Goals as goal

pub returns : goal.returns
returns g c = λ v lives journals old new lived fresh told b. lives_raise_roots g.S.Store.tells g.S.Store.files g.S.Store.count v told lives journals old new lived fresh b
