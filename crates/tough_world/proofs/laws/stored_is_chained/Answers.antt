use Rattle.tough_world.proofs.Chaining.{stored_is_chained}
use Rattle.tough_world.proofs.laws.stored_is_chained.Goals as goal

pub returns : goal.returns
returns g c = λ v lives journals old new lived fresh told b none r is. stored_is_chained g.S.Store.tells g.S.Store.files g.S.Store.count v told lives journals old new lived fresh b none r is
