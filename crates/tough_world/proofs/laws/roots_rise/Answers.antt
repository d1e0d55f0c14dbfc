use Rattle.tough_world.proofs.Roots.{roots_rise}
use Rattle.tough_world.proofs.laws.roots_rise.Goals as goal

pub returns : goal.returns
returns g c = λ v xs old new t p r told b. roots_rise g.S.Store.tells g.S.Store.files g.S.Store.count v told xs old new p r t b
