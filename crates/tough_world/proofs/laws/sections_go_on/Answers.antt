use Rattle.tough_world.proofs.Sections.{sections_go_on}
use Rattle.tough_world.proofs.laws.sections_go_on.Goals as goal

pub returns : goal.returns
returns g c = λ v xs ys zs old new P Q t p u told b n. sections_go_on g.S.Store.tells g.S.Store.files g.S.Store.count v P Q told xs ys zs old new t u p b n
