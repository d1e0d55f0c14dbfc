use Rattle.std.proofs.Common.{refl}
use Rattle.tough_modular.proofs.Inverses.{refined}
use Rattle.tough_modular.proofs.inverse.refine.Goals as goal

pub returns : goal.returns
returns c = λ d k e f. refined c.args.m c.args.x _ d k refl e f
