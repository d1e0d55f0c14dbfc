use Rattle.std.proofs.Common.{length}
use Rattle.tough_modular.proofs.Products.{number-replicate}
use Rattle.tough_modular.proofs.montgomery.clear.Goals as goal

pub returns : goal.returns
returns c = rw (c.fill.ensures.after (λ y h. h)) (number-replicate (length c.args.total.now))
