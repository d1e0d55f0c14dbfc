use Rattle.std.proofs.Common.{length}
use Rattle.tough_modular.proofs.Forms.{one_at}
use Rattle.tough_modular.proofs.raising.set_one.Goals as goal

pub returns : goal.returns
returns c = one_at c.fill.new.self (length c.args.total.now) c.args.place (c.fill.ensures.after (λ y h. h)) c.requires
