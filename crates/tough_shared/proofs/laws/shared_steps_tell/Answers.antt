use Rattle.tough_shared.specs.Receipts.{untied}
use Rattle.tough_shared.proofs.Telling.{tells_what}
use Rattle.tough_shared.proofs.laws.shared_steps_tell.Goals as goal

pub returns : goal.returns
returns g c begun v act result h = tells_what g.S.Store.tells g.S.Store.files g.S.Store.count v act h.old h.new (untied result) h.step
