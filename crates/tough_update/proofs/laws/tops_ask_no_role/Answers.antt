use Rattle.tough_update.proofs.Topping.{asks-none}
use Rattle.tough_update.proofs.laws.tops_ask_no_role.Goals as goal

pub returns : goal.returns
returns c = asks-none
