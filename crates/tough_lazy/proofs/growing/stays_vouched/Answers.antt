use Rattle.tough_lazy.proofs.Vouching.{stays-vouched}
use Rattle.tough_lazy.proofs.growing.stays_vouched.Goals as goal

pub returns : goal.returns
returns c = stays-vouched
