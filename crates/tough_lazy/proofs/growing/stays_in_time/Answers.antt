use Rattle.tough_lazy.proofs.Vouching.{stays-in-time}
use Rattle.tough_lazy.proofs.growing.stays_in_time.Goals as goal

pub returns : goal.returns
returns c = stays-in-time
