use Rattle.tough_net.proofs.Marks.{past-text}
use Rattle.tough_net.proofs.shown.past.Goals as goal

pub returns : goal.returns
returns c = past-text c.args.front.now c.args.text.now c.strip_prefix.result c.strip_prefix.ensures.cases
