use Rattle.tough_net.proofs.PacingLemmas.{few_and_paced}
use Rattle.tough_net.proofs.laws.requests_are_few.Goals as goal

pub returns : goal.returns
returns c = few_and_paced c.args.settings
