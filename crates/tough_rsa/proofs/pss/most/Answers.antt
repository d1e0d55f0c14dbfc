use Rattle.tough_rsa.proofs.Masks.{most_of}
use Rattle.tough_rsa.proofs.pss.most.Goals as goal

pub returns : goal.returns
returns c = most_of c.args.free c.requires
