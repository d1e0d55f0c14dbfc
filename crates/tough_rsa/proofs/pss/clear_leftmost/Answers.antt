use Rattle.tough_rsa.proofs.Masks.{cleared}
use Rattle.tough_rsa.proofs.pss.clear_leftmost.Goals as goal

pub returns : goal.returns
returns c = cleared c.args.bytes.now c.args.free c.most.result c.requires.some c.most.ensures
