use Rattle.tough_net.proofs.Marks.{split-char}
use Rattle.tough_net.proofs.shown.split.Goals as goal

pub returns : goal.returns
returns c = split-char c.args.mark c.args.text.now c.split_once.result c.split_once.ensures.cases c.requires
