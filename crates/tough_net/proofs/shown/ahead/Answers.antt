use Rattle.tough_net.proofs.Marks.{ahead-char}
use Rattle.tough_net.proofs.shown.ahead.Goals as goal

pub returns-in-Some : goal.returns-in-Some
returns-in-Some c = rw c.in-Some.is at (ahead-char c.args.mark c.args.text.now c.rsplit_once.result c.rsplit_once.ensures.cases c.requires)

pub returns-in-None : goal.returns-in-None
returns-in-None c = rw c.in-None.is at (ahead-char c.args.mark c.args.text.now c.rsplit_once.result c.rsplit_once.ensures.cases c.requires)
