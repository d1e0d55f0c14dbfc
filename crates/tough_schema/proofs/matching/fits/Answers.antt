use Rattle.tough_schema.proofs.Matched.{match-is}
use Rattle.tough_schema.proofs.matching.fits.Goals as goal

pub returns : goal.returns
returns c = match-is c.args.name.now.resolved c.args.pattern.now c.matches.result c.matches.ensures
