use Rattle.tough_schema.proofs.Straying.{same-match}
use Rattle.tough_schema.proofs.strays.narrows.Goals as goal

pub returns-in-Some : goal.returns-in-Some
returns-in-Some c = let some = c.in-Some.ensures.item.3.0 in let is = c.in-Some.ensures.item.3.1 c.in-Some.last.now in same-match c.args.above.now c.in-Some.last.now c.args.role.now c.same_paths.result c.same_paths.ensures some is
