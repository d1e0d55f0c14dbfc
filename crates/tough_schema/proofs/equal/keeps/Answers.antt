use Rattle.std.proofs.Common.{ap, ◌∙◌, arith}
use Rattle.tough_schema.specs.declared.equal.Pair.{Pair}
use Rattle.tough_schema.specs.Comparing.{all_same, works}
use Rattle.tough_schema.proofs.Comparisons.{all-last, works-last}
use Rattle.tough_schema.proofs.equal.keeps.Goals as goal

pub returns-in-Ok-clause-same : goal.returns-in-Ok-clause-same
returns-in-Ok-clause-same c =
    let pair : Pair = record { one = c.args.one; other = c.args.other } in
    ap all_same c.in-Ok.ensures.items ∙ all-last c.args.left.now.items pair

pub returns-in-Ok-clause-more : goal.returns-in-Ok-clause-more
returns-in-Ok-clause-more c =
    let pair : Pair = record { one = c.args.one; other = c.args.other } in
    omega (arith, ap works c.in-Ok.ensures.items, works-last c.args.left.now.items pair)
