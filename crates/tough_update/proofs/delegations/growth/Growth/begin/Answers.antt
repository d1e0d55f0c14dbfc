use Rattle.std.proofs.Common.{List, ap, ◌∙◌}
use Rattle.tough_schema.specs.Tree.{Entry}
use Rattle.tough_update.specs.delegations.Placed.{placed_doc}
use Rattle.tough_update.specs.delegations.Firsts.{Firsts, first_places}
use Rattle.tough_update.proofs.tree.Turning.{listed-last}
use Rattle.tough_update.proofs.delegations.growth.Growth.begin.Goals as goal

pub invariant_of-result : goal.invariant_of-result
invariant_of-result c =
    let listed = listed-last (placed_doc c.args.nodes) c.last.result.now c.roles_of.result.now c.last.ensures c.roles_of.ensures in
    record { first = λ name. ap (λ (f : Firsts). f name) c.in_ok-firsts.ensures ∙ ap (λ (es : List Entry). first_places es name) listed }
