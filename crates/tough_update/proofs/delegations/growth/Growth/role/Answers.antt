use Rattle.std.proofs.Common.{List, drop, ap, ◌∙◌}
use Rattle.tough_schema.specs.Tree.{Entry}
use Rattle.tough_update.specs.delegations.Growing.{first_of}
use Rattle.tough_update.specs.delegations.Placed.{placed_doc}
use Rattle.tough_update.proofs.tree.Listing.{first-at}
use Rattle.tough_update.proofs.tree.Turning.{listed-last}
use Rattle.tough_update.proofs.delegations.growth.Growth.role.Goals as goal

pub returns : goal.returns
returns c =
    let g = c.args.self.now in
    first-at c.roles_of.result.now g.at c.get.result c.get.ensures.lookup
    ∙ ap (λ (es : List Entry). first_of (drop g.at es)) (listed-last (placed_doc g.nodes) c.last.result.now c.roles_of.result.now c.last.ensures c.roles_of.ensures)
