use Rattle.std.proofs.Common.{List, drop, ap, ◌∙◌}
use Rattle.tough_schema.specs.Tree.{Entry}
use Rattle.tough_update.specs.delegations.Growing.{first_of}
use Rattle.tough_update.proofs.tree.Listing.{first-at}
use Rattle.tough_update.proofs.delegations.nodes.Nodes.role.Goals as goal

pub returns : goal.returns
returns c = first-at c.roles.result.now c.args.place c.get.result c.get.ensures.lookup ∙ ap (λ (es : List Entry). first_of (drop c.args.place es)) c.roles.ensures
