use Rattle.std.proofs.Common.{length, refl, ap, sym, ◌∙◌}
use Rattle.tough_update.specs.growth.Tallies.{counted_tally}
use Rattle.tough_update.specs.delegations.Documents.{node_doc, nodes_doc}
use Rattle.tough_update.proofs.tree.Counted.{counted-more}
use Rattle.tough_update.proofs.delegations.placed.Placed.push.Goals as goal

pub invariant_of-self-2 : goal.invariant_of-self-2
invariant_of-self-2 c =
    let p = c.args.self.now in
    let n = c.args.node in
    record {
      counted = c.saturating_add-self.ensures
          ∙ counted-more (nodes_doc p.nodes) (node_doc n) n.document p.entries (length c.roles_of.result.now) refl p.counted (ap length c.roles_of.ensures)
          ∙ ap counted_tally (sym c.in_ok-push.ensures.placed);
    }
