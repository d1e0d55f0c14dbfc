use Rattle.std.proofs.Common.{length, ap, sym, ◌∙◌}
use Rattle.tough_update.specs.growth.Tallies.{counted_tally}
use Rattle.tough_update.proofs.tree.Counted.{counted-top}
use Rattle.tough_update.proofs.delegations.placed.Placed.new.Goals as goal

pub invariant_of-result : goal.invariant_of-result
invariant_of-result c =
    record { counted = counted-top c.args.top (length c.roles_of.result.now) (ap length c.roles_of.ensures) ∙ ap counted_tally (sym c.new.ensures) }
