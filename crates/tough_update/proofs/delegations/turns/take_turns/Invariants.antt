use Rattle.std.proofs.Common.{◌≡◌, ◌-◌, length}
use Rattle.tough_update.specs.delegations.Numbered.{roles_at}
use Rattle.tough_update.specs.delegations.Growing.{resumed}
use Rattle.tough_update.specs.delegations.Placed.{placed_doc}
use Rattle.tough_update.specs.delegations.View.{metas_of, task_doc}
use Rattle.tough_trust.specs.View.{index_doc}
use Rattle.tough_update.proofs.delegations.turns.take_turns.Given as goal

abbrev pub invariant-loop-role : goal.invariant-loop-role
invariant-loop-role l =
    resumed (metas_of l.fn.snapshot) (index_doc l.index) (placed_doc l.nodes) (task_doc l.task)
    ≡ resumed (metas_of l.fn.snapshot) (index_doc l.fn.index) (placed_doc l.fn.nodes) (task_doc l.fn.task)

abbrev pub decreases-loop-role : goal.decreases-loop-role
decreases-loop-role l = length (roles_at l.task.node (placed_doc l.nodes)) - l.task.at
