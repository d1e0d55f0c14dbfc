use Rattle.std.proofs.Common.{◌≡◌, map, length}
use Rattle.tough_update.specs.delegations.Growing.{settle}
use Rattle.tough_update.specs.delegations.Placed.{placed_doc}
use Rattle.tough_update.specs.delegations.View.{metas_of, task_doc}
use Rattle.tough_trust.specs.View.{index_doc}
use Rattle.tough_update.proofs.delegations.growth.Growth.settle.Given as goal

abbrev pub invariant-loop-task : goal.invariant-loop-task
invariant-loop-task l =
    settle (metas_of l.fn.snapshot) (index_doc l.index) (placed_doc l.nodes) (map task_doc l.outer.items)
    ≡ settle (metas_of l.fn.snapshot) (index_doc l.fn.index) (placed_doc l.fn.nodes) (map task_doc l.fn.outer.items)

abbrev pub decreases-loop-task : goal.decreases-loop-task
decreases-loop-task l = length l.outer.items
