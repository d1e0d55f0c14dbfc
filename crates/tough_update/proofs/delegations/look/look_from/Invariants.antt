use Rattle.std.proofs.Common.{◌≡◌, ◌-◌, drop, length}
use Rattle.tough_update.specs.delegations.Growing.{look}
use Rattle.tough_trust.specs.delegations.Indexed.{names_of}
use Rattle.tough_trust.specs.delegations.Dressed.{entries_of}
use Rattle.tough_update.specs.delegations.View.{metas_of}
use Rattle.tough_trust.specs.View.{index_doc}
use Rattle.tough_update.proofs.delegations.look.look_from.Given as goal

abbrev pub invariant-loop-role : goal.invariant-loop-role
invariant-loop-role l = look (metas_of l.snapshot) (names_of (index_doc l.index)) (drop l.at (entries_of l.roles)) ≡ look (metas_of l.snapshot) (names_of (index_doc l.index)) (drop l.from (entries_of l.roles))

abbrev pub decreases-loop-role : goal.decreases-loop-role
decreases-loop-role l = length l.roles - l.at
