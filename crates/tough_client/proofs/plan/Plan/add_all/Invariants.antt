use Rattle.std.proofs.Common.{◌≡◌, ◌++◌, map}
use Rattle.std.specs.BTreeMap.{keys}
use Rattle.tough_client.specs.Plans.{roots_in, turns_in}
use Rattle.tough_client.specs.declared.plan.Turn.TheVariants as turn
use Rattle.tough_client.proofs.plan.Plan.add_all.Given as goal

abbrev pub invariant-loop-name : goal.invariant-loop-name
invariant-loop-name g l =
    (goal.iterator-loop-name g).can_next l.name-iterator
    × (goal.iterator-loop-name g).is_finite l.name-iterator
    × (roots_in l.self ≡ roots_in l.initial.self)
    × (turns_in l.self ++ map turn.Target l.name-iterator ≡ turns_in l.initial.self ++ map turn.Target (keys l.listed))
