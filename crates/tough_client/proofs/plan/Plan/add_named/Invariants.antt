use Rattle.std.proofs.Common.{◌≡◌, ◌++◌, List, map, drop}
use Rattle.tough_client.specs.Plans.{AddsNamed, AreNamed, roots_in, turns_in}
use Rattle.tough_client.specs.declared.plan.Turn.{Turn}
use Rattle.tough_client.proofs.plan.Plan.add_named.Given as goal

abbrev pub invariant-loop-name : goal.invariant-loop-name
invariant-loop-name g l =
    (roots_in l.self ≡ roots_in l.initial.self)
    × ((later : List Turn) → AreNamed (map g.S.AsStr.text (drop l.name-index l.names)) later → AddsNamed (map g.S.AsStr.text l.names) (turns_in l.initial.self) (turns_in l.self ++ later))
