use Rattle.std.proofs.Common.{◌≡◌, ◌++◌, map, drop}
use Rattle.tough_update.specs.View.{received_docs}
use Rattle.tough_client.specs.Plans.{role_turns, roots_in, turns_in}
use Rattle.tough_client.proofs.plan.Plan.add_roles.Given as goal

abbrev pub invariant-loop-name : goal.invariant-loop-name
invariant-loop-name l =
    (roots_in l.self ≡ roots_in l.initial.self)
    × (turns_in l.self ++ role_turns (received_docs l.received) (map (λ n. n.now) (drop l.name-index l.names)) ≡ turns_in l.initial.self ++ role_turns (received_docs l.received) (map (λ n. n.now) l.names))
