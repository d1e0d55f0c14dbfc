use Rattle.std.proofs.Common.{◌≡◌, map, take}
use Rattle.tough_schema.specs.Gather.{shown}
use Rattle.tough_schema.proofs.targets.Targets.role_names.Given as goal

abbrev pub invariant-loop-role : goal.invariant-loop-role
invariant-loop-role l = map (λ n. n.now) l.names.items ≡ map (λ r. r.0.name) (shown (take l.role-index l.role-items))
