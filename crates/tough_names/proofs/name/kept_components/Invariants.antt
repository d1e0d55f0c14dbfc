use Rattle.std.proofs.Common.{◌≡◌, map, []}
use Rattle.tough_names.specs.Clean.{keep_all}
use Rattle.tough_names.proofs.name.kept_components.Given as goal

abbrev pub invariant-loop-component : goal.invariant-loop-component
invariant-loop-component l = map (λ c. c.now) l.kept.items ≡ keep_all [] (map (λ c. c.now) l.yielded)
