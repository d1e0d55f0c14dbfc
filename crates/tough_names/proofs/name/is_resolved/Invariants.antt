use Rattle.std.proofs.Common.{◌≡◌, []}
use Rattle.tough_names.specs.Clean.{keep_all}
use Rattle.tough_names.proofs.Keeping.{texts}
use Rattle.tough_names.proofs.name.is_resolved.Given as goal

abbrev pub invariant-loop-component : goal.invariant-loop-component
invariant-loop-component l = texts l.yielded ≡ keep_all [] (texts l.yielded)
