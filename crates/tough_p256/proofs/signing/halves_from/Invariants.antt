use Rattle.std.proofs.Common.{◌≡◌, ◌-◌}
use Rattle.tough_p256.specs.Signing.{halves_from}
use Rattle.tough_p256.proofs.signing.halves_from.Given as goal

abbrev pub invariant-loop-tried : goal.invariant-loop-tried
invariant-loop-tried l = halves_from 16 l.d l.e l.fn.start ≡ halves_from (16 - l._tried) l.d l.e l.generator
