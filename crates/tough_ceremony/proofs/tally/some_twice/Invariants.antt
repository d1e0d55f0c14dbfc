use Rattle.std.proofs.Common.{◌≡◌, drop}
use Rattle.tough_roles.specs.Signature.{signatures_doc}
use Rattle.tough_roles.specs.Verdict.{some_twice}
use Rattle.tough_ceremony.proofs.tally.some_twice.Given as goal

abbrev pub invariant-loop-place : goal.invariant-loop-place
invariant-loop-place l = some_twice (signatures_doc (drop l.place l.signatures)) ≡ some_twice (signatures_doc l.signatures)
