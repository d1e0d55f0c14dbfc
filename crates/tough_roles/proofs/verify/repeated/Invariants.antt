use Rattle.tough_roles.proofs.Seen.{Looked, Goes}
use Rattle.tough_roles.proofs.verify.repeated.Given as goal

abbrev pub invariant-loop-i : goal.invariant-loop-i
invariant-loop-i l = Looked (λ k. k.now) l.seen.keys l.signatures l.i × Goes (λ k. k.now) l.seen.keys l.signatures l.i
