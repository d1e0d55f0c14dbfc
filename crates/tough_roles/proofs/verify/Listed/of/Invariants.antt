use Rattle.tough_roles.proofs.Listing.{Fills}
use Rattle.tough_roles.proofs.verify.Listed.of.Given as goal

abbrev pub invariant-loop-keyid : goal.invariant-loop-keyid
invariant-loop-keyid l = Fills (λ d. d.bytes) (λ k. k.now) l.bytes.keys l.keyids l.keyid-index
