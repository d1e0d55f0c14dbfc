use Rattle.std.proofs.Common.{◌≡◌, drop}
use Rattle.tough_sign.specs.Making.{is_listed}
use Rattle.tough_ceremony.proofs.listing.is_listed.Given as goal

abbrev pub invariant-loop-id : goal.invariant-loop-id
invariant-loop-id l = is_listed (drop l.id-index l.keyids) l.keyid ≡ is_listed l.keyids l.keyid
