use Rattle.std.proofs.Common.{◌≡◌}
use Rattle.tough_roles.specs.Root.{roles_doc}
use Rattle.tough_ceremony.specs.Listing.{is_used}
use Rattle.tough_ceremony.proofs.listing.is_used.Given as goal

abbrev pub invariant-loop-keys : goal.invariant-loop-keys
invariant-loop-keys l = is_used (roles_doc l.keys-iterator) l.id ≡ is_used (roles_doc l.roles.entries) l.id
