use Rattle.std.proofs.Common.{◌≡◌}
use Rattle.tough_keys.specs.Key.{key_doc}
use Rattle.tough_sign.specs.Making.{is_first}
use Rattle.tough_roles.specs.Root.{keys_doc}
use Rattle.tough_sign.proofs.signing.is_first.Given as goal

abbrev pub invariant-loop-id : goal.invariant-loop-id
invariant-loop-id l = is_first (keys_doc l.id-iterator) l.keyid (key_doc l.key) ≡ is_first (keys_doc l.known.entries) l.keyid (key_doc l.key)
