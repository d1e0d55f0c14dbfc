use Rattle.std.proofs.Common.{◌≡◌}
use Rattle.tough_roles.specs.Keyring.{id_of}
use Rattle.tough_roles.proofs.keyring.key_id_in.Given as goal

abbrev pub invariant-loop-id : goal.invariant-loop-id
invariant-loop-id l = id_of l.key l.id-iterator ≡ id_of l.key l.keys.entries
