use Rattle.std.proofs.Common.{◌≡◌, [], drop}
use Rattle.tough_roles.specs.Root.{keys_doc}
use Rattle.tough_edit.specs.Signers.{own_keys, keys_told}
use Rattle.tough_edit.proofs.signers.own_keys.Given as goal

abbrev pub invariant-loop-signer : goal.invariant-loop-signer
invariant-loop-signer g l = own_keys (keys_doc l.known.entries) (keys_told (drop l.signer-index l.signers)) ≡ own_keys [] (keys_told l.signers)
