use Rattle.std.proofs.Common.{take}
use Rattle.tough_edit.specs.Signers.{AreIds, keys_told}
use Rattle.tough_edit.proofs.signers.own_ids.Given as goal

abbrev pub invariant-loop-signer : goal.invariant-loop-signer
invariant-loop-signer g l = AreIds (keys_told (take l.signer-index l.signers)) l.ids.items
