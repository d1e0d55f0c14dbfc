use Rattle.std.proofs.Common.{◌≡◌, take}
use Rattle.tough_sign.specs.Signers.{signers_of, AreKeyed}
use Rattle.tough_sign.proofs.signers.ask_keys.Given as goal

abbrev pub invariant-loop-signer : goal.invariant-loop-signer
invariant-loop-signer g l = record {
  signers : signers_of l.all.items ≡ take l.signer-index l.signers;
  keys : AreKeyed g.S.Sign.key l.all.items;
}
