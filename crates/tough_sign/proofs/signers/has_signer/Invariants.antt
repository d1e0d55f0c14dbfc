use Rattle.std.proofs.Common.{◌≡◌}
use Rattle.tough_sign.specs.Making.{has_signer}
use Rattle.tough_sign.specs.Signers.{signers_of}
use Rattle.tough_roles.specs.Root.{keys_doc}
use Rattle.tough_sign.proofs.signers.has_signer.Given as goal

-- what is so of all keys is so of those that are left
abbrev pub invariant-loop-key : goal.invariant-loop-key
invariant-loop-key g l = has_signer g.S.Sign.key (keys_doc l.key-iterator) (signers_of l.signers) ≡ has_signer g.S.Sign.key (keys_doc l.known.entries) (signers_of l.signers)
