use Rattle.std.proofs.Common.{◌≡◌, drop, option_map}
use Rattle.tough_keys.specs.Key.{key_doc}
use Rattle.tough_sign.specs.Making.{or_before, last_of}
use Rattle.tough_sign.specs.Signers.{signers_of}
use Rattle.tough_sign.proofs.signers.last_signer.Given as goal

-- the last one of those that are left, or else the one that was found
abbrev pub invariant-loop-keyed : goal.invariant-loop-keyed
invariant-loop-keyed g l =
    or_before (last_of g.S.Sign.key (key_doc l.key) (signers_of (drop l.keyed-index l.signers))) (option_map (λ x. x.now) l.found)
    ≡ last_of g.S.Sign.key (key_doc l.key) (signers_of l.signers)
