use Rattle.std.proofs.Common.{◌++◌, ℕ, List}
use Rattle.std.specs.List.{filter_map}
use Rattle.tough_sign.specs.Making.{AreMade, pick, chosen}
use Rattle.tough_sign.specs.Signers.{signers_of, ChosenFails}
use Rattle.tough_roles.specs.Signature.{SignatureDoc, signatures_doc}
use Rattle.tough_roles.specs.Root.{keys_doc}
use Rattle.tough_sign.proofs.signing.sign_under.Given as goal

-- what is made for the keys that are left completes what was made; who fails under one of them is one of those who sign
abbrev pub invariant-loop-keyid : goal.invariant-loop-keyid
invariant-loop-keyid g l =
    ((rest : List SignatureDoc) → AreMade g.S.Sign.signs l.text (filter_map (pick g.S.Sign.key (keys_doc l.known.entries) l.keyids (signers_of l.signers)) (keys_doc l.keyid-iterator)) rest
    → AreMade g.S.Sign.signs l.text (chosen g.S.Sign.key (keys_doc l.known.entries) l.keyids (signers_of l.signers)) (signatures_doc l.signatures.items ++ rest))
    × ((t : List ℕ) → ChosenFails g.S.Sign.fails (filter_map (pick g.S.Sign.key (keys_doc l.known.entries) l.keyids (signers_of l.signers)) (keys_doc l.keyid-iterator)) t
    → ChosenFails g.S.Sign.fails (chosen g.S.Sign.key (keys_doc l.known.entries) l.keyids (signers_of l.signers)) t)
