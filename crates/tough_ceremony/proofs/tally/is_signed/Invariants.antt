use Rattle.std.proofs.Common.{◌≡◌, drop}
use Rattle.std.specs.List.{list_any}
use Rattle.tough_keys.specs.Key.{key_doc}
use Rattle.tough_keys.specs.Same.{data_of}
use Rattle.tough_roles.specs.Signature.{signatures_doc}
use Rattle.tough_roles.specs.Verdict.{is_by}
use Rattle.tough_ceremony.proofs.tally.is_signed.Given as goal

abbrev pub invariant-loop-signature : goal.invariant-loop-signature
invariant-loop-signature g l =
    list_any (is_by (g.V.Verify.verifies l.verifier) l.text l.id.bytes (data_of (key_doc l.key))) (signatures_doc (drop l.signature-index l.signatures))
    ≡ list_any (is_by (g.V.Verify.verifies l.verifier) l.text l.id.bytes (data_of (key_doc l.key))) (signatures_doc l.signatures)
