use Rattle.std.proofs.Common.{◌≡◌, drop}
use Rattle.tough_roles.specs.Signature.{signatures_doc}
use Rattle.tough_signed.specs.Roles.{has_signature}
use Rattle.tough_signed.proofs.signed_role.has_signature.Given as goal

abbrev pub invariant-loop-signature : goal.invariant-loop-signature
invariant-loop-signature l = has_signature (signatures_doc (drop l.signature-index l.signatures)) l.other.keyid.bytes ≡ has_signature (signatures_doc l.signatures) l.other.keyid.bytes
