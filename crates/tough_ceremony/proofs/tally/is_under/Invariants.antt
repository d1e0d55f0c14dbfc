use Rattle.std.proofs.Common.{◌≡◌, drop}
use Rattle.std.specs.List.{list_any}
use Rattle.std.specs.Str.{bytes_eq}
use Rattle.tough_roles.specs.Signature.{signatures_doc}
use Rattle.tough_ceremony.proofs.tally.is_under.Given as goal

abbrev pub invariant-loop-signature : goal.invariant-loop-signature
invariant-loop-signature l =
    list_any (λ s. bytes_eq s.keyid.bytes l.id.bytes) (signatures_doc (drop l.signature-index l.signatures)) ≡ list_any (λ s. bytes_eq s.keyid.bytes l.id.bytes) (signatures_doc l.signatures)
