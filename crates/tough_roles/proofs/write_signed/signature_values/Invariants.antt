use Rattle.std.proofs.Common.{◌≡◌, Some, take}
use Rattle.serde_json.specs.View.{items_view}
use Rattle.tough_json.specs.Writing.{all_json}
use Rattle.tough_roles.specs.Signature.{signature_json, signatures_doc}
use Rattle.tough_roles.proofs.write_signed.signature_values.Given as goal

abbrev pub invariant-loop-signature : goal.invariant-loop-signature
invariant-loop-signature l = all_json signature_json (signatures_doc (take l.signature-index l.signatures)) ≡ Some (items_view l.values.items)
