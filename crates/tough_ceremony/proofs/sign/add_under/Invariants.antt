use Rattle.std.proofs.Common.{◌≡◌, ◌++◌, map, take}
use Rattle.tough_roles.specs.Signature.{signatures_doc}
use Rattle.tough_ceremony.specs.Signing.{signature_under}
use Rattle.tough_ceremony.proofs.sign.add_under.Given as goal

abbrev pub invariant-loop-id : goal.invariant-loop-id
invariant-loop-id l = signatures_doc l.all.items ≡ signatures_doc l.fn.signatures.items ++ map (signature_under l.sig) (take l.id-index l.ids)
