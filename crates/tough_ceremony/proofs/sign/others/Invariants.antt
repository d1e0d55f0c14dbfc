use Rattle.std.proofs.Common.{◌≡◌, ◌++◌, drop}
use Rattle.tough_roles.specs.Signature.{signatures_doc}
use Rattle.tough_ceremony.specs.Signing.{others}
use Rattle.tough_ceremony.proofs.sign.others.Given as goal

-- what is kept of those that are left makes the whole
abbrev pub invariant-loop-signature : goal.invariant-loop-signature
invariant-loop-signature l = signatures_doc l.all.items ++ others l.ids (signatures_doc (drop l.signature-index l.signatures)) ≡ others l.ids (signatures_doc l.signatures)
