use Rattle.std.proofs.Common.{◌≡◌, drop}
use Rattle.tough_roles.specs.Signature.{signatures_doc}
use Rattle.tough_signed.specs.Roles.{added_to}
use Rattle.tough_signed.proofs.signed_role.add_old.Given as goal

-- what is added of those that are left makes the whole
abbrev pub invariant-loop-signature : goal.invariant-loop-signature
invariant-loop-signature l = added_to (signatures_doc l.all.items) (signatures_doc (drop l.signature-index l.fn.old.items)) ≡ added_to (signatures_doc l.fn.signatures.items) (signatures_doc l.fn.old.items)
