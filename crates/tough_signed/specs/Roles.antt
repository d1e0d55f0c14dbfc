-- Signed roles with their files.
use Rattle.std.specs.Prelude.{◌≡◌, ℕ, Bool, List, [], ◌∷◌, ◌++◌, Option, Some, if◌then◌else◌, option_and_then}
use Rattle.std.specs.List.{list_any}
use Rattle.std.specs.Str.{bytes_eq}
use Rattle.serde_json.specs.Data.{Data}
use Rattle.tough_roles.specs.Document.{document_json}
use Rattle.tough_roles.specs.Signature.{SignatureDoc}
use Rattle.tough_roles.specs.declared.signed.Signed.{Signed}
use Rattle.tough_sign.specs.Files.{bytes_of}
use Rattle.tough_sign.specs.Pretty.{pretty_in}
use Rattle.tough_signed.specs.declared.signed_role.SignedRole.{SignedRole}

-- the document
abbrev pub signed_of : {T : Type 0} → SignedRole T → Signed T
signed_of r = r.signed

-- the bytes of its file
abbrev pub buffer_of : {T : Type 0} → SignedRole T → List ℕ
buffer_of r = bytes_of r.file

-- the file is the document's pretty text, with one newline
abbrev pub IsWritten : {T : Type 0} → (T → Option Data) → SignedRole T → Type 0
IsWritten json r = option_and_then pretty_in (document_json json (signed_of r)) ≡ Some (buffer_of r)

-- a signature stands under the identifier
abbrev pub has_signature : List SignatureDoc → List ℕ → Bool
has_signature ss id = list_any (λ s. bytes_eq s.keyid.bytes id) ss

-- each of the old signatures is added whose identifier isn't there yet
abbrev pub added_to : List SignatureDoc → List SignatureDoc → List SignatureDoc
added_to ss [] = ss
added_to ss (o ∷ os) = added_to (if has_signature ss o.keyid.bytes then ss else ss ++ o ∷ []) os
