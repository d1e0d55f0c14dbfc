-- Signatures, and the parts of a signed document (TUF specification 1.0, section 4.2: `signed` and `signatures`).
use Rattle.std.specs.Prelude.{◌≡◌, List, [], ◌∷◌, map, Option, Some, codes}
use Rattle.tough_decoded.specs.Spelled.{Spelled, hex_bytes}
use Rattle.serde_json.specs.Data.{Data, array, object, no_members}
use Rattle.serde_json.specs.Find.{as_object}
use Rattle.tough_json.specs.Reading.{◌>>=◌, required, hexadecimal, listing}
use Rattle.tough_json.specs.Writing.{with, hexadecimal_json, all_json}
use Rattle.tough_roles.specs.declared.signature.Signature.{Signature}
use Rattle.tough_roles.specs.declared.signed.Signed.{Signed}

-- an identifier of a key, and a signature by it
pub record SignatureDoc : Type 0 where
  pub keyid : Spelled
  pub sig : Spelled

-- a role, and the signatures over it
pub record SignedDoc (A : Type 0) : Type 0 where
  pub role : A
  pub signatures : List SignatureDoc

abbrev pub signature_doc : Signature → SignatureDoc
signature_doc s = record { keyid = s.keyid; sig = s.sig }

abbrev pub signatures_doc : List Signature → List SignatureDoc
signatures_doc ss = map signature_doc ss

-- the document as plain data, where doc gives the role's
abbrev pub signed_doc : {T A : Type 0} → (T → A) → Signed T → SignedDoc A
signed_doc doc s = record { role = doc s.signed; signatures = signatures_doc s.signatures.items }

-- both are hexadecimal; what else stands in an entry is dropped
unfoldable pub signature_at : Data → Option SignatureDoc
signature_at d = do
  members ← as_object d
  keyid ← required (codes "keyid") hexadecimal members
  sig ← required (codes "sig") hexadecimal keyid.1
  Some (record { keyid = keyid.0; sig = sig.0 })

unfoldable pub signature_json : SignatureDoc → Option Data
signature_json s = do
  value ← hexadecimal_json s.sig
  sig ← with (codes "sig") value no_members
  id ← hexadecimal_json s.keyid
  members ← with (codes "keyid") id sig
  Some (object members)

-- the JSON of the role, and the signatures; what else stands in the document is dropped
unfoldable pub signed_parts : Data → Option (Data × List SignatureDoc)
signed_parts d = do
  members ← as_object d
  role ← required (codes "signed") Some members
  signatures ← required (codes "signatures") (listing signature_at) role.1
  Some (role.0, signatures.0)

-- the document with the role of that JSON and these signatures
unfoldable pub signed_parts_json : Data → List SignatureDoc → Option Data
signed_parts_json role signatures = do
  items ← all_json signature_json signatures
  listed ← with (codes "signatures") (array items) no_members
  members ← with (codes "signed") role listed
  Some (object members)

-- which signed document the value is, where f reads its role
abbrev pub signed_at : {A : Type 0} → (Data → Option A) → Data → Option (SignedDoc A)
signed_at f d = do
  parts ← signed_parts d
  role ← f parts.0
  Some (record { role = role; signatures = parts.1 })

-- the JSON of a signed document, where f writes its role
abbrev pub signed_json : {A : Type 0} → (A → Option Data) → SignedDoc A → Option Data
signed_json f s = f s.role >>= λ role. signed_parts_json role s.signatures

-- the spelling stands for the bytes, as that of each value of the program does
abbrev pub IsSpelled : Spelled → Type 0
IsSpelled s = hex_bytes s.spelling ≡ Some s.bytes

-- so are the identifier and the value of each signature
abbrev pub AreSpelled : List SignatureDoc → Type 0
AreSpelled [] = Unit {0}
AreSpelled (s ∷ ss) = IsSpelled s.keyid × IsSpelled s.sig × AreSpelled ss
