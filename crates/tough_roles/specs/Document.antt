-- What reading and writing a signed document answers, over what its role says of itself.
use Rattle.std.specs.Prelude.{◌≡◌, ℕ, List, Option, Some, None, Result, Ok, Err, ⊤, ◌⊎◌}
use Rattle.json.specs.Value.{value_view}
use Rattle.json.specs.declared.value.Value.{Value}
use Rattle.serde_json.specs.Data.{Data}
use Rattle.serde_json.specs.Read.{of_json}
use Rattle.tough_json.specs.declared.error.ReadError.{ReadError}
use Rattle.tough_json.specs.declared.error.ReadError.TheVariants as errors
use Rattle.tough_json.specs.Results.{json_of, Refuses}
use Rattle.tough_roles.specs.declared.signed.Signed.{Signed}
use Rattle.tough_roles.specs.Signature.{SignatureDoc, signatures_doc, signed_parts, signed_parts_json}
use Rattle.tough_json.specs.Reading.{◌>>=◌}

-- A value of JSON is read as x, or it is refused by its shape. Want of memory says nothing.
abbrev pub RefusesValue : (Data → Type 0) → ReadError → Data → Type 0
RefusesValue refused (errors.Json place) d = ⊥
RefusesValue refused (errors.Shape s) d = refused d
RefusesValue refused errors.Memory d = ⊤

abbrev pub ReadsValue : {X : Type 0} → (Data → X → Type 0) → (Data → Type 0) → Result X ReadError → Data → Type 0
ReadsValue is_read refused (Ok x) d = is_read d x
ReadsValue is_read refused (Err e) d = RefusesValue refused e d

-- The same of bytes, which are no JSON, or the JSON of one value.
abbrev pub RefusesText : (Data → Type 0) → ReadError → List ℕ → Type 0
RefusesText refused (errors.Json place) bytes = json_of bytes ≡ None
RefusesText refused (errors.Shape s) bytes = (d : Data) × (json_of bytes ≡ Some d) × refused d
RefusesText refused errors.Memory bytes = ⊤

abbrev pub ReadsText : {X : Type 0} → (Data → X → Type 0) → (Data → Type 0) → Result X ReadError → List ℕ → Type 0
ReadsText is_read refused (Ok x) bytes = (d : Data) × (json_of bytes ≡ Some d) × is_read d x
ReadsText is_read refused (Err e) bytes = RefusesText refused e bytes

-- ---- a signed document

-- the JSON of the role, and the signatures
abbrev pub ReadsParts : {A X : Type 0} → (X → List SignatureDoc) → Result (Value A × X) ReadError → Option (Data × List SignatureDoc) → Type 0
ReadsParts doc (Ok p) answer = (role : Data) × (of_json (value_view p.0) ≡ Some role) × (answer ≡ Some (role, doc p.1))
ReadsParts doc (Err e) answer = Refuses e answer

-- the value is a document with this role and these signatures
pub record IsSigned {T : Type 0} (is_read : Data → T → Type 0) (d : Data) (s : Signed T) : Type 0 where
  pub role : Data
  pub found : signed_parts d ≡ Some (role, signatures_doc s.signatures.items)
  pub read : is_read role s.signed

-- it is no object with a role and signatures, or the role is refused
abbrev pub IsNotSigned : (Data → Type 0) → Data → Type 0
IsNotSigned refused d = (signed_parts d ≡ None) ⊎ ((role : Data) × (ss : List SignatureDoc) × (signed_parts d ≡ Some (role, ss)) × refused role)

-- the JSON that is written for the document, where json gives the role's
abbrev pub document_json : {T : Type 0} → (T → Option Data) → Signed T → Option Data
document_json json s = json s.signed >>= λ role. signed_parts_json role (signatures_doc s.signatures.items)
