-- The text that is made of a signed document, and that of its role in it.
use Rattle.std.specs.declared.alloc.Global.{Global}
use Rattle.std.specs.Prelude.{◌≡◌, ℕ, List, [], ◌++◌, length, codes, Option, None, Some, option_and_then, Vec, ⊤}
use Rattle.serde_json.specs.Data.{Data, Items, array, no_members, member}
use Rattle.tough_json.specs.Pieces.{text_in, IsOpen}
use Rattle.tough_json.specs.Writing.{all_json}
use Rattle.tough_json.specs.declared.pieces.Form.TheVariants as forms
use Rattle.tough_json.specs.declared.pieces.OpenObject.{OpenObject}
use Rattle.tough_roles.specs.Document.{document_json}
use Rattle.tough_roles.specs.Signature.{signature_json, signatures_doc}
use Rattle.tough_roles.specs.declared.signed.Signed.{Signed}

-- the document as compact JSON, where json gives its role's
abbrev pub compact_by : {T : Type 0} → (T → Option Data) → Signed T → Option (List ℕ)
compact_by json s = option_and_then (text_in forms.Compact) (document_json json s)

-- a text that is known is the document as compact JSON
abbrev pub IsTextIfKnown : {T : Type 0} → (T → Option Data) → Signed T → Option (Vec ℕ Global) → Type 0
IsTextIfKnown json s None = ⊤
IsTextIfKnown json s (Some text) = compact_by json s ≡ Some text.items

-- The text is the document's, as compact JSON, up to the end of its role's. That one begins at the place, and is the role's canonical text too.
pub record EndsWithRole {T : Type 0} (json : T → Option Data) (s : Signed T) (object : OpenObject) (at : ℕ) (text : List ℕ) : Type 0 where
  pub items : Items
  pub listed : all_json signature_json (signatures_doc s.signatures.items) ≡ Some items
  pub before : List ℕ
  pub begun : IsOpen [] forms.Compact (member (codes "signatures") (array items) no_members) (codes "signed") object before
  pub place : at ≡ length before
  pub value : Data
  pub is : json s.signed ≡ Some value
  pub role : List ℕ
  pub whole : text ≡ before ++ role
  pub canonical : text_in forms.Canonical value ≡ Some role
  pub compact : text_in forms.Compact value ≡ Some role
