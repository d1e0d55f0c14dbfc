-- Keys, their JSON, and their identifiers (TUF specification 1.0, section 4.2).
use Rattle.std.specs.Prelude.{◌≡◌, ℕ, List, Option, Some, None, option_map, option_and_then, codes, if◌then◌else◌, ⊤}
use Rattle.std.specs.Str.{bytes_eq}
use Rattle.tough_decoded.specs.Spelled.{Spelled, hex_bytes, pem_bytes, flex_bytes}
use Rattle.tough_json.specs.Canon.{Canon}
use Rattle.tough_json.specs.CanonicalText.{canonical_of}
use Rattle.sha2.specs.Sha256.{sha256}
use Rattle.serde_json.specs.Data.{Data, string, object, Members}
use Rattle.serde_json.specs.Find.{as_object, as_str}
use Rattle.serde_json.specs.View.{members_view}
use Rattle.tough_json.specs.Reading.{◌>>=◌, required, decoded}
use Rattle.tough_json.specs.Writing.{with, decoded_json}
use Rattle.tough_keys.specs.declared.kind.Kind.{Kind}
use Rattle.tough_keys.specs.declared.kind.Kind.TheVariants as kinds
use Rattle.tough_keys.specs.declared.key.Key.{Key}
use Rattle.tough_keys.specs.declared.key.Key.TheVariants as keys

-- ---- the table of the formats: a kind's name, its one scheme, and how its public part stands for bytes

abbrev pub kind_name : Kind → List ℕ
kind_name kinds.Rsa = codes "rsa"
kind_name kinds.Ed25519 = codes "ed25519"
kind_name kinds.Ecdsa = codes "ecdsa"
kind_name kinds.EcdsaOld = codes "ecdsa-sha2-nistp256"

abbrev pub scheme_name : Kind → List ℕ
scheme_name kinds.Rsa = codes "rsassa-pss-sha256"
scheme_name kinds.Ed25519 = codes "ed25519"
scheme_name kinds.Ecdsa = codes "ecdsa-sha2-nistp256"
scheme_name kinds.EcdsaOld = codes "ecdsa-sha2-nistp256"

abbrev pub public_bytes : Kind → List ℕ → Option (List ℕ)
public_bytes kinds.Rsa = pem_bytes
public_bytes kinds.Ed25519 = hex_bytes
public_bytes kinds.Ecdsa = flex_bytes
public_bytes kinds.EcdsaOld = flex_bytes

abbrev pub kind_of : List ℕ → Option Kind
kind_of t =
    if bytes_eq t (codes "rsa") then Some kinds.Rsa
    else (if bytes_eq t (codes "ed25519") then Some kinds.Ed25519
    else (if bytes_eq t (codes "ecdsa") then Some kinds.Ecdsa
    else (if bytes_eq t (codes "ecdsa-sha2-nistp256") then Some kinds.EcdsaOld else None)))

-- ---- a key as plain data; its scheme is that of its kind

pub record KeyDoc : Type 0 where
  pub kind : Kind
  pub public : Spelled
  pub keyval_extra : Members
  pub extra : Members

abbrev pub key_doc : Key → KeyDoc
key_doc (keys.Rsa v s e) = record { kind = kinds.Rsa; public = v.public; keyval_extra = members_view v._extra.entries; extra = members_view e.entries }
key_doc (keys.Ed25519 v s e) = record { kind = kinds.Ed25519; public = v.public; keyval_extra = members_view v._extra.entries; extra = members_view e.entries }
key_doc (keys.Ecdsa v s e) = record { kind = kinds.Ecdsa; public = v.public; keyval_extra = members_view v._extra.entries; extra = members_view e.entries }
key_doc (keys.EcdsaOld v s e) = record { kind = kinds.EcdsaOld; public = v.public; keyval_extra = members_view v._extra.entries; extra = members_view e.entries }

-- ---- reading

abbrev pub kind_at : Data → Option Kind
kind_at d = option_and_then kind_of (as_str d)

abbrev pub scheme_at : Kind → Data → Option ⊤
scheme_at kind d = option_and_then (λ t. if bytes_eq t (scheme_name kind) then Some tt else None) (as_str d)

unfoldable pub keyval_at : (List ℕ → Option (List ℕ)) → Data → Option (Spelled × Members)
keyval_at decodes d = do
  members ← as_object d
  required (codes "public") (decoded decodes) members

unfoldable pub key_at : Data → Option KeyDoc
key_at d = do
  members ← as_object d
  kind ← required (codes "keytype") kind_at members
  scheme ← required (codes "scheme") (scheme_at kind.0) kind.1
  keyval ← required (codes "keyval") (keyval_at (public_bytes kind.0)) scheme.1
  Some (record { kind = kind.0; public = keyval.0.0; keyval_extra = keyval.0.1; extra = keyval.1 })

-- ---- writing

unfoldable pub keyval_json : (List ℕ → Option (List ℕ)) → Spelled → Members → Option Data
keyval_json decodes public extra = do
  value ← decoded_json decodes public
  members ← with (codes "public") value extra
  Some (object members)

unfoldable pub kind_json : Kind → Data → Members → Option Data
kind_json kind inner extra = do
  keyval ← with (codes "keyval") inner extra
  scheme ← with (codes "scheme") (string (scheme_name kind)) keyval
  members ← with (codes "keytype") (string (kind_name kind)) scheme
  Some (object members)

unfoldable pub key_json : KeyDoc → Option Data
key_json k = keyval_json (public_bytes k.kind) k.public k.keyval_extra >>= λ inner. kind_json k.kind inner k.extra

-- ---- the identifier (TUF specification 1.0, section 4.2: the SHA-256 of the canonical form of the key)

-- the canonical text of the key's JSON
abbrev pub key_text : KeyDoc → Option (List ℕ)
key_text k = option_and_then canonical_of (key_json k)

unfoldable pub key_id_of : KeyDoc → Option (List ℕ)
key_id_of k = option_map sha256 (key_text k)

-- the same by the relation: these are the SHA-256 of the text that is canonical for the key's JSON
pub record IsKeyId (k : KeyDoc) (id : List ℕ) : Type 0 where
  pub json : Data
  pub text : List ℕ
  pub written : key_json k ≡ Some json
  pub canonical : Canon json text
  pub digest : id ≡ sha256 text
