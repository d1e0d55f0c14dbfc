-- What the documents of demonstrations hold, and how they are signed and written.
use Rattle.std.specs.Prelude.{◌≡◌, ℕ, Bool, List, [], ◌∷◌, ◌++◌, Option, Some, Ok, map, All, option_map, codes}
use Rattle.std.specs.BTreeMap.{insert_entry}
use Rattle.json.specs.Layout.{pretty}
use Rattle.json.specs.Lex.{tokens}
use Rattle.serde_json.specs.Data.{Data}
use Rattle.serde_json.specs.Written.{IsInOrder}
use Rattle.jiff.specs.Words.{parse_timestamp}
use Rattle.tough_decoded.specs.Spelled.{Spelled}
use Rattle.sha2.specs.Sha256.{sha256}
use Rattle.tough_keys.specs.declared.key.Key.{Key}
use Rattle.tough_keys.specs.Key.{KeyDoc, key_doc, key_id_of}
use Rattle.tough_keys.specs.Demo.{demo_signature}
use Rattle.tough_roles.specs.Head.{Head}
use Rattle.tough_roles.specs.Root.{RoleKeysDoc, by_bytes}
use Rattle.tough_roles.specs.declared.role_type.RoleType.{RoleType}
use Rattle.tough_roles.specs.declared.role_type.RoleType.TheVariants as types
use Rattle.tough_roles.specs.Signature.{SignatureDoc}
use Rattle.tough_schema.specs.declared.delegations.Delegations.{Delegations}
use Rattle.tough_schema.specs.Delegations.{DelegatedRoleDoc, delegations_doc, keys_held}
use Rattle.tough_schema.specs.Paths.{PathsDoc}

-- the head of a document of this version, of version 1.0.0 of the specification, which expires at the instant of this
-- text (TUF specification 1.0, section 4.2.1)
pub record IsHead (expiry : List ℕ) (version : ℕ) (head : Head) : Type 0 where
  pub spec_version : head.spec_version ≡ codes "1.0.0"
  pub number : head.version ≡ version
  pub expires : parse_timestamp expiry ≡ Ok head.expires

-- this key alone, under its own identifier
pub record IsKnownAlone (key : KeyDoc) (keys : List (Spelled × KeyDoc)) : Type 0 where
  pub identifiers : map (λ e. Some e.0.bytes) keys ≡ key_id_of key ∷ []
  pub known : map (λ e. e.1) keys ≡ key ∷ []

-- a role that this key signs alone
pub record IsSoleSigner (key : KeyDoc) (role : RoleKeysDoc) : Type 0 where
  pub identifiers : map (λ id. Some id.bytes) role.keyids ≡ key_id_of key ∷ []
  pub threshold : role.threshold ≡ 1

-- the four roles of a root, each of which this key signs alone
pub record AreSignedAlone (key : KeyDoc) (roles : List (RoleType × RoleKeysDoc)) : Type 0 where
  pub four : map (λ e. e.0) roles ≡ types.Root ∷ types.Snapshot ∷ types.Targets ∷ types.Timestamp ∷ []
  pub alone : All (λ e. IsSoleSigner key e.1) roles

-- one signature: under this key's identifier, and by this key over the text
pub record IsSignedAlone (key : KeyDoc) (text : Option (List ℕ)) (signatures : List SignatureDoc) : Type 0 where
  pub identifiers : map (λ s. Some s.keyid.bytes) signatures ≡ key_id_of key ∷ []
  pub by_key : map (λ s. Some s.sig.bytes) signatures ≡ option_map (demo_signature key.public.bytes) text ∷ []

-- the value as JSON with two blanks a level, and a line feed at its end
pub record IsPretty (d : Data) (bytes : List ℕ) : Type 0 where
  pub text : List ℕ
  pub line : bytes ≡ text ++ 10 ∷ []
  pub layout : text ≡ pretty (tokens text)
  pub order : IsInOrder text d

-- the role of this name in a list of roles, which the one key of this identifier signs alone
abbrev pub role_alone : List ℕ → PathsDoc → Bool → Spelled → DelegatedRoleDoc
role_alone name paths terminating id = record { name = name; keyids = id ∷ []; threshold = 1; paths = paths; terminating = terminating }

-- what delegating to the role of this name adds: its key, whose public part is the digest of the name, under the key's
-- identifier, and the role after the others (TUF specification 1.0, section 4.5)
pub record IsDelegated (name : List ℕ) (paths : PathsDoc) (terminating : Bool) (before after : Delegations) : Type 0 where
  pub id : Spelled
  pub key : Key
  pub is_of_name : (key_doc key).public.bytes ≡ sha256 name
  pub identifier : key_id_of (key_doc key) ≡ Some id.bytes
  pub keys : keys_held after ≡ insert_entry by_bytes (keys_held before) id key
  pub roles : (delegations_doc after).roles ≡ (delegations_doc before).roles ++ role_alone name paths terminating id ∷ []
