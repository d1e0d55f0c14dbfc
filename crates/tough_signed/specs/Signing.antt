-- A role that is signed for who holds its keys (TUF specification 1.0, section 4.2).
use Rattle.std.specs.Prelude.{◌≡◌, ◌≤◌, ◌⊎◌, ℕ, List, length, Option, Some, false}
use Rattle.serde_json.specs.Data.{Data}
use Rattle.tough_keys.specs.Key.{KeyDoc}
use Rattle.tough_roles.specs.Chain.{text_by}
use Rattle.tough_roles.specs.RoleId.{RoleIdDoc}
use Rattle.tough_roles.specs.Root.{RoleKeysDoc}
use Rattle.tough_roles.specs.Signature.{signatures_doc}
use Rattle.tough_roles.specs.declared.role_type.RoleType.{RoleType}
use Rattle.tough_roles.specs.declared.signed.Signed.{Signed}
use Rattle.tough_sign.specs.Making.{AreMade, chosen}
use Rattle.tough_signed.specs.Holders.{HolderDoc, known_of, keys_for}
use Rattle.tough_signed.specs.Refusals.{is_lenient, IsUnsigned, IsUnfiled}
use Rattle.tough_signed.specs.declared.error.EditError.{EditError}

-- The signatures are those of the signers whose keys are known and listed, over the canonical text, and as many as the threshold, but for a root.
pub record IsSignedFor {T S : Type 0} (json : T → Option Data) (type : RoleType) (key_of : S → KeyDoc) (signs : S → List ℕ → List ℕ → Type 0) (holder : HolderDoc) (id : RoleIdDoc) (signers : List S) (s : Signed T) : Type 0 where
  pub asked : RoleKeysDoc
  pub there : keys_for holder id ≡ Some asked
  pub text : List ℕ
  pub canonical : text_by json s.signed ≡ Some text
  pub made : AreMade signs text (chosen key_of (known_of holder) asked.keyids signers) (signatures_doc s.signatures.items)
  pub enough : is_lenient type ≡ false → asked.threshold ≤ length (chosen key_of (known_of holder) asked.keyids signers)

-- the role was signed so, and that has no text as a file; or memory was wanting for the text
abbrev pub IsUnfiledSigned : {T S : Type 0} → (T → Option Data) → RoleType → (S → KeyDoc) → (S → List ℕ → List ℕ → Type 0) → HolderDoc → RoleIdDoc → List S → T → EditError → Type 0
IsUnfiledSigned {T} json type key_of signs holder id signers role error = (s : Signed T) × (s.signed ≡ role) × IsSignedFor json type key_of signs holder id signers s × IsUnfiled json type s error

-- the role isn't signed, or what was signed has no text
abbrev pub IsRoleRefused : {T S : Type 0} → (T → Option Data) → RoleType → (S → KeyDoc) → (S → List ℕ → List ℕ → Type 0) → (S → List ℕ → Type 0) → HolderDoc → RoleIdDoc → List S → T → EditError → Type 0
IsRoleRefused json type key_of signs fails holder id signers role error =
    IsUnsigned json key_of fails holder signers id type role error ⊎ IsUnfiledSigned json type key_of signs holder id signers role error
