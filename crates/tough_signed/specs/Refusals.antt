-- Why a role isn't signed, or has no file.
use Rattle.std.specs.Prelude.{◌≡◌, ⊤, ℕ, ◌<◌, List, length, Bool, true, false, Option, Some, None, option_and_then, ◌⊎◌, string_bytes}
use Rattle.serde_json.specs.Data.{Data}
use Rattle.tough_keys.specs.Key.{KeyDoc}
use Rattle.tough_keys.specs.declared.sign.SignError.{SignError}
use Rattle.tough_keys.specs.declared.sign.SignError.TheVariants as signs
use Rattle.tough_roles.specs.Chain.{text_by}
use Rattle.tough_roles.specs.Document.{document_json}
use Rattle.tough_roles.specs.RoleId.{RoleIdDoc}
use Rattle.tough_roles.specs.Root.{RoleKeysDoc}
use Rattle.tough_roles.specs.declared.role_type.RoleType.{RoleType}
use Rattle.tough_roles.specs.declared.role_type.RoleType.TheVariants as types
use Rattle.tough_roles.specs.declared.signed.Signed.{Signed}
use Rattle.tough_sign.specs.Making.{chosen}
use Rattle.tough_sign.specs.Pretty.{pretty_in}
use Rattle.tough_sign.specs.Signers.{SomeFails}
use Rattle.tough_signed.specs.Holders.{HolderDoc, known_of, keys_for, is_of_root, are_strangers}
use Rattle.tough_signed.specs.declared.error.EditError.{EditError}
use Rattle.tough_signed.specs.declared.error.EditError.TheVariants as errors

abbrev pub sign_error : SignError → EditError
sign_error (signs.Failed reason) = errors.SignMessage reason
sign_error signs.Memory = errors.Memory

-- a signer gave one of these reasons; want of memory says nothing
abbrev pub IsFailure : (List ℕ → Type 0) → EditError → Type 0
IsFailure fails (errors.SignMessage reason) = fails (string_bytes reason)
IsFailure fails errors.Memory = ⊤
IsFailure fails _ = ⊥

-- a document of this kind may lack signatures, as a root that the next one signs too
abbrev pub is_lenient : RoleType → Bool
is_lenient types.Root = true
is_lenient _ = false

-- the holder has no keys that these signers could sign the role by; or memory was wanting
abbrev pub IsUnasked : {S : Type 0} → (S → KeyDoc) → HolderDoc → List S → RoleIdDoc → RoleType → EditError → Type 0
IsUnasked key_of holder signers id type error =
    (error ≡ errors.Memory)
    ⊎ (((error ≡ errors.KeysNotFoundInRoot) × (are_strangers key_of holder signers ≡ true))
    ⊎ ((are_strangers key_of holder signers ≡ false)
    × (((error ≡ errors.NoRoleKeysinRoot type) × (is_of_root holder id ≡ true) × (keys_for holder id ≡ None)) ⊎ ((error ≡ errors.SigningKeysNotFound type) × (is_of_root holder id ≡ false) × (keys_for holder id ≡ None)))))

module _ {T S : Type 0} (json : T → Option Data) (key_of : S → KeyDoc) (fails : S → List ℕ → Type 0) (holder : HolderDoc) (signers : List S) where
  -- The holder has the role, and fewer of the signers than the threshold are listed for it.
  pub record IsShort (id : RoleIdDoc) (type : RoleType) (role : T) : Type 0 where
    pub asked : RoleKeysDoc
    pub there : keys_for holder id ≡ Some asked
    pub strict : is_lenient type ≡ false
    pub text : List ℕ
    pub canonical : text_by json role ≡ Some text
    pub few : length (chosen key_of (known_of holder) asked.keyids signers) < asked.threshold

  -- The holder has the role, which has no canonical form.
  pub record IsUnwritable (id : RoleIdDoc) (role : T) : Type 0 where
    pub asked : RoleKeysDoc
    pub there : keys_for holder id ≡ Some asked
    pub none : text_by json role ≡ None

  -- Why the role isn't signed: a signer failed; or there are no keys for it; or it has no canonical form, or there are too few signers.
  abbrev pub IsUnsigned : RoleIdDoc → RoleType → T → EditError → Type 0
  IsUnsigned id type role error =
      IsFailure (SomeFails fails signers) error
      ⊎ (IsUnasked key_of holder signers id type error
      ⊎ ((are_strangers key_of holder signers ≡ false) × (((error ≡ errors.SerializeRole type) × IsUnwritable id role) ⊎ ((error ≡ errors.SigningKeysNotFound type) × IsShort id type role))))

-- too few signers are listed for keys; or a signer failed
abbrev pub IsBelow : {S : Type 0} → (S → List ℕ → Type 0) → List S → RoleType → ℕ → ℕ → EditError → Type 0
IsBelow fails signers type count threshold error = IsFailure (SomeFails fails signers) error ⊎ ((error ≡ errors.SigningKeysNotFound type) × (is_lenient type ≡ false) × (count < threshold))

-- the document has no text as a file; or memory was wanting
abbrev pub IsUnfiled : {T : Type 0} → (T → Option Data) → RoleType → Signed T → EditError → Type 0
IsUnfiled json type s error = (error ≡ errors.Memory) ⊎ ((error ≡ errors.SerializeSignedRole type) × (option_and_then pretty_in (document_json json s) ≡ None))

-- the same, of a document of this role with some signatures
abbrev pub IsUnfiledAs : {T : Type 0} → (T → Option Data) → RoleType → T → EditError → Type 0
IsUnfiledAs {T} json type role error = (error ≡ errors.Memory) ⊎ ((s : Signed T) × (s.signed ≡ role) × IsUnfiled json type s error)
