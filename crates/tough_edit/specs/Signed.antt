-- The document that an editor signs (TUF specification 1.0, sections 4.2 and 4.5).
use Rattle.std.specs.Prelude.{◌≡◌, ℕ, List, ◌∷◌, map, Some, None, ◌⊎◌}
use Rattle.std.specs.List.{Any}
use Rattle.tough_keys.specs.Key.{KeyDoc}
use Rattle.tough_roles.specs.RoleId.{RoleIdDoc}
use Rattle.tough_roles.specs.declared.role_type.RoleType.TheVariants as types
use Rattle.tough_roles.specs.declared.signed.Signed.{Signed}
use Rattle.tough_schema.specs.Targets.{delegated_name, delegated_id}
use Rattle.tough_schema.specs.Whole.{RoleTree}
use Rattle.tough_schema.specs.declared.targets.DelegatedTargets.{DelegatedTargets}
use Rattle.tough_signed.specs.Holders.{HolderDoc}
use Rattle.tough_signed.specs.Refusals.{IsUnsigned, IsUnfiled}
use Rattle.tough_signed.specs.Signing.{IsSignedFor}
use Rattle.tough_signed.specs.Standing.{json_of, IsStanding, AllStanding, IsUnfiledAlone}
use Rattle.tough_signed.specs.Roles.{signed_of, IsWritten}
use Rattle.tough_signed.specs.declared.signed_role.SignedRole.{SignedRole}
use Rattle.tough_signed.specs.declared.error.EditError.{EditError}
use Rattle.tough_signed.specs.declared.error.EditError.TheVariants as errors
use Rattle.tough_edit.specs.Edits.{EditsDoc}
use Rattle.tough_edit.specs.Built.{IsBuilt, IsIncomplete}
use Rattle.tough_edit.specs.Signers.{IsHeldBy, IsKeyless}

-- which role the document is of
abbrev pub id_of : DelegatedTargets → RoleIdDoc
id_of d = delegated_id (delegated_name d)

-- ---- the documents of roles

-- the role's document by itself, with its file
abbrev pub IsStandingOf : RoleTree → SignedRole DelegatedTargets → Type 0
IsStandingOf (e, None) s = ⊥
IsStandingOf (e, Some h) s = IsStanding e h s

-- the role has no document, or that has no text as a file
abbrev pub IsUnstanding : RoleTree → EditError → Type 0
IsUnstanding (e, None) error = error ≡ errors.NoTargets
IsUnstanding (e, Some h) error = IsUnfiledAlone e h error

-- one of the roles has no document, or that has no text; or memory was wanting
abbrev pub SomeUnstanding : List RoleTree → EditError → Type 0
SomeUnstanding rs error = (error ≡ errors.Memory) ⊎ Any (λ r. IsUnstanding r error) rs

module _ {S : Type 0} (key_of : S → KeyDoc) where
  -- The document that the editor builds, signed for the holder.
  pub record IsCreatedFor (signs : S → List ℕ → List ℕ → Type 0) (e : EditsDoc) (holder : HolderDoc) (signers : List S) (s : Signed DelegatedTargets) : Type 0 where
    pub built : IsBuilt e s.signed
    pub signed : IsSignedFor json_of types.DelegatedTargets key_of signs holder (id_of s.signed) signers s

  -- The same, for who holds its keys.
  pub record IsCreated (signs : S → List ℕ → List ℕ → Type 0) (e : EditsDoc) (signers : List S) (s : Signed DelegatedTargets) : Type 0 where
    pub holder : HolderDoc
    pub held : IsHeldBy e (map key_of signers) holder
    pub created : IsCreatedFor signs e holder signers s

  -- The document that the editor builds isn't signed for the holder.
  pub record IsDocumentUnsigned (fails : S → List ℕ → Type 0) (e : EditsDoc) (holder : HolderDoc) (signers : List S) (error : EditError) : Type 0 where
    pub document : DelegatedTargets
    pub built : IsBuilt e document
    pub unsigned : IsUnsigned json_of key_of fails holder signers (id_of document) types.DelegatedTargets document error

  -- A field isn't set, or the document isn't signed for the holder.
  abbrev pub IsUncreatedFor : (S → List ℕ → Type 0) → EditsDoc → HolderDoc → List S → EditError → Type 0
  IsUncreatedFor fails e holder signers error = IsIncomplete e error ⊎ IsDocumentUnsigned fails e holder signers error

  -- There is no holder, and the signers' keys make none; or it isn't created for who holds its keys; or memory was wanting.
  abbrev pub IsUncreated : (S → List ℕ → Type 0) → EditsDoc → List S → EditError → Type 0
  IsUncreated fails e signers error = ((e.holder ≡ None) × IsKeyless key_of fails signers error) ⊎ ((holder : HolderDoc) × IsHeldBy e (map key_of signers) holder × IsUncreatedFor fails e holder signers error)

  -- The document that is created, with its file, and those of the new roles.
  pub record AreSigned (signs : S → List ℕ → List ℕ → Type 0) (e : EditsDoc) (signers : List S) (roles : List (SignedRole DelegatedTargets)) : Type 0 where
    pub first : SignedRole DelegatedTargets
    pub rest : List (SignedRole DelegatedTargets)
    pub whole : roles ≡ first ∷ rest
    pub created : IsCreated signs e signers (signed_of first)
    pub file : IsWritten json_of first
    pub standing : AllStanding e.new_roles rest

  -- The document isn't created; or it is, and has no text as a file, or a new role has no document, or that has no text.
  abbrev pub IsSigningRefused : (S → List ℕ → List ℕ → Type 0) → (S → List ℕ → Type 0) → EditsDoc → List S → EditError → Type 0
  IsSigningRefused signs fails e signers error =
      IsUncreated fails e signers error
      ⊎ ((s : Signed DelegatedTargets) × IsCreated signs e signers s × (IsUnfiled json_of types.DelegatedTargets s error ⊎ SomeUnstanding e.new_roles error))
