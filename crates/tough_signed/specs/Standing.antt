-- Documents of delegated roles by themselves (TUF specification 1.0, section 4.5).
use Rattle.std.specs.Prelude.{◌≡◌, ⊤, Bool, List, [], ◌∷◌, Option, Some, None, ◌⊎◌}
use Rattle.serde_json.specs.Data.{Data}
use Rattle.serde_json.specs.Read.{max_depth}
use Rattle.tough_roles.specs.Document.{document_json}
use Rattle.tough_roles.specs.Readable.{NestsWithin, IsTextOf}
use Rattle.tough_roles.specs.Signature.{signatures_doc}
use Rattle.tough_roles.specs.declared.signed.Signed.{Signed}
use Rattle.tough_schema.specs.Fresh.{IsUnloaded}
use Rattle.tough_schema.specs.Targets.{targets_at, targets_json, delegated_doc, delegated_name, KeysAreOwn}
use Rattle.tough_schema.specs.Tree.{Entry}
use Rattle.tough_schema.specs.Whole.{HeldDoc, RoleTree, top_doc, named_tree}
use Rattle.tough_schema.specs.declared.targets.DelegatedTargets.{DelegatedTargets}
use Rattle.tough_roles.specs.declared.role_type.RoleType.TheVariants as types
use Rattle.tough_signed.specs.Refusals.{IsUnfiled}
use Rattle.tough_signed.specs.declared.error.EditError.{EditError}
use Rattle.tough_signed.specs.declared.error.EditError.TheVariants as errors
use Rattle.tough_signed.specs.Roles.{signed_of, buffer_of, IsWritten}
use Rattle.tough_signed.specs.declared.signed_roles.SignedDelegatedTargets.{SignedDelegatedTargets}
use Rattle.tough_signed.specs.declared.signed_role.SignedRole.{SignedRole}

-- the role's JSON
abbrev pub json_of : DelegatedTargets → Option Data
json_of d = targets_json (delegated_doc d)

-- the JSON is read as the role's document
abbrev pub is_read_as : Data → DelegatedTargets → Type 0
is_read_as d x = targets_at d ≡ Some (delegated_doc x)

-- the document under the role's name, with its signatures, and without the documents below it
pub record IsAlone (e : Entry) (h : HeldDoc) (s : Signed DelegatedTargets) : Type 0 where
  pub name : delegated_name s.signed ≡ e.name
  pub document : delegated_doc s.signed ≡ top_doc h.below
  pub signatures : signatures_doc s.signatures.items ≡ h.signatures
  pub bare : IsUnloaded (named_tree s.signed).1

-- the same, with its file, which is read as the document where it nests no deeper than is read, and each key stands under its own identifier
pub record IsStanding (e : Entry) (h : HeldDoc) (r : SignedRole DelegatedTargets) : Type 0 where
  pub alone : IsAlone e h (signed_of r)
  pub file : IsWritten json_of r
  pub back : KeysAreOwn (delegated_doc (signed_of r).signed).delegations → NestsWithin max_depth (document_json json_of (signed_of r)) → IsTextOf is_read_as (signed_of r) (buffer_of r)

-- the document by itself has no text as a file; or memory was wanting
abbrev pub IsUnfiledAlone : Entry → HeldDoc → EditError → Type 0
IsUnfiledAlone e h error = (error ≡ errors.Memory) ⊎ ((s : Signed DelegatedTargets) × IsAlone e h s × IsUnfiled json_of types.DelegatedTargets s error)

-- one for each of the roles that has a document, in their order
abbrev pub AreStanding : List RoleTree → List (SignedRole DelegatedTargets) → Type 0
AreStanding [] [] = ⊤
AreStanding [] (s ∷ ss) = ⊥
AreStanding ((e, None) ∷ rs) ss = AreStanding rs ss
AreStanding ((e, Some h) ∷ rs) [] = ⊥
AreStanding ((e, Some h) ∷ rs) (s ∷ ss) = IsStanding e h s × AreStanding rs ss

-- the same, where each of the roles has one
abbrev pub AllStanding : List RoleTree → List (SignedRole DelegatedTargets) → Type 0
AllStanding [] [] = ⊤
AllStanding [] (s ∷ ss) = ⊥
AllStanding ((e, None) ∷ rs) ss = ⊥
AllStanding ((e, Some h) ∷ rs) [] = ⊥
AllStanding ((e, Some h) ∷ rs) (s ∷ ss) = IsStanding e h s × AllStanding rs ss

-- ---- the documents of several roles

abbrev pub roles_of : SignedDelegatedTargets → List (SignedRole DelegatedTargets)
roles_of s = s.roles.items

abbrev pub is_consistent : SignedDelegatedTargets → Bool
is_consistent s = s.consistent_snapshot
