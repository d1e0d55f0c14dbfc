-- The files of targets and of the documents below them (TUF specification 1.0, section 4.5).
use Rattle.std.specs.Prelude.{◌≡◌, List, [], ◌∷◌, ◌++◌, Option, Some, None, ◌⊎◌}
use Rattle.std.specs.List.{Any}
use Rattle.serde_json.specs.Data.{Data}
use Rattle.serde_json.specs.Read.{max_depth}
use Rattle.tough_roles.specs.Document.{document_json}
use Rattle.tough_roles.specs.Readable.{NestsWithin, IsTextOf}
use Rattle.tough_roles.specs.Signature.{SignedDoc, signed_doc}
use Rattle.tough_roles.specs.declared.role_type.RoleType.TheVariants as types
use Rattle.tough_roles.specs.declared.signed.Signed.{Signed}
use Rattle.tough_schema.specs.Entries.{entries}
use Rattle.tough_schema.specs.Targets.{targets_doc, targets_at, targets_json, KeysAreOwn}
use Rattle.tough_schema.specs.Whole.{TreeDoc, tree_doc, RoleTree}
use Rattle.tough_schema.specs.declared.targets.DelegatedTargets.{DelegatedTargets}
use Rattle.tough_schema.specs.declared.targets.Targets.{Targets}
use Rattle.tough_signed.specs.Refusals.{IsUnfiled}
use Rattle.tough_signed.specs.Roles.{signed_of, buffer_of, IsWritten}
use Rattle.tough_signed.specs.Standing.{IsStanding, AreStanding, IsUnfiledAlone}
use Rattle.tough_signed.specs.declared.error.EditError.{EditError}
use Rattle.tough_signed.specs.declared.error.EditError.TheVariants as errors
use Rattle.tough_signed.specs.declared.signed_role.SignedRole.{SignedRole}

-- the file is the document's pretty text with one newline, which is read as the document where it nests no deeper than is read
pub record IsFile {T : Type 0} (json : T → Option Data) (is_read : Data → T → Type 0) (is_kept : T → Type 0) (r : SignedRole T) : Type 0 where
  pub written : IsWritten json r
  pub back : is_kept (signed_of r).signed → NestsWithin max_depth (document_json json (signed_of r)) → IsTextOf is_read (signed_of r) (buffer_of r)

-- the JSON of targets
abbrev pub json_of_targets : Targets → Option Data
json_of_targets x = targets_json (targets_doc x)

abbrev pub IsTargetsFile : SignedRole Targets → Type 0
IsTargetsFile r = IsFile json_of_targets (λ d x. targets_at d ≡ Some (targets_doc x)) (λ x. KeysAreOwn (targets_doc x).delegations) r

-- the targets with their file, and after them each document of a role, in preorder, by itself
pub record AreFiled (s : SignedDoc TreeDoc) (t : SignedRole Targets) (ds : List (SignedRole DelegatedTargets)) : Type 0 where
  pub targets : signed_doc tree_doc (signed_of t) ≡ s
  pub file : IsTargetsFile t
  pub delegated : AreStanding (entries s.role) ds

-- ---- the refusals

-- the role has a document, which has no text by itself
abbrev pub IsUnfiledOf : RoleTree → EditError → Type 0
IsUnfiledOf (e, None) error = ⊥
IsUnfiledOf (e, Some h) error = IsUnfiledAlone e h error

-- so has one of the roles; or memory was wanting
abbrev pub SomeUnfiled : List RoleTree → EditError → Type 0
SomeUnfiled rs error = (error ≡ errors.Memory) ⊎ Any (λ r. IsUnfiledOf r error) rs

-- the targets have no text, or a document below them has none
abbrev pub IsUnfiledTree : SignedDoc TreeDoc → EditError → Type 0
IsUnfiledTree s error = ((d : Signed Targets) × (signed_doc tree_doc d ≡ s) × IsUnfiled json_of_targets types.Targets d error) ⊎ SomeUnfiled (entries s.role) error

-- ---- words of private clauses

-- the role's document is added by itself, if it has one
abbrev pub IsPutAfter : RoleTree → List (SignedRole DelegatedTargets) → List (SignedRole DelegatedTargets) → Type 0
IsPutAfter (e, None) old new = new ≡ old
IsPutAfter (e, Some h) old new = (s : SignedRole DelegatedTargets) × IsStanding e h s × (new ≡ old ++ s ∷ [])
