-- Targets and roles that are added to the open editor's document (TUF specification 1.0, section 4.5).
use Rattle.std.specs.Prelude.{◌≡◌, ℕ, ℤ, List, [], ◌∷◌, ◌++◌, map, Bool, true, is_some, IsTrue, Option, Some, Ok, ◌⊎◌}
use Rattle.std.specs.Borrow.{Bor}
use Rattle.tough_decoded.specs.Spelled.{Spelled}
use Rattle.tough_files.specs.Contents.{Node, Contents}
use Rattle.tough_keys.specs.Key.{KeyDoc}
use Rattle.tough_names.specs.Named.{Named}
use Rattle.tough_roles.specs.declared.signed.Signed.{Signed}
use Rattle.tough_schema.specs.FileDigest.{there}
use Rattle.tough_schema.specs.FromPath.{IsTargetOf}
use Rattle.tough_schema.specs.Paths.{PathsDoc}
use Rattle.tough_schema.specs.Target.{TargetDoc, target_doc}
use Rattle.tough_schema.specs.Whole.{held_doc}
use Rattle.tough_schema.specs.declared.target.Target.{Target}
use Rattle.tough_schema.specs.declared.targets.DelegatedTargets.{DelegatedTargets}
use Rattle.tough_signed.specs.declared.error.EditError.{EditError}
use Rattle.tough_edit.specs.Edits.{EditsDoc, fresh, with_target, with_version, with_expiry}
use Rattle.tough_edit.specs.Files.{IsNamed, IsNoTarget}
use Rattle.tough_edit.specs.Keys.{IsUndelegated}
use Rattle.tough_edit.specs.Roles.{delegated_to, with_role}
use Rattle.tough_edit.specs.Signed.{IsCreated, IsUncreated}
use Rattle.tough_edit.specs.Signers.{AreIds, own_keys}
use Rattle.tough_release.specs.Edits.{ReleaseDoc, at_editor, IsUnopened}

-- ---- targets of files

-- the path's target is added under its name
abbrev pub IsAdded : List ℕ → ReleaseDoc → ReleaseDoc → Type 0
IsAdded path e after = (name : Named) × (t : TargetDoc) × IsNamed path name × (is_some e.editor ≡ true) × (after ≡ at_editor (with_target name t) e)

-- the same, of what stands there
abbrev pub IsAddedOf : List ℕ → Option Node → ReleaseDoc → ReleaseDoc → Type 0
IsAddedOf path n e after = (name : Named) × (t : Target) × IsNamed path name × IsTargetOf n (Ok t) × (is_some e.editor ≡ true) × (after ≡ at_editor (with_target name (target_doc t)) e)

-- the path has a target, which no editor takes
abbrev pub IsUntaken : List ℕ → Option Node → ReleaseDoc → EditError → Type 0
IsUntaken path n e error = IsUnopened e error × (name : Named) × (t : Target) × IsNamed path name × IsTargetOf n (Ok t)

-- the file at the path is no target; or no editor takes it
abbrev pub IsUnadded : List ℕ → Option Node → ReleaseDoc → EditError → Type 0
IsUnadded path n e error = IsNoTarget path n error ⊎ IsUntaken path n e error

-- each path's target is added, one after another
abbrev pub AreAdded : List (Bor (List ℕ)) → ReleaseDoc → ReleaseDoc → Type 0
AreAdded [] e after = after ≡ e
AreAdded (p ∷ ps) e after = (next : ReleaseDoc) × IsAdded p.now e next × AreAdded ps next after

-- the first of the paths are added so
abbrev pub SomeAdded : List (Bor (List ℕ)) → ReleaseDoc → ReleaseDoc → Type 0
SomeAdded ps e after = (done rest : List (Bor (List ℕ))) × (ps ≡ done ++ rest) × AreAdded done e after

-- each path's target is added, one after another, of what stands there
abbrev pub AreAddedOf : Contents → List (Bor (List ℕ)) → ReleaseDoc → ReleaseDoc → Type 0
AreAddedOf contents [] e after = after ≡ e
AreAddedOf contents (p ∷ ps) e after = (next : ReleaseDoc) × IsAddedOf p.now (there p.now contents) e next × AreAddedOf contents ps next after

-- the paths before one are added so, and that one's target is not
abbrev pub IsStopped : Contents → List (Bor (List ℕ)) → ReleaseDoc → ReleaseDoc → EditError → Type 0
IsStopped contents ps e after error = (done : List (Bor (List ℕ))) × (p : Bor (List ℕ)) × (rest : List (Bor (List ℕ))) × (ps ≡ done ++ p ∷ rest) × AreAddedOf contents done e after × IsUnadded p.now (there p.now contents) e error

-- the same, whatever they added
abbrev pub AreRefused : Contents → List (Bor (List ℕ)) → ReleaseDoc → EditError → Type 0
AreRefused contents ps e error = (after : ReleaseDoc) × IsStopped contents ps e after error

-- ---- new roles

-- an editor is open, over a document that has delegations
abbrev pub HasDelegations : ReleaseDoc → Type 0
HasDelegations e = (editor : EditsDoc) × (e.editor ≡ Some editor) × IsTrue (is_some editor.keys)

-- no editor is open, or its document has no delegations
abbrev pub IsUndelegating : ReleaseDoc → EditError → Type 0
IsUndelegating e error = IsUnopened e error ⊎ ((editor : EditsDoc) × (e.editor ≡ Some editor) × IsUndelegated editor error)

-- a role that is delegated to, and the version and the expiry of its document
pub record NewRole : Type 0 where
  pub name : List ℕ
  pub paths : PathsDoc
  pub terminating : Bool
  pub threshold : ℕ
  pub expires : ℤ
  pub version : ℕ

-- an editor of a new document, which lists nothing
abbrev pub new_document : List ℕ → ℕ → ℤ → EditsDoc
new_document name version expires = with_expiry expires (with_version version (fresh name))

module _ {S : Type 0} (key_of : S → KeyDoc) where
  -- The role is delegated to the signers' keys, in their order, with a new document that they sign.
  pub record IsDelegated (signs : S → List ℕ → List ℕ → Type 0) (r : NewRole) (signers : List S) (e after : ReleaseDoc) : Type 0 where
    pub document : Signed DelegatedTargets
    pub created : IsCreated key_of signs (new_document r.name r.version r.expires) signers document
    pub ids : List Spelled
    pub own : AreIds (map key_of signers) ids
    pub there : HasDelegations e
    pub added : after ≡ at_editor (with_role (own_keys [] (map key_of signers)) (delegated_to (held_doc document) r.paths r.terminating ids r.threshold)) e

  -- Its document is created, and no editor is open, or that has no delegations.
  pub record IsUnaccepted (signs : S → List ℕ → List ℕ → Type 0) (r : NewRole) (signers : List S) (e : ReleaseDoc) (error : EditError) : Type 0 where
    pub document : Signed DelegatedTargets
    pub created : IsCreated key_of signs (new_document r.name r.version r.expires) signers document
    pub refused : IsUndelegating e error

  -- Its document isn't created, or no editor takes it.
  abbrev pub IsUndelegatable : (S → List ℕ → List ℕ → Type 0) → (S → List ℕ → Type 0) → NewRole → List S → ReleaseDoc → EditError → Type 0
  IsUndelegatable signs fails r signers e error = IsUncreated key_of fails (new_document r.name r.version r.expires) signers error ⊎ IsUnaccepted signs r signers e error
