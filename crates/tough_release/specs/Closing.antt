-- The open editor of a repository's targets is signed and closed, and one over another document is opened (TUF specification 1.0, sections 4.2
-- and 4.5).
use Rattle.std.specs.Prelude.{◌≡◌, ⊤, ℕ, List, true, false, is_some, Option, Some, None, ◌⊎◌, String, string_bytes}
use Rattle.std.specs.declared.alloc.Global.{Global}
use Rattle.tough_keys.specs.Key.{KeyDoc}
use Rattle.tough_roles.specs.Root.{RootDoc}
use Rattle.tough_roles.specs.Signature.{SignedDoc}
use Rattle.tough_roles.specs.declared.error.Error.{Error}
use Rattle.tough_roles.specs.declared.error.Error.TheVariants as faults
use Rattle.tough_roles.specs.declared.signed.Signed.{Signed}
use Rattle.tough_schema.specs.Put.{is_role, with_document}
use Rattle.tough_schema.specs.Seek.{sought, document_of, parent, IsUnsought, IsUnheld, IsOrphan}
use Rattle.tough_schema.specs.Whole.{TreeDoc, DelegationsTree, HeldDoc, held_doc}
use Rattle.tough_schema.specs.declared.targets.DelegatedTargets.{DelegatedTargets}
use Rattle.tough_signed.specs.Holders.{HolderDoc, by_root, by_delegations}
use Rattle.tough_signed.specs.declared.error.EditError.{EditError}
use Rattle.tough_signed.specs.declared.error.EditError.TheVariants as errors
use Rattle.tough_edit.specs.Edits.{EditsDoc, opened}
use Rattle.tough_edit.specs.Signed.{IsCreatedFor, IsUncreatedFor}
use Rattle.tough_release.specs.Edits.{ReleaseDoc}
use Rattle.tough_release.specs.Holding.{is_top, delegations_top, holder_in}

-- want of memory isn't told as another fault
abbrev pub IsNoMemory : Error → Type 0
IsNoMemory faults.Memory = ⊥
IsNoMemory _ = ⊤

-- the role's document is missing, for a cause that isn't want of memory
abbrev pub IsMissing : List ℕ → (Error → Type 0) → EditError → Type 0
IsMissing name cause (errors.DelegateMissing missing source) = (string_bytes missing ≡ name) × IsNoMemory source × cause source
IsMissing name cause errors.Memory = ⊤
IsMissing name cause _ = ⊥

-- the error for a role whose document isn't there
abbrev pub missing : String Global → Error → EditError
missing name faults.Memory = errors.Memory
missing name source = errors.DelegateMissing name source

-- ---- a document takes its place

-- the document and its signatures, without its name
abbrev pub unnamed : HeldDoc → SignedDoc TreeDoc
unnamed h = record { role = h.below; signatures = h.signatures }

abbrev pub with_role_document : HeldDoc → SignedDoc TreeDoc → SignedDoc TreeDoc
with_role_document h s = record s { role = with_document h.name h s.role }

-- the document becomes the targets, or that of the role of its name, which is there
abbrev pub IsPlaced : HeldDoc → Option (SignedDoc TreeDoc) → SignedDoc TreeDoc → Type 0
IsPlaced h old new =
    ((is_top h.name ≡ true) × (new ≡ unnamed h))
    ⊎ ((is_top h.name ≡ false) × (s : SignedDoc TreeDoc) × (old ≡ Some s) × (is_role (sought h.name s.role) ≡ true) × (new ≡ with_role_document h s))

-- the targets are there then
abbrev pub Places : HeldDoc → Option (SignedDoc TreeDoc) → Option (SignedDoc TreeDoc) → Type 0
Places h old new = (s : SignedDoc TreeDoc) × (new ≡ Some s) × IsPlaced h old s

-- the document is of a role below the targets, and there are none, or they have no such role
abbrev pub IsUnplaced : HeldDoc → Option (SignedDoc TreeDoc) → EditError → Type 0
IsUnplaced h old error =
    (is_top h.name ≡ false)
    × (((error ≡ errors.NoTargets) × (old ≡ None)) ⊎ ((s : SignedDoc TreeDoc) × (old ≡ Some s) × IsMissing h.name (IsUnsought h.name (sought h.name s.role)) error))

-- ---- the open editor is signed

-- the role isn't the top-level one, and there are no targets, or they have no entry of the name
abbrev pub IsUnheldIn : List ℕ → Option (SignedDoc TreeDoc) → EditError → Type 0
IsUnheldIn name targets error =
    (is_top name ≡ false)
    × (((error ≡ errors.NoTargets) × (targets ≡ None)) ⊎ ((s : SignedDoc TreeDoc) × (targets ≡ Some s) × IsMissing name (IsOrphan name (parent name s.role)) error))

module _ {S : Type 0} (key_of : S → KeyDoc) where
  -- What the editor creates, signed for who holds the keys of its role, takes its place, and the editor is closed; all else is as it was.
  pub record IsPutIn (signs : S → List ℕ → List ℕ → Type 0) (signers : List S) (editor : EditsDoc) (e after : ReleaseDoc) : Type 0 where
    pub holder : HolderDoc
    pub held : holder_in e.root.role e.targets editor.name ≡ Some holder
    pub document : Signed DelegatedTargets
    pub created : IsCreatedFor key_of signs editor holder signers document
    pub targets : SignedDoc TreeDoc
    pub placed : IsPlaced (held_doc document) e.targets targets
    pub closed : after ≡ record e { targets = Some targets; editor = None }

  -- The open editor, if any, is signed and closed.
  abbrev pub IsClosed : (S → List ℕ → List ℕ → Type 0) → List S → ReleaseDoc → ReleaseDoc → Type 0
  IsClosed signs signers e after = ((e.editor ≡ None) × (after ≡ e)) ⊎ ((editor : EditsDoc) × (e.editor ≡ Some editor) × IsPutIn signs signers editor e after)

  -- The editor's document is created for who holds the keys of its role.
  pub record IsCreatedIn (signs : S → List ℕ → List ℕ → Type 0) (signers : List S) (editor : EditsDoc) (root : RootDoc) (targets : Option (SignedDoc TreeDoc)) (d : Signed DelegatedTargets) : Type 0 where
    pub holder : HolderDoc
    pub held : holder_in root targets editor.name ≡ Some holder
    pub created : IsCreatedFor key_of signs editor holder signers d

  -- Nobody holds those keys, or the editor creates no document for who does; or memory was wanting.
  abbrev pub IsUncreatedIn : (S → List ℕ → Type 0) → List S → EditsDoc → RootDoc → Option (SignedDoc TreeDoc) → EditError → Type 0
  IsUncreatedIn fails signers editor root targets error =
      (error ≡ errors.Memory)
      ⊎ (IsUnheldIn editor.name targets error ⊎ ((holder : HolderDoc) × (holder_in root targets editor.name ≡ Some holder) × IsUncreatedFor key_of fails editor holder signers error))

  -- What the editor creates has no place.
  pub record IsUnput (signs : S → List ℕ → List ℕ → Type 0) (signers : List S) (editor : EditsDoc) (holder : HolderDoc) (e : ReleaseDoc) (error : EditError) : Type 0 where
    pub document : Signed DelegatedTargets
    pub created : IsCreatedFor key_of signs editor holder signers document
    pub unplaced : IsUnplaced (held_doc document) e.targets error

  -- The editor creates no document for who holds the keys of its role, or that has no place.
  pub record IsUnsignedIn (signs : S → List ℕ → List ℕ → Type 0) (fails : S → List ℕ → Type 0) (signers : List S) (editor : EditsDoc) (e : ReleaseDoc) (error : EditError) : Type 0 where
    pub holder : HolderDoc
    pub held : holder_in e.root.role e.targets editor.name ≡ Some holder
    pub refused : IsUncreatedFor key_of fails editor holder signers error ⊎ IsUnput signs signers editor holder e error

  -- Nobody holds the keys of the open editor's role, or its document isn't signed, or has no place; or memory was wanting.
  abbrev pub IsUnclosed : (S → List ℕ → List ℕ → Type 0) → (S → List ℕ → Type 0) → List S → ReleaseDoc → EditError → Type 0
  IsUnclosed signs fails signers e error =
      (error ≡ errors.Memory)
      ⊎ ((editor : EditsDoc) × (e.editor ≡ Some editor) × (IsUnheldIn editor.name e.targets error ⊎ IsUnsignedIn signs fails signers editor e error))

-- ---- another document is put in place

-- the document takes its place, and no editor is open; all else is as it was
pub record IsReplaced (h : HeldDoc) (e after : ReleaseDoc) : Type 0 where
  pub targets : SignedDoc TreeDoc
  pub placed : IsPlaced h e.targets targets
  pub closed : after ≡ record e { targets = Some targets; editor = None }

-- ---- an editor over another document

abbrev pub with_editor : EditsDoc → ReleaseDoc → ReleaseDoc
with_editor editor e = record e { editor = Some editor }

-- an editor over the document of a role below the targets, which the keys of its parent's delegations sign
pub record IsEditorBelow (name : List ℕ) (t : TreeDoc) (editor : EditsDoc) : Type 0 where
  pub delegations : DelegationsTree
  pub under : parent name t ≡ Some delegations
  pub document : HeldDoc
  pub held : document_of (sought name t) ≡ Some document
  pub over : editor ≡ opened name (Some (by_delegations (delegations_top delegations))) document.below

-- an editor over the role's document, or over the targets, which the root's keys sign
abbrev pub IsEditorOf : List ℕ → RootDoc → TreeDoc → EditsDoc → Type 0
IsEditorOf name root t editor = ((is_top name ≡ true) × (editor ≡ opened name (Some (by_root root)) t)) ⊎ ((is_top name ≡ false) × IsEditorBelow name t editor)

-- no editor was open, and this one is now
pub record IsChanged (name : List ℕ) (e after : ReleaseDoc) : Type 0 where
  pub none : e.editor ≡ None
  pub targets : SignedDoc TreeDoc
  pub there : e.targets ≡ Some targets
  pub editor : EditsDoc
  pub over : IsEditorOf name e.root.role targets.role editor
  pub change : after ≡ with_editor editor e

-- no entry has the name, or there is no document of it
abbrev pub IsLost : List ℕ → TreeDoc → Error → Type 0
IsLost name t source = IsOrphan name (parent name t) source ⊎ ((is_some (parent name t) ≡ true) × IsUnheld name (sought name t) source)

-- an editor is open; or there are no targets; or they have no such role, or that has no document
abbrev pub IsUnchangeable : List ℕ → ReleaseDoc → EditError → Type 0
IsUnchangeable name e error =
    (error ≡ errors.Memory)
    ⊎ (((error ≡ errors.TargetsEditorSome) × (is_some e.editor ≡ true))
    ⊎ ((e.editor ≡ None)
    × (((error ≡ errors.NoTargets) × (e.targets ≡ None)) ⊎ ((s : SignedDoc TreeDoc) × (e.targets ≡ Some s) × (is_top name ≡ false) × IsMissing name (IsLost name s.role) error))))
