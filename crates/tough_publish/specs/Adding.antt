-- A role is added to the open editor of a repository: its file is fetched, and it is delegated to as it stands, without verification (TUF
-- specification 1.0, section 4.5).
use Rattle.std.specs.Prelude.{◌≡◌, ◌⊎◌, ℕ, List, true, is_some, Option, Some, None, Result, Ok, Err, Vec}
use Rattle.std.specs.declared.alloc.Global.{Global}
use Rattle.std.specs.Borrow.{MutBor}
use Rattle.std.specs.Map.{keys_of}
use Rattle.futures.specs.Runs.{Runs}
use Rattle.url.specs.Parts.{Parts}
use Rattle.tough_net.specs.declared.collect.Collect.{Collect}
use Rattle.tough_net.specs.declared.error.TransportError.{TransportError}
use Rattle.tough_net.specs.Items.{Item}
use Rattle.tough_roles.specs.declared.signed.Signed.{Signed}
use Rattle.tough_schema.specs.Whole.{tree_doc}
use Rattle.tough_schema.specs.declared.targets.Targets.{Targets}
use Rattle.tough_sign.specs.Making.{Known}
use Rattle.tough_edit.specs.Edits.{EditsDoc}
use Rattle.tough_edit.specs.Roles.{delegated_to, with_role}
use Rattle.tough_error.specs.declared.error.Error.{Error}
use Rattle.tough_error.specs.declared.error.Error.TheVariants as wide
use Rattle.tough_editor.specs.Adding.{RoleDoc, signing_keys, role_doc}
use Rattle.tough_editor.specs.Editors.{EditorDoc}
use Rattle.tough_editor.specs.Fetched.{held_as}
use Rattle.tough_release.specs.Edits.{ReleaseDoc, at_editor}
use Rattle.tough_publish.specs.Fetching.{IsAble, IsUnable, IsUnfetchable, Fetches, Reads}
use Rattle.tough_publish.specs.declared.add_role.AddRole.{AddRole}
use Rattle.tough_publish.specs.declared.repository.RepositoryEditor.{RepositoryEditor}

-- the open editor delegates to the document
pub record Delegates (a : RoleDoc) (s : Signed Targets) (old new : ReleaseDoc) : Type 0 where
  pub keys : Known
  pub found : signing_keys a.keys (tree_doc s.signed) ≡ Some keys
  pub edits : new ≡ at_editor (with_role keys (delegated_to (held_as a.name s) a.paths a.terminating (keys_of keys) a.threshold)) old

-- no keys are given, and the document delegates to no role; or the open editor has no delegations
abbrev pub IsKeyless : RoleDoc → Signed Targets → ReleaseDoc → Type 0
IsKeyless a s e = (signing_keys a.keys (tree_doc s.signed) ≡ None) ⊎ ((editor : EditsDoc) × (e.editor ≡ Some editor) × (editor.keys ≡ None))

-- why it doesn't; want of memory says nothing
abbrev pub IsUndelegated : RoleDoc → Signed Targets → ReleaseDoc → Error → Type 0
IsUndelegated a s e w = (w ≡ wide.Memory) ⊎ (((w ≡ wide.NoDelegations) × IsKeyless a s e) ⊎ ((w ≡ wide.NoTargets) × (e.editor ≡ None)))

-- how it ends, by what the fetch gave
abbrev pub Ends : RoleDoc → Result (Signed Targets) Error → ReleaseDoc → ReleaseDoc → Result (Unit {0}) Error → Type 0
Ends a (Ok s) old new (Ok u) = Delegates a s old new
Ends a (Ok s) old new (Err w) = (new ≡ old) × IsUndelegated a s old w
Ends a (Err e) old new (Ok u) = ⊥
Ends a (Err e) old new (Err w) = (new ≡ old) × (w ≡ e)

abbrev pub EndsBy : RoleDoc → Result (Vec ℕ Global) TransportError → ReleaseDoc → ReleaseDoc → Result (Unit {0}) Error → Type 0
EndsBy a outcome old new result = (read : Result (Signed Targets) Error) × Reads outcome read × Ends a read old new result

module _ {T : Type 0} where
  -- there are no limits, or no transport, or no editor is open
  abbrev pub IsUnready : EditorDoc ReleaseDoc T → Error → Type 0
  IsUnready e w = IsUnable e w ⊎ (IsAble e × (w ≡ wide.NoTargets) × (e.edits.editor ≡ None))

module _ {T S : Type 0} (refuses : T → Parts → TransportError → Type 0) (serves : T → Parts → Runs Item) (yields : S → Runs Item) where
  -- the fetch can't begin
  abbrev pub IsUnbegun : EditorDoc ReleaseDoc T → List ℕ → List ℕ → Error → Type 0
  IsUnbegun e text name w = IsUnready e w ⊎ ((is_some e.edits.editor ≡ true) × IsUnfetchable refuses serves yields e text name w)

  -- what comes of the fetch of the role's document
  abbrev pub Follows : Option (Collect S) → EditorDoc ReleaseDoc T → List ℕ → RoleDoc → ReleaseDoc → Result (Unit {0}) Error → Type 0
  Follows o e text a new result = (read : Result (Signed Targets) Error) × Fetches refuses serves yields o e text a.name read × Ends a read e.edits new result

  -- what comes of adding the role: from its start, or once its fetch has begun
  abbrev pub Adds : Option (Collect S) → EditorDoc ReleaseDoc T → List ℕ → RoleDoc → ReleaseDoc → Result (Unit {0}) Error → Type 0
  Adds None e text a new result = ((w : Error) × (result ≡ Err w) × (new ≡ e.edits) × IsUnready e w) ⊎ ((is_some e.edits.editor ≡ true) × Follows None e text a new result)
  Adds (Some f) e text a new result = Follows (Some f) e text a new result

-- ---- what the future holds

module _ {T S : Type 0} where
  abbrev pub editor_in : AddRole T S → MutBor (RepositoryEditor T)
  editor_in f = f.editor

  abbrev pub url_in : AddRole T S → List ℕ
  url_in f = f.url.now

  abbrev pub role_in : AddRole T S → RoleDoc
  role_in f = role_doc f.role

  abbrev pub fetch_in : AddRole T S → Option (Collect S)
  fetch_in f = f.fetch
