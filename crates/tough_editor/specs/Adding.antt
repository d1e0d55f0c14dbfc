-- A role is added to an editor: its file is fetched, and it is delegated to as it stands, without verification (TUF specification 1.0, section 4.5).
use Rattle.std.specs.Prelude.{◌≡◌, ◌⊎◌, ℕ, Bool, List, [], Option, Some, None, Result, Ok, Err, Vec, option_map, true, is_some}
use Rattle.std.specs.declared.alloc.Global.{Global}
use Rattle.std.specs.Int.NonZero.{non_zero_u64_get}
use Rattle.std.specs.Borrow.{MutBor}
use Rattle.std.specs.Map.{keys_of}
use Rattle.futures.specs.Runs.{Runs}
use Rattle.url.specs.Parts.{Parts}
use Rattle.tough_net.specs.declared.collect.Collect.{Collect}
use Rattle.tough_net.specs.declared.error.TransportError.{TransportError}
use Rattle.tough_net.specs.declared.limits.Limits.{Limits}
use Rattle.tough_net.specs.Collecting.{Collects, collected, bounds_of, held_by}
use Rattle.tough_net.specs.Items.{Item}
use Rattle.tough_roles.specs.Root.{keys_doc}
use Rattle.tough_roles.specs.declared.signed.Signed.{Signed}
use Rattle.tough_schema.specs.Paths.{PathsDoc, paths_doc}
use Rattle.tough_schema.specs.Whole.{TreeDoc, tree, tree_doc}
use Rattle.tough_schema.specs.declared.targets.Targets.{Targets}
use Rattle.tough_sign.specs.Making.{Known}
use Rattle.tough_edit.specs.Edits.{EditsDoc}
use Rattle.tough_edit.specs.Roles.{delegated_to, with_role}
use Rattle.tough_error.specs.declared.error.Error.{Error}
use Rattle.tough_error.specs.declared.error.Error.TheVariants as wide
use Rattle.tough_editor.specs.declared.add_role.AddRole.{AddRole}
use Rattle.tough_editor.specs.declared.add_role.NewRole.{NewRole}
use Rattle.tough_editor.specs.declared.targets.TargetsEditor.{TargetsEditor}
use Rattle.tough_editor.specs.Editors.{EditorDoc}
use Rattle.tough_editor.specs.Fetched.{IsRoleUrl, IsBegun, IsUnbegun, IsDocument, IsNoDocument, IsFault, bounds_at, held_as}

-- the role that is added: under the keys that are given, or else under those of its own delegations
pub record RoleDoc : Type 0 where
  pub name : List ℕ
  pub paths : PathsDoc
  pub terminating : Bool
  pub threshold : ℕ
  pub keys : Option Known

-- the keys that are to sign it: those that are given, or else those of its own delegations
abbrev pub signing_keys : Option Known → TreeDoc → Option Known
signing_keys (Some keys) t = Some keys
signing_keys None (tree o bs) = o.keys

-- the document is delegated to
pub record Delegates (a : RoleDoc) (s : Signed Targets) (old new : EditsDoc) : Type 0 where
  pub keys : Known
  pub found : signing_keys a.keys (tree_doc s.signed) ≡ Some keys
  pub edits : new ≡ with_role keys (delegated_to (held_as a.name s) a.paths a.terminating (keys_of keys) a.threshold) old

-- no keys are given, and the document delegates to no role; or the editor has no delegations; or memory was wanting
abbrev pub IsKeyless : RoleDoc → Signed Targets → EditsDoc → Error → Type 0
IsKeyless a s e w = (w ≡ wide.Memory) ⊎ ((w ≡ wide.NoDelegations) × ((signing_keys a.keys (tree_doc s.signed) ≡ None) ⊎ (e.keys ≡ None)))

-- how it ends, by what the fetch gave
abbrev pub Ends : RoleDoc → Result (Vec ℕ Global) TransportError → EditsDoc → EditsDoc → Result (Unit {0}) Error → Type 0
Ends a (Ok bytes) old new (Ok u) = (s : Signed Targets) × IsDocument bytes.items s × Delegates a s old new
Ends a (Ok bytes) old new (Err w) = (new ≡ old) × (IsNoDocument bytes.items w ⊎ ((s : Signed Targets) × IsDocument bytes.items s × IsKeyless a s old w))
Ends a (Err e) old new (Ok u) = ⊥
Ends a (Err e) old new (Err w) = (new ≡ old) × IsFault e w

module _ {T S : Type 0} (refuses : T → Parts → TransportError → Type 0) (serves : T → Parts → Runs Item) (yields : S → Runs Item) where
  -- the editor has limits and a transport, and the fetch has begun
  abbrev pub Begins : EditorDoc EditsDoc T → List ℕ → List ℕ → Collect S → Type 0
  Begins e text name f = (limits : Limits) × (t : T) × (e.limits ≡ Some limits) × (e.transport ≡ Some t) × IsBegun refuses serves yields t limits text name f

  -- it has none, or the fetch can't begin
  abbrev pub IsUnready : EditorDoc EditsDoc T → List ℕ → List ℕ → Error → Type 0
  IsUnready e text name w =
      ((w ≡ wide.MissingLimits) × (e.limits ≡ None))
      ⊎ (((w ≡ wide.MissingTransport) × (is_some e.limits ≡ true) × (e.transport ≡ None))
      ⊎ ((t : T) × (is_some e.limits ≡ true) × (e.transport ≡ Some t) × IsUnbegun refuses serves yields t text name w))

  -- what the transport serves at the role's URL was collected, or cut off, and so it ended
  pub record IsFetched (e : EditorDoc EditsDoc T) (text : List ℕ) (a : RoleDoc) (new : EditsDoc) (result : Result (Unit {0}) Error) : Type 0 where
    pub limits : Limits
    pub limited : e.limits ≡ Some limits
    pub transport : T
    pub fetching : e.transport ≡ Some transport
    pub url : Parts
    pub at : IsRoleUrl text a.name url
    pub outcome : Result (Vec ℕ Global) TransportError
    pub came : Collects (bounds_at limits url) (serves transport url) [] outcome
    pub ended : Ends a outcome e.edits new result

  -- what comes of adding the role: from its start, or once its fetch has begun
  abbrev pub Adds : Option (Collect S) → EditorDoc EditsDoc T → List ℕ → RoleDoc → EditsDoc → Result (Unit {0}) Error → Type 0
  Adds None e text a new result =
      ((w : Error) × (result ≡ Err w) × (new ≡ e.edits) × IsUnready e text a.name w)
      ⊎ IsFetched e text a new result
  Adds (Some f) e text a new result =
      (outcome : Result (Vec ℕ Global) TransportError) × Collects (bounds_of f) (yields (collected f)) (held_by f) outcome × Ends a outcome e.edits new result

-- ---- what the future holds

abbrev pub role_doc : NewRole → RoleDoc
role_doc r = record {
  name = r.name.now;
  paths = paths_doc r.paths;
  terminating = r.terminating;
  threshold = non_zero_u64_get r.threshold;
  keys = option_map (λ m. keys_doc m.entries) r.keys;
}

module _ {T S : Type 0} where
  abbrev pub editor_in : AddRole T S → MutBor (TargetsEditor T)
  editor_in f = f.editor

  abbrev pub url_in : AddRole T S → List ℕ
  url_in f = f.url.now

  abbrev pub role_in : AddRole T S → RoleDoc
  role_in f = role_doc f.role

  abbrev pub fetch_in : AddRole T S → Option (Collect S)
  fetch_in f = f.fetch
