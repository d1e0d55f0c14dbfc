-- A role's document, fetched by the editor's transport and under its limits (TUF specification 1.0, sections 4.5 and 5.6.2).
use Rattle.std.specs.Prelude.{◌≡◌, ◌⊎◌, ℕ, List, [], true, is_some, Option, Some, None, Result, Ok, Err, Vec}
use Rattle.std.specs.declared.alloc.Global.{Global}
use Rattle.futures.specs.Runs.{Runs}
use Rattle.url.specs.Parts.{Parts}
use Rattle.tough_net.specs.declared.collect.Collect.{Collect}
use Rattle.tough_net.specs.declared.error.TransportError.{TransportError}
use Rattle.tough_net.specs.declared.limits.Limits.{Limits}
use Rattle.tough_net.specs.Collecting.{Collects, collected, bounds_of, held_by}
use Rattle.tough_net.specs.Items.{Item}
use Rattle.tough_roles.specs.declared.signed.Signed.{Signed}
use Rattle.tough_schema.specs.declared.targets.Targets.{Targets}
use Rattle.tough_error.specs.declared.error.Error.{Error}
use Rattle.tough_error.specs.declared.error.Error.TheVariants as wide
use Rattle.tough_editor.specs.Editors.{EditorDoc}
use Rattle.tough_editor.specs.Fetched.{IsRoleUrl, IsBegun, IsUnbegun, IsDocument, IsNoDocument, IsFault, bounds_at}
use Rattle.tough_release.specs.Edits.{ReleaseDoc}

-- the document that was fetched, or why there is none
abbrev pub Reads : Result (Vec ℕ Global) TransportError → Result (Signed Targets) Error → Type 0
Reads (Ok bytes) (Ok s) = IsDocument bytes.items s
Reads (Ok bytes) (Err w) = IsNoDocument bytes.items w
Reads (Err e) (Ok s) = ⊥
Reads (Err e) (Err w) = IsFault e w

module _ {T : Type 0} where
  -- the editor has limits and a transport
  abbrev pub IsAble : EditorDoc ReleaseDoc T → Type 0
  IsAble e = (is_some e.limits ≡ true) × (is_some e.transport ≡ true)

  -- it has none
  abbrev pub IsUnable : EditorDoc ReleaseDoc T → Error → Type 0
  IsUnable e w = ((w ≡ wide.MissingLimits) × (e.limits ≡ None)) ⊎ ((w ≡ wide.MissingTransport) × (is_some e.limits ≡ true) × (e.transport ≡ None))

module _ {T S : Type 0} (refuses : T → Parts → TransportError → Type 0) (serves : T → Parts → Runs Item) (yields : S → Runs Item) where
  -- the fetch of the role's file has begun
  pub record Begins (e : EditorDoc ReleaseDoc T) (text name : List ℕ) (f : Collect S) : Type 0 where
    pub limits : Limits
    pub limited : e.limits ≡ Some limits
    pub transport : T
    pub fetching : e.transport ≡ Some transport
    pub begun : IsBegun refuses serves yields transport limits text name f

  -- it can't begin
  abbrev pub IsUnfetchable : EditorDoc ReleaseDoc T → List ℕ → List ℕ → Error → Type 0
  IsUnfetchable e text name w = IsUnable e w ⊎ ((t : T) × (is_some e.limits ≡ true) × (e.transport ≡ Some t) × IsUnbegun refuses serves yields t text name w)

  -- what the transport serves at the URL of the role's file was collected, or cut off, and read
  pub record IsFetched (e : EditorDoc ReleaseDoc T) (text name : List ℕ) (result : Result (Signed Targets) Error) : Type 0 where
    pub limits : Limits
    pub limited : e.limits ≡ Some limits
    pub transport : T
    pub fetching : e.transport ≡ Some transport
    pub url : Parts
    pub at : IsRoleUrl text name url
    pub outcome : Result (Vec ℕ Global) TransportError
    pub came : Collects (bounds_at limits url) (serves transport url) [] outcome
    pub read : Reads outcome result

  -- what fetching the role's document comes to: from its start, or once the fetch has begun
  abbrev pub Fetches : Option (Collect S) → EditorDoc ReleaseDoc T → List ℕ → List ℕ → Result (Signed Targets) Error → Type 0
  Fetches None e text name (Ok s) = IsFetched e text name (Ok s)
  Fetches None e text name (Err w) = IsUnfetchable e text name w ⊎ IsFetched e text name (Err w)
  Fetches (Some f) e text name r = (outcome : Result (Vec ℕ Global) TransportError) × Collects (bounds_of f) (yields (collected f)) (held_by f) outcome × Reads outcome r
