-- A role's document is fetched anew, verified and put in its place, with the documents of its new roles (TUF specification 1.0, sections 4.5 and
-- 5.6).
use Rattle.std.specs.Prelude.{◌≡◌, ◌⊎◌, ⊤, ℕ, true, List, [], ◌∷◌, map, is_some, Option, Some, None, option_map, Result, Ok, Err, Vec, IfSome, String, string_bytes}
use Rattle.std.specs.declared.alloc.Global.{Global}
use Rattle.std.specs.Borrow.{MutBor}
use Rattle.std.specs.Vec.Iter.{into_iter_items}
use Rattle.std.specs.declared.vec.IntoIter.{IntoIter}
use Rattle.futures.specs.Runs.{Runs}
use Rattle.url.specs.Parts.{Parts}
use Rattle.tough_keys.specs.Same.{Verifies}
use Rattle.tough_net.specs.declared.collect.Collect.{Collect}
use Rattle.tough_net.specs.declared.error.TransportError.{TransportError}
use Rattle.tough_net.specs.Items.{Item}
use Rattle.tough_roles.specs.Signature.{SignedDoc, signatures_doc, signed_doc}
use Rattle.tough_roles.specs.declared.signed.Signed.{Signed}
use Rattle.tough_schema.specs.Update.{updated, needed, listed_roles}
use Rattle.tough_schema.specs.Whole.{TreeDoc, HeldDoc, tree_doc}
use Rattle.tough_schema.specs.declared.targets.Targets.{Targets}
use Rattle.tough_signed.specs.declared.error.EditError.TheVariants as errors
use Rattle.tough_error.specs.declared.error.Error.{Error}
use Rattle.tough_error.specs.declared.error.Error.TheVariants as wide
use Rattle.tough_editor.specs.Editors.{EditorDoc}
use Rattle.tough_editor.specs.Fetched.{CanPoll, held_as}
use Rattle.tough_editor.specs.Wide.{Told}
use Rattle.tough_release.specs.Closing.{IsReplaced, IsUnplaced}
use Rattle.tough_release.specs.Edits.{ReleaseDoc}
use Rattle.tough_publish.specs.Fetching.{IsAble, IsUnable, IsUnfetchable, Fetches, Reads}
use Rattle.tough_publish.specs.Placing.{with_first_in}
use Rattle.tough_publish.specs.Verifying.{IsVouched, IsUnvouched, IsNewer, IsNoNewer, IsTakable, IsUntakable}
use Rattle.tough_publish.specs.declared.repository.RepositoryEditor.{RepositoryEditor}
use Rattle.tough_publish.specs.declared.update.Update.{Update}
use Rattle.tough_publish.specs.declared.update.UpdateDelegatedTargets.{UpdateDelegatedTargets}

-- a new document of the role is on its way: the fetch of a new role's document has begun, those of others are to come
pub record UpdateDoc : Type 0 where
  pub role : SignedDoc TreeDoc
  pub name : List ℕ
  pub names : List (List ℕ)

abbrev pub names_of : IntoIter (String Global) Global → List (List ℕ)
names_of names = map string_bytes (into_iter_items names)

abbrev pub update_doc : Update → UpdateDoc
update_doc u = record { role = signed_doc tree_doc u.role; name = string_bytes u.name; names = names_of u.names }

-- it is refused, and nothing is changed
abbrev pub IsRefused : Error → ReleaseDoc → ReleaseDoc → Result (Unit {0}) Error → Type 0
IsRefused w old new result = (result ≡ Err w) × (new ≡ old)

-- ---- the role's document

-- the document is taken for the role; the old one is this
pub record IsAccepted (v : Verifies) (e : ReleaseDoc) (name : List ℕ) (s : Signed Targets) (old : TreeDoc) : Type 0 where
  pub targets : SignedDoc TreeDoc
  pub there : e.targets ≡ Some targets
  pub vouched : IsVouched v e.root.role targets.role name s old
  pub newer : IsNewer old (tree_doc s.signed)

-- it isn't
abbrev pub IsRejected : Verifies → ReleaseDoc → List ℕ → Signed Targets → Error → Type 0
IsRejected v e name s w =
    ((w ≡ wide.NoTargets) × (e.targets ≡ None))
    ⊎ ((t : SignedDoc TreeDoc) × (e.targets ≡ Some t) × (IsUnvouched v e.root.role t.role name s w ⊎ ((old : TreeDoc) × IsVouched v e.root.role t.role name s old × IsNoNewer old (tree_doc s.signed) w)))

-- the document, with those that the old one has for its roles, and the names of its new roles
pub record IsRenewed (v : Verifies) (e : ReleaseDoc) (name : List ℕ) (s : Signed Targets) (role : SignedDoc TreeDoc) (names : List (List ℕ)) : Type 0 where
  pub old : TreeDoc
  pub accepted : IsAccepted v e name s old
  pub role_is : role ≡ record { role = updated old (tree_doc s.signed); signatures = signatures_doc s.signatures.items }
  pub names_are : names ≡ needed old (listed_roles (tree_doc s.signed))

-- ---- the documents of its new roles

-- the role's document
abbrev pub held_of : List ℕ → SignedDoc TreeDoc → HeldDoc
held_of name role = record { name = name; signatures = role.signatures; below = role.role }

-- with the document of a new role in its place
abbrev pub with_new : List ℕ → Signed Targets → SignedDoc TreeDoc → SignedDoc TreeDoc
with_new name s role = record role { role = with_first_in name (held_as name s) role.role }

-- it takes the place of the old one, and the open editor is closed
abbrev pub Closes : HeldDoc → ReleaseDoc → ReleaseDoc → Result (Unit {0}) Error → Type 0
Closes h old new (Ok u) = IsReplaced h old new
Closes h old new (Err w) = (new ≡ old) × Told (λ error. (error ≡ errors.Memory) ⊎ IsUnplaced h old.targets error) w

-- the document of a new role that was read takes its place, and so it goes on; or it is refused
abbrev pub Takes : Verifies → ReleaseDoc → List ℕ → SignedDoc TreeDoc → Result (Signed Targets) Error → (SignedDoc TreeDoc → Type 0) → ReleaseDoc → Result (Unit {0}) Error → Type 0
Takes v e n role (Err w) goes new result = IsRefused w e new result
Takes v e n role (Ok s) goes new result = ((w : Error) × IsUntakable v role.role n s w × IsRefused w e new result) ⊎ (IsTakable v role.role n s × goes (with_new n s role))

module _ {T : Type 0} where
  -- there are no limits, or no transport, or no targets
  abbrev pub IsUnready : EditorDoc ReleaseDoc T → Error → Type 0
  IsUnready e w = IsUnable e w ⊎ (IsAble e × (w ≡ wide.NoTargets) × (e.edits.targets ≡ None))

module _ {T S : Type 0} (refuses : T → Parts → TransportError → Type 0) (serves : T → Parts → Runs Item) (yields : S → Runs Item) where
  -- or the fetch of the role's document can't begin
  abbrev pub IsUnbegun : EditorDoc ReleaseDoc T → List ℕ → List ℕ → Error → Type 0
  IsUnbegun e text name w = IsUnready e w ⊎ ((is_some e.edits.targets ≡ true) × IsUnfetchable refuses serves yields e text name w)

module _ {T S : Type 0} (refuses : T → Parts → TransportError → Type 0) (serves : T → Parts → Runs Item) (yields : S → Runs Item) (v : Verifies) (e : EditorDoc ReleaseDoc T) (text name : List ℕ) where
  -- the documents of these new roles are fetched, one after another, and the role's document takes its place
  abbrev pub Completes : List (List ℕ) → SignedDoc TreeDoc → ReleaseDoc → Result (Unit {0}) Error → Type 0
  Completes [] role new result = Closes (held_of name role) e.edits new result
  Completes (n ∷ ns) role new result =
      (read : Result (Signed Targets) Error) × Fetches refuses serves yields None e text n read × Takes v e.edits n role read (λ next. Completes ns next new result) new result

  -- what comes of the role's document that was read
  abbrev pub Follows : Result (Signed Targets) Error → ReleaseDoc → Result (Unit {0}) Error → Type 0
  Follows (Err w) new result = IsRefused w e.edits new result
  Follows (Ok s) new result =
      ((w : Error) × IsRejected v e.edits name s w × IsRefused w e.edits new result)
      ⊎ ((role : SignedDoc TreeDoc) × (names : List (List ℕ)) × IsRenewed v e.edits name s role names × Completes names role new result)

  -- what comes of a document that was read: of the role, or of a new role of its document
  abbrev pub Gains : Option UpdateDoc → Result (Signed Targets) Error → ReleaseDoc → Result (Unit {0}) Error → Type 0
  Gains None read new result = Follows read new result
  Gains (Some u) read new result = Takes v e.edits u.name u.role read (λ next. Completes u.names next new result) new result

  -- what comes of the update: from its start, or once a fetch has begun
  abbrev pub Updates : Option (Collect S) → Option UpdateDoc → ReleaseDoc → Result (Unit {0}) Error → Type 0
  Updates None u new result =
      ((w : Error) × IsUnready e w × IsRefused w e.edits new result)
      ⊎ ((is_some e.edits.targets ≡ true) × (read : Result (Signed Targets) Error) × Fetches refuses serves yields None e text name read × Follows read new result)
  Updates (Some f) u new result = (read : Result (Signed Targets) Error) × Fetches refuses serves yields (Some f) e text name read × Gains u read new result

  -- ---- words of private clauses

  -- a step of what may come: it has ended so, or the next fetch has begun
  abbrev pub Steps : (ReleaseDoc → Result (Unit {0}) Error → Type 0) → ReleaseDoc → Result (Option (Collect S × Update)) Error → Type 0
  Steps may new (Ok None) = may new (Ok tt)
  Steps may new (Err w) = may new (Err w)
  Steps may new (Ok (Some p)) = (new ≡ e.edits) × ((after : ReleaseDoc) (r : Result (Unit {0}) Error) → Updates (Some p.0) (Some (update_doc p.1)) after r → may after r)

  -- by what was fetched
  abbrev pub GainsBy : Option UpdateDoc → Result (Vec ℕ Global) TransportError → ReleaseDoc → Result (Unit {0}) Error → Type 0
  GainsBy u outcome new result = (read : Result (Signed Targets) Error) × Reads outcome read × Gains u read new result

module _ {S : Type 0} where
  -- the fetch that has begun, if one has, can be polled
  abbrev pub CanGoOn : (S → Type 0) → Result (Option (Collect S × Update)) Error → Type 0
  CanGoOn can_poll (Ok o) = IfSome o (λ p. CanPoll can_poll p.0)
  CanGoOn can_poll (Err w) = ⊤

  -- the step is the last, and it ended so
  abbrev pub HasEnded : Result (Option (Collect S × Update)) Error → Result (Unit {0}) Error → Type 0
  HasEnded (Ok None) r = r ≡ Ok tt
  HasEnded (Err w) r = r ≡ Err w
  HasEnded (Ok (Some p)) r = ⊥

  -- it isn't: this fetch is the next, and this has come so far
  abbrev pub GoesOn : Result (Option (Collect S × Update)) Error → Option (Collect S) → Option Update → Type 0
  GoesOn (Ok None) fetch update = ⊥
  GoesOn (Err w) fetch update = ⊥
  GoesOn (Ok (Some p)) fetch update = (fetch ≡ Some p.0) × (update ≡ Some p.1)

-- ---- what the future holds

module _ {T S V : Type 0} where
  abbrev pub editor_in : UpdateDelegatedTargets T V S → MutBor (RepositoryEditor T)
  editor_in f = f.editor

  abbrev pub name_in : UpdateDelegatedTargets T V S → List ℕ
  name_in f = f.name.now

  abbrev pub url_in : UpdateDelegatedTargets T V S → List ℕ
  url_in f = f.url.now

  abbrev pub verifier_in : UpdateDelegatedTargets T V S → V
  verifier_in f = f.verifier.now

  abbrev pub fetch_in : UpdateDelegatedTargets T V S → Option (Collect S)
  fetch_in f = f.fetch

  abbrev pub update_in : UpdateDelegatedTargets T V S → Option UpdateDoc
  update_in f = option_map update_doc f.update
