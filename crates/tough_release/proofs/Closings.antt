-- A document takes its place, and an editor is opened over another.
use Rattle.std.proofs.Common.{◌≡◌, ℕ, List, true, false, Option, Some, None, option_map, is_some, Result, Ok, Err, IfOk, IfErr, OnOk, IsTrue, ◌⊎◌, inl, inr, refl, ap, ap₂, sym, subst, ◌∙◌, String, string_bytes, if◌then◌else◌}
use Rattle.std.proofs.lemmas.Slice.Eq.{bytes_eq-Decides}
use Rattle.std.specs.declared.alloc.Global.{Global}
use Rattle.tough_roles.specs.Root.{RootDoc}
use Rattle.tough_roles.specs.Signature.{SignedDoc, signed_doc, signatures_doc}
use Rattle.tough_roles.specs.declared.error.Error.{Error}
use Rattle.tough_roles.specs.declared.error.Error.TheVariants as faults
use Rattle.tough_roles.specs.declared.signed.Signed.{Signed}
use Rattle.tough_schema.specs.Delegations.{DelegationsDoc, delegations_doc}
use Rattle.tough_schema.specs.Put.{is_role}
use Rattle.tough_schema.specs.Seek.{parent, sought}
use Rattle.tough_schema.specs.Whole.{TreeDoc, NamedTree, DelegationsTree, HeldDoc, held_doc, tree_doc, delegations_tree}
use Rattle.tough_schema.specs.declared.delegations.Delegations.{Delegations}
use Rattle.tough_schema.specs.declared.targets.DelegatedTargets.{DelegatedTargets, out-DelegatedTargets}
use Rattle.tough_schema.specs.declared.targets.Targets.{Targets}
use Rattle.tough_schema.proofs.lemmas.Wholes.{delegations-top, held-below, named-out}
use Rattle.tough_signed.specs.Holders.{HolderDoc, by_root, by_delegations}
use Rattle.tough_release.specs.Holding.{delegations_top, holder_in, holder_below, is_top, top_name}
use Rattle.tough_keys.specs.Key.{KeyDoc}
use Rattle.tough_edit.specs.Edits.{EditsDoc, opened}
use Rattle.tough_edit.specs.Signed.{IsCreatedFor, IsUncreatedFor}
use Rattle.tough_release.specs.Edits.{ReleaseDoc}
use Rattle.tough_release.specs.Closing.{missing, IsMissing, unnamed, with_role_document, Places, IsUnplaced, IsUnheldIn, IsCreatedIn, IsUncreatedIn, IsClosed, IsUnclosed, IsReplaced, IsEditorOf, IsChanged, IsUnchangeable, IsLost}
use Rattle.tough_signed.specs.declared.error.EditError.{EditError}
use Rattle.tough_signed.specs.declared.error.EditError.TheVariants as errors

-- a fault, but for want of memory, is told with its cause
pub missing_is : (name : String Global) (text : List ℕ) (cause : Error → Type 0) (e : Error) → string_bytes name ≡ text → cause e → IsMissing text cause (missing name e)
missing_is name text cause faults.Memory eq h = tt
missing_is name text cause (faults.RoleNotFound a) eq h = (eq, tt, h)
missing_is name text cause (faults.TargetNotFound a) eq h = (eq, tt, h)
missing_is name text cause faults.NoDelegations eq h = (eq, tt, h)
missing_is name text cause faults.NoTargets eq h = (eq, tt, h)
missing_is name text cause (faults.MissingRole a) eq h = (eq, tt, h)
missing_is name text cause (faults.JsonSerialization a) eq h = (eq, tt, h)
missing_is name text cause (faults.DuplicateKeyId a) eq h = (eq, tt, h)
missing_is name text cause (faults.SignatureThreshold a b c) eq h = (eq, tt, h)
missing_is name text cause faults.Glob eq h = (eq, tt, h)
missing_is name text cause faults.HexDecode eq h = (eq, tt, h)
missing_is name text cause faults.PemDecode eq h = (eq, tt, h)
missing_is name text cause (faults.FileOpen a) eq h = (eq, tt, h)
missing_is name text cause (faults.FileRead a) eq h = (eq, tt, h)
missing_is name text cause (faults.TargetNotAFile a) eq h = (eq, tt, h)
missing_is name text cause (faults.InvalidKeyId a b) eq h = (eq, tt, h)
missing_is name text cause (faults.DuplicateRoleName a) eq h = (eq, tt, h)
missing_is name text cause faults.SpkiDecode eq h = (eq, tt, h)
missing_is name text cause (faults.UnmatchedPath a) eq h = (eq, tt, h)

-- what delegations say for themselves
pub delegations_are : (g : Delegations) → delegations_doc g ≡ delegations_top (delegations_tree g)
delegations_are g =
    let e : Some (delegations_doc g) ≡ Some (delegations_top (delegations_tree g)) = delegations-top (Some g) in cc

-- ---- a document takes its place

pub held_named : (s : Signed DelegatedTargets) → (held_doc s).name ≡ string_bytes (out-DelegatedTargets s.signed).name
held_named s = ap (λ (x : NamedTree). x.0) (named-out s.signed)

pub place_top : (h : HeldDoc) (name : List ℕ) (new : Signed Targets) (old : Option (SignedDoc TreeDoc)) → h ≡ record { name = name; signatures = signatures_doc new.signatures.items; below = tree_doc new.signed } → is_top h.name ≡ true → Places h old (Some (signed_doc tree_doc new))
place_top h name new old e top = (signed_doc tree_doc new, refl, inl (top, sym (ap unnamed e)))

pub place_below : (h : HeldDoc) (s new : SignedDoc TreeDoc) → is_top h.name ≡ false → is_role (sought h.name s.role) ≡ true → new ≡ with_role_document h s → Places h (Some s) (Some new)
place_below h s new top found e = (new, refl, inr (top, s, refl, found, e))

pub placed_below : (d : Signed DelegatedTargets) (s new : Signed Targets) (old : Option (Signed Targets)) (r : Result (Unit {0}) EditError) → old ≡ Some s → is_top (held_doc d).name ≡ false → OnOk r (IsTrue (is_role (sought (held_doc d).name (tree_doc s.signed))))
    → OnOk r (signed_doc tree_doc new ≡ with_role_document (held_doc d) (signed_doc tree_doc s)) → OnOk r (Places (held_doc d) (option_map (signed_doc tree_doc) old) (Some (signed_doc tree_doc new)))
placed_below d s new old (Ok u) is top found e =
    subst (λ (o : Option (Signed Targets)). Places (held_doc d) (option_map (signed_doc tree_doc) o) (Some (signed_doc tree_doc new))) (sym is) (place_below (held_doc d) (signed_doc tree_doc s) (signed_doc tree_doc new) top found e)
placed_below d s new old (Err error) is top found e = e

-- ---- an editor is opened

pub over_below : (name : List ℕ) (e : EditsDoc) (g : DelegationsDoc) (p : Delegations) (t : TreeDoc) (d : Signed DelegatedTargets) → e ≡ opened name (Some (by_delegations g)) t → g ≡ delegations_doc p → t ≡ tree_doc (out-DelegatedTargets d.signed).targets
    → e ≡ opened name (Some (by_delegations (delegations_top (delegations_tree p)))) (held_doc d).below
over_below name e g p t d is same below = is ∙ ap₂ (λ (x : DelegationsDoc) (y : TreeDoc). opened name (Some (by_delegations x)) y) (same ∙ delegations_are p) (below ∙ sym (held-below d))

-- ---- who holds the keys

pub held_top : (root shown : RootDoc) (targets : Option (SignedDoc TreeDoc)) (name : List ℕ) → is_top name ≡ true → shown ≡ root → holder_in root targets name ≡ Some (by_root shown)
held_top root shown targets name top same = ap (λ b. if b then Some (by_root root) else holder_below name targets) top ∙ ap (λ (r : RootDoc). Some (by_root r)) (sym same)

pub held_below : (root : RootDoc) (s : SignedDoc TreeDoc) (name : List ℕ) (p : Delegations) (g : DelegationsDoc) → is_top name ≡ false → parent name s.role ≡ Some (delegations_tree p) → g ≡ delegations_doc p → holder_in root (Some s) name ≡ Some (by_delegations g)
held_below root s name p g top under same =
    ap (λ b. if b then Some (by_root root) else holder_below name (Some s)) top
    ∙ (ap (option_map (λ (d : DelegationsTree). by_delegations (delegations_top d))) under ∙ ap (λ (x : DelegationsDoc). Some (by_delegations x)) (sym (same ∙ delegations_are p)))

-- ---- the open editor is signed

module _ {S : Type 0} (key_of : S → KeyDoc) (signs : S → List ℕ → List ℕ → Type 0) (fails : S → List ℕ → Type 0) (signers : List S) where
  pub created_in : (root : RootDoc) (targets : Option (SignedDoc TreeDoc)) (editor : EditsDoc) (text : List ℕ) (holder : HolderDoc) (r : Result (Signed DelegatedTargets) EditError) → text ≡ editor.name → holder_in root targets text ≡ Some holder
      → IfOk r (IsCreatedFor key_of signs editor holder signers) → IfOk r (IsCreatedIn key_of signs signers editor root targets)
  created_in root targets editor text holder (Ok d) same held h = record {
    holder = holder;
    held = subst (λ (n : List ℕ). holder_in root targets n ≡ Some holder) same held;
    created = h;
  }
  created_in root targets editor text holder (Err e) same held h = h

  pub uncreated_in : (root : RootDoc) (targets : Option (SignedDoc TreeDoc)) (editor : EditsDoc) (text : List ℕ) (holder : HolderDoc) (r : Result (Signed DelegatedTargets) EditError) → text ≡ editor.name → holder_in root targets text ≡ Some holder
      → IfErr r (IsUncreatedFor key_of fails editor holder signers) → IfErr r (IsUncreatedIn key_of fails signers editor root targets)
  uncreated_in root targets editor text holder (Ok d) same held h = h
  uncreated_in root targets editor text holder (Err e) same held h = inr (inr (holder, subst (λ (n : List ℕ). holder_in root targets n ≡ Some holder) same held, h))

  pub unheld_in : (root : RootDoc) (targets : Option (SignedDoc TreeDoc)) (editor : EditsDoc) (text : List ℕ) (e : EditError) → text ≡ editor.name → (e ≡ errors.Memory) ⊎ IsUnheldIn text targets e → IsUncreatedIn key_of fails signers editor root targets e
  unheld_in root targets editor text e same (inl m) = inl m
  unheld_in root targets editor text e same (inr h) = inr (inl (subst (λ (n : List ℕ). IsUnheldIn n targets e) same h))

  pub unclosed : (e : ReleaseDoc) (root : RootDoc) (editor : EditsDoc) (error : EditError) → root ≡ e.root.role → e.editor ≡ Some editor → IsUncreatedIn key_of fails signers editor root e.targets error → IsUnclosed key_of signs fails signers e error
  unclosed e root editor error same there (inl m) = inl m
  unclosed e root editor error same there (inr (inl h)) = inr (editor, there, inl h)
  unclosed e root editor error same there (inr (inr h)) = inr (
    editor,
    there,
    inr (record { holder = h.0; held = subst (λ (d : RootDoc). holder_in d e.targets editor.name ≡ Some h.0) same h.1; refused = inl h.2 }),
  )

  pub closed_by : (e after : ReleaseDoc) (root : RootDoc) (editor : EditsDoc) (d : Signed DelegatedTargets) (r : Result (Unit {0}) EditError) → root ≡ e.root.role → e.editor ≡ Some editor → IsCreatedIn key_of signs signers editor root e.targets d
      → OnOk r (IsReplaced (held_doc d) e after) → OnOk r (IsClosed key_of signs signers e after)
  closed_by e after root editor d (Ok u) same there made h = inr (
    editor,
    there,
    record {
      holder = made.holder;
      held = subst (λ (x : RootDoc). holder_in x e.targets editor.name ≡ Some made.holder) same made.held;
      document = d;
      created = made.created;
      targets = h.targets;
      placed = h.placed;
      closed = h.closed;
    },
  )
  closed_by e after root editor d (Err error) same there made h = h

  pub unclosed_by : (e : ReleaseDoc) (root : RootDoc) (editor : EditsDoc) (d : Signed DelegatedTargets) (r : Result (Unit {0}) EditError) → root ≡ e.root.role → e.editor ≡ Some editor → IsCreatedIn key_of signs signers editor root e.targets d
      → IfErr r (λ x. (x ≡ errors.Memory) ⊎ IsUnplaced (held_doc d) e.targets x) → IfErr r (IsUnclosed key_of signs fails signers e)
  unclosed_by e root editor d (Ok u) same there made h = h
  unclosed_by e root editor d (Err error) same there made (inl m) = inl m
  unclosed_by e root editor d (Err error) same there made (inr h) = inr (
    editor,
    there,
    inr (record {
      holder = made.holder;
      held = subst (λ (x : RootDoc). holder_in x e.targets editor.name ≡ Some made.holder) same made.held;
      refused = inr (record { document = d; created = made.created; unplaced = h });
    }),
  )

-- ---- an editor over another document

pub over_top : (name : List ℕ) (root : RootDoc) (t : TreeDoc) (e : EditsDoc) → is_top name ≡ true → e ≡ opened top_name (Some (by_root root)) t → IsEditorOf name root t e
over_top name root t e top is = inl (top, is ∙ ap (λ (n : List ℕ). opened n (Some (by_root root)) t) (sym ((bytes_eq-Decides name top_name).0 top)))

pub none_of : {A B : Type 0} (f : A → B) (o : Option A) → is_some o ≡ false → option_map f o ≡ None
none_of f None h = refl
none_of f (Some x) h = cc

pub changed : (name : List ℕ) (e : ReleaseDoc) (root : RootDoc) (s : SignedDoc TreeDoc) (editor : EditsDoc) (new : Option EditsDoc) → root ≡ e.root.role → e.editor ≡ None → e.targets ≡ Some s → IsEditorOf name root s.role editor → new ≡ Some editor
    → IsChanged name e (record e { editor = new })
changed name e root s editor new same none there over is = record {
  none = none;
  targets = s;
  there = there;
  editor = editor;
  over = subst (λ (d : RootDoc). IsEditorOf name d s.role editor) same over;
  change = ap (λ (o : Option EditsDoc). let x : ReleaseDoc = record e { editor = o } in x) is;
}

pub unchangeable : (name : List ℕ) (e : ReleaseDoc) (s : SignedDoc TreeDoc) (error : EditError) → e.editor ≡ None → e.targets ≡ Some s → (error ≡ errors.Memory) ⊎ ((is_top name ≡ false) × IsMissing name (IsLost name s.role) error) → IsUnchangeable name e error
unchangeable name e s error none there (inl m) = inl m
unchangeable name e s error none there (inr h) = inr (inr (none, inr (s, there, h.0, h.1)))

-- ---- another document is put in place

pub replaced : (h : HeldDoc) (e : ReleaseDoc) (targets : Option (SignedDoc TreeDoc)) (editor : Option EditsDoc) → Places h e.targets targets → editor ≡ None → IsReplaced h e (record e { targets = targets; editor = editor })
replaced h e targets editor placed none = record {
  targets = placed.0;
  placed = placed.2;
  closed = ap₂ (λ (t : Option (SignedDoc TreeDoc)) (o : Option EditsDoc). let x : ReleaseDoc = record e { targets = t; editor = o } in x) placed.1 none;
}
