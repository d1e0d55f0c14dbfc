-- What an update comes to, from where it stands.
use Rattle.std.specs.Prelude.{◌≡◌, ℕ, true, List, [], ◌∷◌, map, is_some, Option, Some, None, option_map, Result, Ok, Err, Vec, IfSome, ⊤, String, string_bytes}
use Rattle.std.specs.Vec.Iter.{into_iter_items, into_iter_len, into_iter_deque}
use Rattle.std.specs.declared.vec.IntoIter.{IntoIter}
use Rattle.std.specs.declared.alloc.Global.{Global}
use Rattle.std.proofs.Common.{sym, subst, ap, ap₂, inl, inr, refl, ◌∙◌}
use Rattle.std.proofs.lemmas.List.{nil_from_length}
use Rattle.futures.specs.declared.task.Poll.{Poll}
use Rattle.futures.specs.declared.task.Poll.TheVariants.{Ready, Pending}
use Rattle.futures.specs.Poll.{IfReady, OnPending}
use Rattle.futures.specs.Task.{Covers}
use Rattle.futures.specs.declared.task.Context.{Context}
use Rattle.futures.specs.Runs.{Runs}
use Rattle.url.specs.Parts.{Parts}
use Rattle.tough_keys.specs.Same.{Verifies}
use Rattle.tough_net.specs.declared.collect.Collect.{Collect}
use Rattle.tough_net.specs.declared.error.TransportError.{TransportError}
use Rattle.tough_net.specs.Collecting.{Collects, collected, bounds_of, held_by}
use Rattle.tough_net.specs.Items.{Item}
use Rattle.tough_roles.specs.Root.{RootDoc, root_doc}
use Rattle.tough_roles.specs.declared.root.Root.{Root}
use Rattle.tough_roles.specs.Signature.{SignatureDoc, SignedDoc, signed_doc, signatures_doc}
use Rattle.tough_roles.specs.declared.signed.Signed.{Signed}
use Rattle.tough_schema.specs.Update.{updated, needed, listed_roles}
use Rattle.tough_schema.specs.Whole.{TreeDoc, tree_doc}
use Rattle.tough_schema.specs.declared.targets.Targets.{Targets}
use Rattle.tough_signed.specs.Roles.{signed_of}
use Rattle.tough_signed.specs.declared.signed_role.SignedRole.{SignedRole}
use Rattle.tough_error.specs.declared.error.Error.{Error}
use Rattle.tough_editor.specs.Editors.{EditorDoc, IsEdited}
use Rattle.tough_editor.specs.Fetched.{CanPoll, held_as}
use Rattle.tough_release.specs.Edits.{ReleaseDoc}
use Rattle.tough_publish.specs.Placing.{with_first_in}
use Rattle.tough_publish.specs.Fetching.{Reads, Begins, IsUnfetchable}
use Rattle.tough_publish.specs.Verifying.{IsVouched, IsNewer, IsTakable, IsUntakable}
use Rattle.tough_publish.specs.Updating.{UpdateDoc, update_doc, names_of, IsRejected, IsRenewed, Closes, Takes, Completes, Follows, Gains, GainsBy, IsUnbegun, Updates, Steps, CanGoOn, HasEnded, GoesOn, held_of, with_new}
use Rattle.tough_publish.specs.declared.update.Update.{Update}
use Rattle.tough_publish.proofs.Fetches.{begun_fetches}

-- ---- the names that are still to come

pub names_next : (a b : IntoIter (String Global) Global) (n : String Global) → into_iter_items a ≡ n ∷ into_iter_items b → names_of a ≡ string_bytes n ∷ names_of b
names_next a b n h = ap (map string_bytes) h

pub names_none : (a : IntoIter (String Global) Global) → into_iter_len a ≡ 0 → names_of a ≡ []
names_none a h = ap (map string_bytes) (nil_from_length (into_iter_items a) (sym (into_iter_deque a).ok.0 ∙ h))

-- ---- the role's document

-- of the root that an editor gives out
pub root_is : (s : Signed Root) (x : SignedRole Root) (r : SignedDoc RootDoc) → s ≡ signed_of x → signed_doc root_doc (signed_of x) ≡ r → root_doc s.signed ≡ r.role
root_is s x r signed is = ap (λ (y : Signed Root). root_doc y.signed) signed ∙ ap (λ (d : SignedDoc RootDoc). d.role) is

pub renewed_is : (v : Verifies) (e : ReleaseDoc) (name : List ℕ) (s role : Signed Targets) (t : SignedDoc TreeDoc) (old : TreeDoc) (names : List (List ℕ)) → e.targets ≡ Some t → IsVouched v e.root.role t.role name s old → IsNewer old (tree_doc s.signed)
    → tree_doc role.signed ≡ updated old (tree_doc s.signed) → role.signatures ≡ s.signatures → names ≡ needed old (listed_roles (tree_doc s.signed)) → IsRenewed v e name s (signed_doc tree_doc role) names
renewed_is v e name s role t old names there vouched newer is signatures names_are = record {
  old = old;
  accepted = record { targets = t; there = there; vouched = vouched; newer = newer };
  role_is = ap₂ (λ (d : TreeDoc) (ss : List SignatureDoc). let x : SignedDoc TreeDoc = record { role = d; signatures = ss } in x) is (ap (λ x. signatures_doc x.items) signatures);
  names_are = names_are;
}

-- ---- the document of a new role

pub taken_is : (u : UpdateDoc) (name : List ℕ) (s : Signed Targets) (d : TreeDoc) → name ≡ u.name → d ≡ with_first_in name (held_as name s) u.role.role → record u.role { role = d } ≡ with_new u.name s u.role
taken_is u name s d named is = ap (λ (x : TreeDoc). record u.role { role = x }) (is ∙ ap (λ (n : List ℕ). with_first_in n (held_as n s) u.role.role) named)

-- of an editor whose edits stay, all stays
pub same_editor : {T : Type 0} (old new : EditorDoc ReleaseDoc T) → IsEdited old new → new.edits ≡ old.edits → new ≡ old
same_editor old new edited same = edited ∙ ap (λ (d : ReleaseDoc). record old { edits = d }) same

module _ {T S : Type 0} (refuses : T → Parts → TransportError → Type 0) (serves : T → Parts → Runs Item) (yields : S → Runs Item) (v : Verifies) (e : EditorDoc ReleaseDoc T) (text name : List ℕ) where
  -- a step of what may come is one of what might have come
  pub steps_map : (may before : ReleaseDoc → Result (Unit {0}) Error → Type 0) → ((after : ReleaseDoc) (r : Result (Unit {0}) Error) → may after r → before after r) → (new : ReleaseDoc) (result : Result (Option (Collect S × Update)) Error)
      → Steps refuses serves yields v e text name may new result → Steps refuses serves yields v e text name before new result
  steps_map may before f new (Ok None) h = f new (Ok tt) h
  steps_map may before f new (Err w) h = f new (Err w) h
  steps_map may before f new (Ok (Some p)) (same, h) = (same, λ after r k. f after r (h after r k))

  -- nothing more is to come: the role's document takes its place
  pub goes_last : (names : List (List ℕ)) (role : SignedDoc TreeDoc) (new : ReleaseDoc) (r : Result (Unit {0}) Error) → names ≡ [] → Closes (held_of name role) e.edits new r → Completes refuses serves yields v e text name names role new r
  goes_last names role new r none h = subst (λ ns. Completes refuses serves yields v e text name ns role new r) (sym none) h

  -- the fetch of the next document can't begin
  pub goes_unbegun : (names ns : List (List ℕ)) (n : List ℕ) (role : SignedDoc TreeDoc) (w : Error) → names ≡ n ∷ ns → IsUnfetchable refuses serves yields e text n w → Completes refuses serves yields v e text name names role e.edits (Err w)
  goes_unbegun names ns n role w is h = subst (λ ns. Completes refuses serves yields v e text name ns role e.edits (Err w)) (sym is) (Err w, inl h, (refl, refl))

  -- it has begun
  pub goes_begun : (names : List (List ℕ)) (f : Collect S) (u : Update) (role : SignedDoc TreeDoc) → names ≡ (update_doc u).name ∷ (update_doc u).names → (update_doc u).role ≡ role → Begins refuses serves yields e text (update_doc u).name f
      → Steps refuses serves yields v e text name (Completes refuses serves yields v e text name names role) e.edits (Ok (Some (f, u)))
  goes_begun names f u role is same begun = (
    refl,
    λ after r h. subst (λ ns. Completes refuses serves yields v e text name ns role after r) (sym is)
        (h.0, begun_fetches refuses serves yields e text (update_doc u).name f begun h.0 h.1, subst (λ x. Takes v e.edits (update_doc u).name x h.0 (λ next. Completes refuses serves yields v e text name (update_doc u).names next after r) after r) same h.2),
  )

  -- ---- a document that was read

  pub follows_rejected : (s : Signed Targets) (w : Error) → IsRejected v e.edits name s w → Follows refuses serves yields v e text name (Ok s) e.edits (Err w)
  follows_rejected s w h = inl (w, h, (refl, refl))

  pub follows_renewed : (s : Signed Targets) (role : SignedDoc TreeDoc) (names shown : List (List ℕ)) → shown ≡ names → IsRenewed v e.edits name s role names → (new : ReleaseDoc) (result : Result (Option (Collect S × Update)) Error)
      → Steps refuses serves yields v e text name (Completes refuses serves yields v e text name shown role) new result → Steps refuses serves yields v e text name (Follows refuses serves yields v e text name (Ok s)) new result
  follows_renewed s role names shown is h new result = steps_map (Completes refuses serves yields v e text name shown role) (Follows refuses serves yields v e text name (Ok s))
      (λ after r k. inr (role, names, h, subst (λ ns. Completes refuses serves yields v e text name ns role after r) is k)) new result

  pub gains_untaken : (u : UpdateDoc) (s : Signed Targets) (w : Error) → IsUntakable v u.role.role u.name s w → Gains refuses serves yields v e text name (Some u) (Ok s) e.edits (Err w)
  gains_untaken u s w h = inl (w, h, (refl, refl))

  pub gains_taken : (u : UpdateDoc) (s : Signed Targets) (role : SignedDoc TreeDoc) → role ≡ with_new u.name s u.role → IsTakable v u.role.role u.name s → (new : ReleaseDoc) (result : Result (Option (Collect S × Update)) Error)
      → Steps refuses serves yields v e text name (Completes refuses serves yields v e text name u.names role) new result → Steps refuses serves yields v e text name (Gains refuses serves yields v e text name (Some u) (Ok s)) new result
  gains_taken u s role is h new result = steps_map (Completes refuses serves yields v e text name u.names role) (Gains refuses serves yields v e text name (Some u) (Ok s))
      (λ after r k. inr (h, subst (λ x. Completes refuses serves yields v e text name u.names x after r) is k)) new result

  -- ---- what was fetched

  pub gains_unread : (u : Option UpdateDoc) (o : Result (Vec ℕ Global) TransportError) (read : Result (Signed Targets) Error) (w : Error) → read ≡ Err w → Reads o read → GainsBy refuses serves yields v e text name u o e.edits (Err w)
  gains_unread None o read w is h = (Err w, subst (Reads o) is h, (refl, refl))
  gains_unread (Some u) o read w is h = (Err w, subst (Reads o) is h, (refl, refl))

  pub gains_read : (u shown : Option UpdateDoc) (o : Result (Vec ℕ Global) TransportError) (read : Result (Signed Targets) Error) (s : Signed Targets) → u ≡ shown → read ≡ Ok s → Reads o read → (new : ReleaseDoc) (result : Result (Option (Collect S × Update)) Error)
      → Steps refuses serves yields v e text name (Gains refuses serves yields v e text name shown (Ok s)) new result → Steps refuses serves yields v e text name (GainsBy refuses serves yields v e text name u o) new result
  gains_read u shown o read s same is h new result = steps_map (Gains refuses serves yields v e text name shown (Ok s)) (GainsBy refuses serves yields v e text name u o)
      (λ after r k. (Ok s, subst (Reads o) is h, subst (λ x. Gains refuses serves yields v e text name x (Ok s) after r) (sym same) k)) new result

  -- ---- a poll

  pub unbegun : (u : Option UpdateDoc) (w : Error) → IsUnbegun refuses serves yields e text name w → Updates refuses serves yields v e text name None u e.edits (Err w)
  unbegun u w (inl h) = inl (w, h, (refl, refl))
  unbegun u w (inr (there, h)) = inr (there, Err w, inl h, (refl, refl))

  pub updates_by : (f : Collect S) (u : Option UpdateDoc) (o : Result (Vec ℕ Global) TransportError) (new : ReleaseDoc) (r : Result (Unit {0}) Error) → Collects (bounds_of f) (yields (collected f)) (held_by f) o → GainsBy refuses serves yields v e text name u o new r
      → Updates refuses serves yields v e text name (Some f) u new r
  updates_by f u o new r came (read, reads, gains) = (read, (o, came, reads), gains)

  pub begun_same : (f : Collect S) (o : Option (Collect S)) (u later : Option UpdateDoc) → o ≡ None → later ≡ None → is_some e.edits.targets ≡ true → Begins refuses serves yields e text name f → (p : Poll (Result (Unit {0}) Error))
      → OnPending p ((r : Result (Unit {0}) Error) → ((new : ReleaseDoc) × Updates refuses serves yields v e text name (Some f) later new r) → ((new : ReleaseDoc) × Updates refuses serves yields v e text name o u new r))
  begun_same f o u later is none there begun (Ready x) = tt
  begun_same f o u later is none there begun Pending = λ r h.
      let m = subst (λ z. Updates refuses serves yields v e text name (Some f) z h.0 r) none h.1 in
      (h.0, subst (λ z. Updates refuses serves yields v e text name z u h.0 r) (sym is) (inr (there, m.0, begun_fetches refuses serves yields e text name f begun m.0 m.1, m.2)))

  -- ---- from where the future stands

  pub polled_unbegun : (o : Option (Collect S)) (u : Option UpdateDoc) → o ≡ None → (w : Error) → IsUnbegun refuses serves yields e text name w → Updates refuses serves yields v e text name o u e.edits (Err w)
  polled_unbegun o u is w h = subst (λ z. Updates refuses serves yields v e text name z u e.edits (Err w)) (sym is) (unbegun u w h)

  pub polled : (o : Option (Collect S)) (f : Collect S) (u : Option UpdateDoc) (out : Result (Vec ℕ Global) TransportError) (new : ReleaseDoc) (r : Result (Unit {0}) Error) → o ≡ Some f → Collects (bounds_of f) (yields (collected f)) (held_by f) out
      → GainsBy refuses serves yields v e text name u out new r → Updates refuses serves yields v e text name o u new r
  polled o f u out new r is came gains = subst (λ z. Updates refuses serves yields v e text name z u new r) (sym is) (updates_by f u out new r came gains)

  pub waits_same : (o : Option (Collect S)) (f later : Collect S) (u : Option UpdateDoc) → o ≡ Some f
      → ((out : Result (Vec ℕ Global) TransportError) → Collects (bounds_of later) (yields (collected later)) (held_by later) out → Collects (bounds_of f) (yields (collected f)) (held_by f) out)
      → (r : Result (Unit {0}) Error) → ((new : ReleaseDoc) × Updates refuses serves yields v e text name (Some later) u new r) → ((new : ReleaseDoc) × Updates refuses serves yields v e text name o u new r)
  waits_same o f later u is back r h =
      let m = h.1 in
      (h.0, subst (λ z. Updates refuses serves yields v e text name z u h.0 r) (sym is) (m.0, (m.1.0, back m.1.0 m.1.1, m.1.2), m.2))

  pub stepped : (o : Option (Collect S)) (f : Collect S) (u : Option UpdateDoc) (out : Result (Vec ℕ Global) TransportError) → o ≡ Some f → Collects (bounds_of f) (yields (collected f)) (held_by f) out
      → (after : EditorDoc ReleaseDoc T) → IsEdited e after → (next : Collect S) (p : Update) → Steps refuses serves yields v e text name (GainsBy refuses serves yields v e text name u out) after.edits (Ok (Some (next, p)))
      → (r : Result (Unit {0}) Error) → ((new : ReleaseDoc) × Updates refuses serves yields v after text name (Some next) (Some (update_doc p)) new r) → ((new : ReleaseDoc) × Updates refuses serves yields v e text name o u new r)
  stepped o f u out is came after edited next p (same, goes) r h =
      let stays : after ≡ e = same_editor e after edited same in
      let k = subst (λ (x : EditorDoc ReleaseDoc T). Updates refuses serves yields v x text name (Some next) (Some (update_doc p)) h.0 r) stays h.1 in
      (h.0, polled o f u out h.0 r is came (goes h.0 r k))

  -- ---- a step, by what the poll answers

  ended_by : (may : ReleaseDoc → Result (Unit {0}) Error → Type 0) (new : ReleaseDoc) (step : Result (Option (Collect S × Update)) Error) (x : Result (Unit {0}) Error) → HasEnded step x → Steps refuses serves yields v e text name may new step → may new x
  ended_by may new (Ok None) x is h = subst (may new) (sym is) h
  ended_by may new (Err w) x is h = subst (may new) (sym is) h
  ended_by may new (Ok (Some p)) x is h = absurd is

  module _ (o : Option (Collect S)) (f : Collect S) (u : Option UpdateDoc) (out : Result (Vec ℕ Global) TransportError) (is : o ≡ Some f) (came : Collects (bounds_of f) (yields (collected f)) (held_by f) out)
      (after : EditorDoc ReleaseDoc T) (edited : IsEdited e after) (step : Result (Option (Collect S × Update)) Error)
      (steps : Steps refuses serves yields v e text name (GainsBy refuses serves yields v e text name u out) after.edits step) where
    pub keeps_updates : (p : Poll (Result (Unit {0}) Error)) → IfReady p (HasEnded step) → IfReady p (Updates refuses serves yields v e text name o u after.edits)
    keeps_updates (Ready x) h = polled o f u out after.edits x is came (ended_by (GainsBy refuses serves yields v e text name u out) after.edits step x h steps)
    keeps_updates Pending h = tt

    pub keeps_value : (p : Poll (Result (Unit {0}) Error)) → IfReady p (HasEnded step) → IfReady p (λ x. (new : ReleaseDoc) × Updates refuses serves yields v e text name o u new x)
    keeps_value (Ready x) h = (after.edits, polled o f u out after.edits x is came (ended_by (GainsBy refuses serves yields v e text name u out) after.edits step x h steps))
    keeps_value Pending h = tt

  stays_by : (after : EditorDoc ReleaseDoc T) (may : ReleaseDoc → Result (Unit {0}) Error → Type 0) (step : Result (Option (Collect S × Update)) Error) (fetch : Option (Collect S)) (update : Option Update) → GoesOn step fetch update → Steps refuses serves yields v e text name may after.edits step
      → after.edits ≡ e.edits
  stays_by after may (Ok None) fetch update goes h = absurd goes
  stays_by after may (Err w) fetch update goes h = absurd goes
  stays_by after may (Ok (Some p)) fetch update goes h = h.0

  pub keeps_waits : (after : EditorDoc ReleaseDoc T) → IsEdited e after → (may : ReleaseDoc → Result (Unit {0}) Error → Type 0) (step : Result (Option (Collect S × Update)) Error) → Steps refuses serves yields v e text name may after.edits step → (fetch : Option (Collect S)) (update : Option Update)
      (p : Poll (Result (Unit {0}) Error)) → OnPending p (GoesOn step fetch update) → OnPending p (after ≡ e)
  keeps_waits after edited may step steps fetch update (Ready x) h = tt
  keeps_waits after edited may step steps fetch update Pending h = same_editor e after edited (stays_by after may step fetch update h steps)

  goes_same : (o : Option (Collect S)) (f : Collect S) (u : Option UpdateDoc) (out : Result (Vec ℕ Global) TransportError) → o ≡ Some f → Collects (bounds_of f) (yields (collected f)) (held_by f) out → (after : EditorDoc ReleaseDoc T) → IsEdited e after
      → (step : Result (Option (Collect S × Update)) Error) → Steps refuses serves yields v e text name (GainsBy refuses serves yields v e text name u out) after.edits step → (fetch : Option (Collect S)) (update : Option Update) → GoesOn step fetch update
      → (r : Result (Unit {0}) Error) → ((new : ReleaseDoc) × Updates refuses serves yields v after text name fetch (option_map update_doc update) new r) → ((new : ReleaseDoc) × Updates refuses serves yields v e text name o u new r)
  goes_same o f u out is came after edited (Ok None) steps fetch update goes r h = absurd goes
  goes_same o f u out is came after edited (Err w) steps fetch update goes r h = absurd goes
  goes_same o f u out is came after edited (Ok (Some p)) steps fetch update goes r h =
      let k = subst (λ z. Updates refuses serves yields v after text name z (option_map update_doc update) h.0 r) goes.0 h.1 in
      let m = subst (λ z. Updates refuses serves yields v after text name (Some p.0) (option_map update_doc z) h.0 r) goes.1 k in
      stepped o f u out is came after edited p.0 p.1 steps r (h.0, m)

  pub keeps_same : (o : Option (Collect S)) (f : Collect S) (u : Option UpdateDoc) (out : Result (Vec ℕ Global) TransportError) → o ≡ Some f → Collects (bounds_of f) (yields (collected f)) (held_by f) out → (after : EditorDoc ReleaseDoc T) → IsEdited e after
      → (step : Result (Option (Collect S × Update)) Error) → Steps refuses serves yields v e text name (GainsBy refuses serves yields v e text name u out) after.edits step → (fetch : Option (Collect S)) (update : Option Update) (p : Poll (Result (Unit {0}) Error)) → OnPending p (GoesOn step fetch update)
      → OnPending p ((r : Result (Unit {0}) Error) → ((new : ReleaseDoc) × Updates refuses serves yields v after text name fetch (option_map update_doc update) new r) → ((new : ReleaseDoc) × Updates refuses serves yields v e text name o u new r))
  keeps_same o f u out is came after edited step steps fetch update (Ready x) h = tt
  keeps_same o f u out is came after edited step steps fetch update Pending h = goes_same o f u out is came after edited step steps fetch update h

goes_again : {S : Type 0} (can_poll : S → Type 0) (step : Result (Option (Collect S × Update)) Error) (fetch : Option (Collect S)) (update : Option Update) → CanGoOn can_poll step → GoesOn step fetch update → IfSome fetch (CanPoll can_poll)
goes_again can_poll (Ok None) fetch update can goes = absurd goes
goes_again can_poll (Err w) fetch update can goes = absurd goes
goes_again can_poll (Ok (Some p)) fetch update can goes = subst (λ o. IfSome o (CanPoll can_poll)) (sym goes.0) can

pub keeps_again : {S : Type 0} (can_poll : S → Type 0) (step : Result (Option (Collect S × Update)) Error) → CanGoOn can_poll step → (fetch : Option (Collect S)) (update : Option Update) (p : Poll (Result (Unit {0}) Error)) → OnPending p (GoesOn step fetch update) → OnPending p (IfSome fetch (CanPoll can_poll))
keeps_again can_poll step can fetch update (Ready x) h = tt
keeps_again can_poll step can fetch update Pending h = goes_again can_poll step fetch update can h

pub keeps_heard : (cx : Context) (needs : ℕ → Type 0) (p : Poll (Result (Unit {0}) Error)) → OnPending p (Covers cx (λ n. ⊤)) → OnPending p (Covers cx needs)
keeps_heard cx needs (Ready x) h = tt
keeps_heard cx needs Pending h = (h.0, λ s k. h.1 s tt)
