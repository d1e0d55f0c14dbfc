-- The documents that were signed reach their thresholds, and so do those that were taken over.
use Rattle.std.proofs.Common.{◌≡◌, ℕ, ℤ, List, Bool, true, false, is_some, Option, Some, None, option_map, ◌⊎◌, inl, inr, refl, sym, ap, subst, ◌∙◌}
use Rattle.std.specs.Prelude.{if◌then◌else◌}
use Rattle.std.specs.Map.{keys_of}
use Rattle.std.specs.List.Sorted.{IsStrictlySortedBy}
use Rattle.std.proofs.lemmas.Bool.{true≢false, false≢true}
use Rattle.std.proofs.lemmas.Slice.Eq.{bytes_eq-Decides}
use Rattle.serde_json.specs.Data.{Data}
use Rattle.tough_json.proofs.lemmas.Write.{some-inj}
use Rattle.tough_keys.specs.Key.{KeyDoc}
use Rattle.tough_keys.specs.Same.{Verifies}
use Rattle.tough_roles.specs.Chain.{ReachesUnder}
use Rattle.tough_roles.specs.RoleId.{RoleIdDoc, standard, delegated}
use Rattle.tough_roles.specs.Root.{RootDoc, by_bytes}
use Rattle.tough_roles.specs.Signature.{SignedDoc, signed_doc}
use Rattle.tough_roles.specs.Snapshot.{snapshot_doc, snapshot_json}
use Rattle.tough_roles.specs.Timestamp.{timestamp_doc, timestamp_json}
use Rattle.tough_roles.specs.declared.role_type.RoleType.{RoleType as Kind}
use Rattle.tough_roles.specs.declared.role_type.RoleType.TheVariants as types
use Rattle.tough_roles.specs.declared.signed.Signed.{Signed}
use Rattle.tough_schema.specs.Delegations.{DelegationsDoc}
use Rattle.tough_schema.specs.Fresh.{carriers_below}
use Rattle.tough_schema.specs.Put.{is_role, with_document}
use Rattle.tough_schema.specs.Seek.{Sought, if_delegated, seek, seek_in, sought, parent, first_named, standing_in}
use Rattle.tough_schema.specs.Targets.{TargetsDoc, targets_json, delegated_doc, delegated_name, delegated_id, KeysRise}
use Rattle.tough_schema.specs.Verify.{ReachesDelegated}
use Rattle.tough_schema.specs.Whole.{TreeDoc, tree, DelegationsTree, held_doc, named_tree, top_doc}
use Rattle.tough_schema.specs.declared.targets.DelegatedTargets.{DelegatedTargets, out-DelegatedTargets}
use Rattle.tough_schema.proofs.lemmas.Wholes.{held-below, named-out, top-tells}
use Rattle.tough_trust.specs.delegations.Bare.{top_page}
use Rattle.tough_update.specs.Stages.{SettingDoc}
use Rattle.tough_update.specs.growth.Full.{IsFull}
use Rattle.tough_update.specs.growth.Once.{Distinct}
use Rattle.tough_update.specs.growth.Under.{page_of, Relation, Below}
use Rattle.tough_sign.specs.Making.{SignWell}
use Rattle.tough_signed.specs.Holders.{HolderDoc, by_root, by_delegations}
use Rattle.tough_signed.specs.Refusals.{is_lenient}
use Rattle.tough_signed.specs.Signing.{IsSignedFor}
use Rattle.tough_signed.specs.Standing.{json_of}
use Rattle.tough_signed.specs.Roles.{signed_of}
use Rattle.tough_plain.proofs.Plain.{under, under-delegations}
use Rattle.tough_edit.specs.Edits.{EditsDoc}
use Rattle.tough_edit.specs.Signed.{IsCreatedFor, id_of}
use Rattle.tough_release.specs.Closing.{IsPutIn, IsPlaced, IsClosed}
use Rattle.tough_release.specs.Edits.{ReleaseDoc}
use Rattle.tough_release.specs.Holding.{is_top, top_name, delegations_top, holder_below}
use Rattle.tough_release.specs.Release.{json_of_snapshot, json_of_timestamp, IsMade}
use Rattle.tough_release.specs.Repository.{snapshot_of, timestamp_of}
use Rattle.tough_release.specs.declared.repository.SignedRepository.{SignedRepository}
use Rattle.tough_round.specs.Files.{root_in_it, timestamp_in_it, snapshot_in_it, tree_in_it}
use Rattle.tough_round.specs.Loading.{IsRoleName, IsOpened, Vouch, IsSound, MayLoad}
use Rattle.tough_round.proofs.Placing.{Opened, put-below}
use Rattle.tough_round.proofs.Words.{map-some}
use Rattle.tough_round.proofs.Trees.{weaker-below, both-below, Both, stands-below}

-- what signing promises of documents of one type, under a root and under delegations
abbrev pub ReachesRoot : {T S : Type 0} → (T → Option Data) → Kind → (S → KeyDoc) → (S → List ℕ → List ℕ → Type 0) → Type 0
ReachesRoot {T} {S} json kind key_of signs = (v : Verifies) (r : RootDoc) (type : Kind) (signers : List S) (s : Signed T) → is_lenient kind ≡ false → IsStrictlySortedBy by_bytes (keys_of r.keys) → SignWell v key_of signs signers
    → IsSignedFor json kind key_of signs (by_root r) (standard type) signers s → ReachesUnder v r type json (signed_doc (λ x. x) s)

abbrev pub ReachesBelow : {T S : Type 0} → (T → Option Data) → Kind → (S → KeyDoc) → (S → List ℕ → List ℕ → Type 0) → Type 0
ReachesBelow {T} {S} json kind key_of signs = (v : Verifies) (g : DelegationsDoc) (name : List ℕ) (signers : List S) (s : Signed T) → is_lenient kind ≡ false → IsStrictlySortedBy by_bytes (keys_of g.keys) → SignWell v key_of signs signers
    → IsSignedFor json kind key_of signs (by_delegations g) (delegated name) signers s → ReachesDelegated v g name json (signed_doc (λ x. x) s)

-- ---- a document under the name of its role

held-page : (d : Signed DelegatedTargets) → signed_doc delegated_doc d ≡ page_of (held_doc d)
held-page d = ap (λ (t : TargetsDoc). let p : SignedDoc TargetsDoc = record { role = t; signatures = (held_doc d).signatures } in p) (top-tells (out-DelegatedTargets d.signed).targets ∙ ap top_doc (sym (held-below d)))

pub name-is : (d : DelegatedTargets) (n : List ℕ) (t : TreeDoc) → named_tree d ≡ (n, t) → delegated_name d ≡ n
name-is d n t h = sym (ap (λ (x : List ℕ × TreeDoc). x.0) (named-out d)) ∙ ap (λ (x : List ℕ × TreeDoc). x.0) h

top-id : (n : List ℕ) → is_top n ≡ true → delegated_id n ≡ standard types.Targets
top-id n h = ap (λ b. if b then standard types.Targets else delegated n) h

pub below-id : (n : List ℕ) → is_top n ≡ false → delegated_id n ≡ delegated n
below-id n h = ap (λ b. if b then standard types.Targets else delegated n) h

is-role-in : (name : List ℕ) (t : TreeDoc) → is_role (sought name t) ≡ true → is_role (seek_in name t) ≡ true
is-role-in name (tree o bs) h = under-keys o.keys (seek name bs) h where
  under-keys : {A : Type 0} (k : Option A) (s : Sought) → is_role (if_delegated k s) ≡ true → is_role s ≡ true
  under-keys None s h = absurd (false≢true h)
  under-keys (Some k) s h = h

some-other : {A : Type 0} (a : A) (o : Option A) → o ≡ None → o ≡ Some a → ⊥
some-other a o h k = cc

module _ {S : Type 0} (key_of : S → KeyDoc) (signs : S → List ℕ → List ℕ → Type 0) (signers : List S) (v : Verifies) (well : SignWell v key_of signs signers) where
  module _ (roots : ReachesRoot json_of types.DelegatedTargets key_of signs) (belows : ReachesBelow json_of types.DelegatedTargets key_of signs) where
    -- the editor's document, created for the root
    created-top : (editor : EditsDoc) (root : RootDoc) (holder : HolderDoc) (d : Signed DelegatedTargets) → is_top editor.name ≡ true → holder ≡ by_root root → IsStrictlySortedBy by_bytes (keys_of root.keys)
        → IsCreatedFor key_of signs editor holder signers d → ReachesUnder v root types.Targets targets_json (page_of (held_doc d))
    created-top editor root holder d top held sorted made =
        let name : delegated_name d.signed ≡ editor.name = name-is d.signed editor.name _ made.built.document in
        let id : id_of d.signed ≡ standard types.Targets = ap delegated_id name ∙ top-id editor.name top in
        let signed = subst (λ (h : HolderDoc). IsSignedFor json_of types.DelegatedTargets key_of signs h (standard types.Targets) signers d) held (subst (λ (i : RoleIdDoc). IsSignedFor json_of types.DelegatedTargets key_of signs holder i signers d) id made.signed) in
        subst (ReachesUnder v root types.Targets targets_json) (held-page d) (under targets_json delegated_doc v root types.Targets d (roots v root types.Targets signers d refl sorted well signed))

    -- the same, created for delegations
    created-below : (editor : EditsDoc) (g : DelegationsDoc) (holder : HolderDoc) (d : Signed DelegatedTargets) → is_top editor.name ≡ false → holder ≡ by_delegations g → KeysRise (Some g)
        → IsCreatedFor key_of signs editor holder signers d → ReachesDelegated v g editor.name targets_json (page_of (held_doc d))
    created-below editor g holder d top held sorted made =
        let name : delegated_name d.signed ≡ editor.name = name-is d.signed editor.name _ made.built.document in
        let id : id_of d.signed ≡ delegated editor.name = ap delegated_id name ∙ below-id editor.name top in
        let signed = subst (λ (h : HolderDoc). IsSignedFor json_of types.DelegatedTargets key_of signs h (delegated editor.name) signers d) held (subst (λ (i : RoleIdDoc). IsSignedFor json_of types.DelegatedTargets key_of signs holder i signers d) id made.signed) in
        subst (ReachesDelegated v g editor.name targets_json) (held-page d) (under-delegations targets_json delegated_doc v g editor.name d (belows v g editor.name signers d refl sorted well signed))

    module _ (s : SettingDoc) (start : ℤ) (e closed : ReleaseDoc) (r : SignedRepository) (may : MayLoad v s start e r) (closes : IsClosed key_of signs signers e closed) (made : IsMade key_of signs signers closed r)
        (sorted : IsStrictlySortedBy by_bytes (keys_of (root_in_it r).role.keys)) (rise-top : KeysRise (top_page (tree_in_it r)).role.delegations) (rise : Below (λ g n p. KeysRise p.role.delegations) (tree_in_it r).role) where
      -- ---- the root and the targets are those of the edits

      put-root : (editor : EditsDoc) → IsPutIn key_of signs signers editor e closed → e.root ≡ root_in_it r
      put-root editor p = sym (made.root ∙ ap (λ (x : ReleaseDoc). x.root) p.closed)

      put-tree : (editor : EditsDoc) (p : IsPutIn key_of signs signers editor e closed) → p.targets ≡ tree_in_it r
      put-tree editor p = some-inj (sym (ap (λ (x : ReleaseDoc). x.targets) p.closed) ∙ made.there) ∙ sym made.files.targets

      held-name : (editor : EditsDoc) (p : IsPutIn key_of signs signers editor e closed) → (held_doc p.document).name ≡ editor.name
      held-name editor p = ap (λ (x : List ℕ × TreeDoc). x.0) p.created.built.document

      -- ---- the targets

      top-held : (editor : EditsDoc) (p : IsPutIn key_of signs signers editor e closed) → is_top editor.name ≡ true → by_root e.root.role ≡ p.holder
      top-held editor p top = some-inj (sym (ap (λ b. if b then Some (by_root e.root.role) else holder_below editor.name e.targets) top) ∙ p.held)

      top-placed : (editor : EditsDoc) (p : IsPutIn key_of signs signers editor e closed) → is_top editor.name ≡ true → IsPlaced (held_doc p.document) e.targets p.targets → page_of (held_doc p.document) ≡ top_page (tree_in_it r)
      top-placed editor p top (inl k) = sym (ap top_page k.1) ∙ ap top_page (put-tree editor p)
      top-placed editor p top (inr k) = absurd (true≢false (sym (ap is_top (held-name editor p) ∙ top) ∙ k.0))

      put-top : (editor : EditsDoc) (p : IsPutIn key_of signs signers editor e closed) → is_top editor.name ≡ true → ReachesUnder v (root_in_it r).role types.Targets targets_json (top_page (tree_in_it r))
      put-top editor p top =
          let same : e.root.role ≡ (root_in_it r).role = ap (λ (x : SignedDoc RootDoc). x.role) (put-root editor p) in
          let reached = created-top editor e.root.role p.holder p.document top (sym (top-held editor p top)) (subst (λ (x : RootDoc). IsStrictlySortedBy by_bytes (keys_of x.keys)) (sym same) sorted) p.created in
          subst (λ (x : RootDoc). ReachesUnder v x types.Targets targets_json (top_page (tree_in_it r))) same (subst (ReachesUnder v e.root.role types.Targets targets_json) (top-placed editor p top p.placed) reached)

      opened-is : (name : List ℕ) → IsOpened e name → (editor : EditsDoc) → e.editor ≡ Some editor → editor.name ≡ name
      opened-is name o editor is = ap (λ (x : EditsDoc). x.name) (some-inj (sym is ∙ o.1)) ∙ o.2

      targets-of : IsClosed key_of signs signers e closed → (IsOpened e top_name ⊎ ReachesUnder v (root_in_it r).role types.Targets targets_json (top_page (tree_in_it r))) → ReachesUnder v (root_in_it r).role types.Targets targets_json (top_page (tree_in_it r))
      targets-of k (inr h) = h
      targets-of (inl k) (inl o) = absurd (some-other o.0 e.editor k.0 o.1)
      targets-of (inr k) (inl o) = put-top k.0 k.2 ((bytes_eq-Decides k.0.name top_name).1 (opened-is top_name o k.0 k.1))

      pub targets-reach : ReachesUnder v (root_in_it r).role types.Targets targets_json (top_page (tree_in_it r))
      targets-reach = targets-of closes may.targets_signed

      -- ---- the documents below

      -- where no editor of a delegated role was open, all were taken over
      taken-over : ((g : Option DelegationsDoc) (n : List ℕ) → IsOpened e n → IsRoleName n → ⊥) → Below (Vouch v) (tree_in_it r).role
      taken-over none = weaker-below (IsSound v s start e) (Vouch v) settle (tree_in_it r).role may.roles where
        settle : (g : Option DelegationsDoc) (n : List ℕ) (p : SignedDoc TargetsDoc) → IsSound v s start e g n p → Vouch v g n p
        settle g n p h = side h.vouched where
          side : (IsOpened e n × (is_some g ≡ true)) ⊎ Vouch v g n p → Vouch v g n p
          side (inl o) = absurd (none g n o.0 h.named)
          side (inr k) = k

      -- what the keys being in order vouches for
      abbrev Ordered : Relation
      Ordered g n p = KeysRise g → Vouch v g n p

      below-held : (editor : EditsDoc) (p : IsPutIn key_of signs signers editor e closed) → is_top editor.name ≡ false → (old : SignedDoc TreeDoc) → e.targets ≡ Some old
          → (d : DelegationsTree) × (first_named editor.name (standing_in old.role) ≡ Some d) × (by_delegations (delegations_top d) ≡ p.holder)
      below-held editor p top old is =
          let held : option_map (λ g. by_delegations (delegations_top g)) (parent editor.name old.role) ≡ Some p.holder =
          sym (ap (λ (o : Option (SignedDoc TreeDoc)). holder_below editor.name o) is) ∙ (sym (ap (λ b. if b then Some (by_root e.root.role) else holder_below editor.name e.targets) top) ∙ p.held) in
          map-some (λ g. by_delegations (delegations_top g)) (parent editor.name old.role) p.holder held

      put-in-tree : (editor : EditsDoc) → e.editor ≡ Some editor → (p : IsPutIn key_of signs signers editor e closed) → is_top editor.name ≡ false → IsPlaced (held_doc p.document) e.targets p.targets → Below (Vouch v) (tree_in_it r).role
      put-in-tree editor is p top (inl k) = absurd (true≢false (sym k.0 ∙ (ap is_top (held-name editor p) ∙ top)))
      put-in-tree editor is p top (inr k) =
          let h = held_doc p.document in
          let name = held-name editor p in
          let old = k.1 in
          let d = below-held editor p top old k.2 in
          let new : with_document h.name h old.role ≡ (tree_in_it r).role = ap (λ (x : SignedDoc TreeDoc). x.role) (sym k.4 ∙ put-tree editor p) in
          let signed : Ordered (Some (delegations_top d.0)) h.name (page_of h) = λ up. subst (λ (n : List ℕ). ReachesDelegated v (delegations_top d.0) n targets_json (page_of h)) (sym name) (created-below editor (delegations_top d.0) p.holder p.document top (sym d.2) up p.created) in
          let others : Below (Opened h.name h Ordered) (tree_in_it r).role = weaker-below (IsSound v s start e) (Opened h.name h Ordered) (λ g n q sound. sides g n q h.name (name ∙ refl) editor is sound.vouched) (tree_in_it r).role may.roles in
          let all : Below Ordered (with_document h.name h old.role) =
          put-below h.name h Ordered old.role d.0 (is-role-in h.name old.role k.3) (ap (λ (n : List ℕ). first_named n (standing_in old.role)) name ∙ d.1) signed
          (subst IsFull (sym new) may.full) (subst (λ (t : TreeDoc). Distinct (carriers_below t)) (sym new) may.once) (subst (Below (Opened h.name h Ordered)) (sym new) others) in
          weaker-below (Both Ordered (λ g n q. KeysRise g)) (Vouch v) (λ g n q both. both.0 both.1) (tree_in_it r).role
          (both-below Ordered (λ g n q. KeysRise g) (tree_in_it r).role (subst (Below Ordered) new all) (stands-below KeysRise (tree_in_it r).role rise-top rise)) where
            sides : (g : Option DelegationsDoc) (n : List ℕ) (q : SignedDoc TargetsDoc) (m : List ℕ) → m ≡ editor.name → (x : EditsDoc) → e.editor ≡ Some x → (IsOpened e n × (is_some g ≡ true)) ⊎ Vouch v g n q → ((n ≡ m) × (is_some g ≡ true)) ⊎ (KeysRise g → Vouch v g n q)
            sides g n q m same x there (inl o) = inl (sym (opened-is n o.0 editor is) ∙ sym same, o.1)
            sides g n q m same x there (inr vouched) = inr (λ up. vouched)

      vouched-by : IsClosed key_of signs signers e closed → Below (Vouch v) (tree_in_it r).role
      vouched-by (inl k) = taken-over (λ g n o name. some-other o.0 e.editor k.0 o.1)
      vouched-by (inr k) = side (is_top k.0.name) refl where
        side : (b : Bool) → is_top k.0.name ≡ b → Below (Vouch v) (tree_in_it r).role
        side true top = taken-over (λ g n o name. name.targets (sym (opened-is n o k.0 k.1) ∙ (bytes_eq-Decides k.0.name top_name).0 top))
        side false top = put-in-tree k.0 k.1 k.2 top k.2.placed

      pub vouched-below : Below (Vouch v) (tree_in_it r).role
      vouched-below = vouched-by closes

  -- ---- snapshot and timestamp

  module _ (closed : ReleaseDoc) (r : SignedRepository) (made : IsMade key_of signs signers closed r) (sorted : IsStrictlySortedBy by_bytes (keys_of (root_in_it r).role.keys)) where
    pub snapshot-reaches : ReachesRoot json_of_snapshot types.Snapshot key_of signs → ReachesUnder v (root_in_it r).role types.Snapshot snapshot_json (snapshot_in_it r)
    snapshot-reaches roots =
        under snapshot_json snapshot_doc v (root_in_it r).role types.Snapshot (signed_of (snapshot_of r))
        (roots v (root_in_it r).role types.Snapshot signers (signed_of (snapshot_of r)) refl sorted well
        (subst (λ (x : SignedDoc RootDoc). IsSignedFor json_of_snapshot types.Snapshot key_of signs (by_root x.role) (standard types.Snapshot) signers (signed_of (snapshot_of r))) (sym made.root) made.snapshot.signed))

    pub timestamp-reaches : ReachesRoot json_of_timestamp types.Timestamp key_of signs → ReachesUnder v (root_in_it r).role types.Timestamp timestamp_json (timestamp_in_it r)
    timestamp-reaches roots =
        under timestamp_json timestamp_doc v (root_in_it r).role types.Timestamp (signed_of (timestamp_of r))
        (roots v (root_in_it r).role types.Timestamp signers (signed_of (timestamp_of r)) refl sorted well
        (subst (λ (x : SignedDoc RootDoc). IsSignedFor json_of_timestamp types.Timestamp key_of signs (by_root x.role) (standard types.Timestamp) signers (signed_of (timestamp_of r))) (sym made.root) made.timestamp.signed))
