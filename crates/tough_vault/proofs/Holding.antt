-- What the files hold after a write.
use Rattle.std.proofs.Common.{◌≡◌, ◌≢◌, ℕ, ℤ, List, [], ◌∷◌, ◌++◌, Option, None, Some, Bool, true, false, slice_get, refl, sym, ap, ◌∙◌, subst, inl, inr, nat_eq, length, arith}
use Rattle.std.proofs.lemmas.Bool.Decides.{nat_tests}
use Rattle.tough_keys.specs.Same.{Verifies}
use Rattle.tough_roles.specs.Chain.{ReachesUnder}
use Rattle.tough_roles.specs.declared.role_type.RoleType.TheVariants as role
use Rattle.tough_vault.specs.Stored.{Files, SameElsewhere}
use Rattle.tough_roles.specs.Signature.{SignedDoc, signed_json}
use Rattle.tough_roles.specs.Root.{RootDoc, AreOwn, root_json}
use Rattle.tough_roles.specs.Timestamp.{TimestampDoc, timestamp_json}
use Rattle.tough_roles.specs.Snapshot.{SnapshotDoc, snapshot_json}
use Rattle.tough_checks.specs.Files.{time_file, root_file, timestamp_file, snapshot_file, IsFree}
use Rattle.tough_checks.specs.Documents.{root_text, root_in, timestamp_text, timestamp_in, snapshot_text, snapshot_in, ReadsBack}
use Rattle.tough_checks.specs.StoredDocuments.{stored_time}
use Rattle.tough_checks.specs.Checks.{versions_in, roles_in}
use Rattle.tough_vault.specs.Steps.{time_text}
use Rattle.tough_checks.specs.Versions.{Pair, Roles}
use Rattle.tough_vault.specs.Journal.{Note, Noted, Root, Timestamp, Snapshot, Cleared, Document, Last, applied}
use Rattle.tough_vault.specs.Parts.{Holds, HoldsTime, HoldsTimestamp, HoldsSnapshot, HoldsRoot, NamesFree}
use Rattle.tough_vault.proofs.Journals.{some_inj, get_append}

not_eq : (a b : ℕ) → nat_eq a b ≡ false → a ≡ b → ⊥
not_eq a b h x = absurd (grind (arith, nat_tests))

-- two names of different lengths
pub distinct : (a b : List ℕ) → nat_eq (length a) (length b) ≡ false → a ≢ b
distinct a b h x = not_eq (length a) (length b) h (ap length x)

module _ (files now : Files) (notes : List Note) (tip : Last)
    (h : Holds files notes tip) (free : NamesFree notes) where
  module _ (file : List ℕ) (same : SameElsewhere file files now) where
    keep_time : time_file ≢ file → (t : ℤ) → tip.time ≡ Some t → HoldsTime t (now time_file)
    keep_time ne t e = subst (HoldsTime t) (sym (same time_file ne)) (h.time t e)

    keep_timestamp : timestamp_file ≢ file → (p : Pair) → tip.timestamp ≡ Some p → HoldsTimestamp p (now timestamp_file)
    keep_timestamp ne p e = subst (HoldsTimestamp p) (sym (same timestamp_file ne)) (h.timestamp p e)

    keep_snapshot : snapshot_file ≢ file → (r : Roles) → tip.snapshot ≡ Some r → HoldsSnapshot r (now snapshot_file)
    keep_snapshot ne r e = subst (HoldsSnapshot r) (sym (same snapshot_file ne)) (h.snapshot r e)

    keep_root : root_file ≢ file → (v : ℕ) → tip.root ≡ Some v → HoldsRoot v (now root_file)
    keep_root ne v e = subst (HoldsRoot v) (sym (same root_file ne)) (h.root v e)

    -- the documents' files stay there, where the written file is there or has no free name
    keep_document : (k : ℕ) (name : List ℕ) → name ≢ file → slice_get notes k ≡ Some (Document name) → now name ≢ None
    keep_document k name ne e x = h.documents k name e (sym (same name ne) ∙ x)

  pub holds_noted : (t : ℤ) → SameElsewhere time_file files now → now time_file ≡ time_text t → time_text t ≢ None → stored_time (time_text t) ≡ Some t
      → Holds now (notes ++ Noted t ∷ []) (applied tip (Noted t))
  holds_noted t same is there back = record {
    time = λ u e. (is ∙ ap time_text (some_inj t u e), λ x. there (sym is ∙ x), ap stored_time is ∙ (back ∙ e));
    timestamp = keep_timestamp time_file same (distinct _ _ refl);
    snapshot = keep_snapshot time_file same (distinct _ _ refl);
    root = keep_root time_file same (distinct _ _ refl);
    documents = λ k name e. elim (get_append notes (Noted t) k (Document name) e) [ inl a ↦ keep_document time_file same k name (free k name a).time a | inr b ↦ absurd (cc (b)) ];
  }

  pub holds_timestamp : (d : SignedDoc TimestampDoc) (had : Bool) → SameElsewhere timestamp_file files now → now timestamp_file ≡ timestamp_text d → timestamp_text d ≢ None
      → ReadsBack timestamp_in (signed_json timestamp_json d) d (timestamp_text d)
      → Holds now (notes ++ Timestamp (versions_in d.role) had ∷ []) (applied tip (Timestamp (versions_in d.role) had))
  holds_timestamp d had same is there back = record {
    time = keep_time timestamp_file same (distinct _ _ refl);
    timestamp = λ p e. (d, is, λ x. there (sym is ∙ x), some_inj (versions_in d.role) p e, λ bytes f. back bytes (sym is ∙ f));
    snapshot = keep_snapshot timestamp_file same (distinct _ _ refl);
    root = keep_root timestamp_file same (distinct _ _ refl);
    documents = λ k name e. elim (get_append notes (Timestamp (versions_in d.role) had) k (Document name) e) [ inl a ↦ keep_document timestamp_file same k name (free k name a).timestamp a | inr b ↦ absurd (cc (b)) ];
  }

  pub holds_snapshot : (d : SignedDoc SnapshotDoc) (had : Bool) → SameElsewhere snapshot_file files now → now snapshot_file ≡ snapshot_text d → snapshot_text d ≢ None
      → ReadsBack snapshot_in (signed_json snapshot_json d) d (snapshot_text d)
      → Holds now (notes ++ Snapshot (roles_in d.role) had ∷ []) (applied tip (Snapshot (roles_in d.role) had))
  holds_snapshot d had same is there back = record {
    time = keep_time snapshot_file same (distinct _ _ refl);
    timestamp = keep_timestamp snapshot_file same (distinct _ _ refl);
    snapshot = λ r e. (d, is, λ x. there (sym is ∙ x), some_inj (roles_in d.role) r e, λ bytes f. back bytes (sym is ∙ f));
    root = keep_root snapshot_file same (distinct _ _ refl);
    documents = λ k name e. elim (get_append notes (Snapshot (roles_in d.role) had) k (Document name) e) [ inl a ↦ keep_document snapshot_file same k name (free k name a).snapshot a | inr b ↦ absurd (cc (b)) ];
  }

  pub holds_root : (r : SignedDoc RootDoc) → SameElsewhere root_file files now → now root_file ≡ root_text r → root_text r ≢ None
      → (verifies : Verifies) × ReachesUnder verifies r.role role.Root root_json r
      → (AreOwn r.role.keys → ReadsBack root_in (signed_json root_json r) r (root_text r))
      → Holds now (notes ++ Root r.role.head.version false ∷ []) (applied tip (Root r.role.head.version false))
  holds_root r same is there signed back = record {
    time = keep_time root_file same (distinct _ _ refl);
    timestamp = keep_timestamp root_file same (distinct _ _ refl);
    snapshot = keep_snapshot root_file same (distinct _ _ refl);
    root = λ v e. (r, is, λ x. there (sym is ∙ x), some_inj r.role.head.version v e, signed, λ own bytes f. back own bytes (sym is ∙ f));
    documents = λ k name e. elim (get_append notes (Root r.role.head.version false) k (Document name) e) [ inl a ↦ keep_document root_file same k name (free k name a).root a | inr b ↦ absurd (cc (b)) ];
  }

  pub holds_document : (name : List ℕ) (text : Option (List ℕ)) → IsFree name → SameElsewhere name files now → now name ≡ text → text ≢ None
      → Holds now (notes ++ Document name ∷ []) (applied tip (Document name))
  holds_document name text f same is there = record {
    time = keep_time name same (λ x. f.time (sym x));
    timestamp = keep_timestamp name same (λ x. f.timestamp (sym x));
    snapshot = keep_snapshot name same (λ x. f.snapshot (sym x));
    root = keep_root name same (λ x. f.root (sym x));
    documents = λ k other e gone.
        let ne : other ≢ name = λ x. there (sym is ∙ (sym (ap now x) ∙ gone)) in
        elim (get_append notes (Document name) k (Document other) e) [ inl a ↦ keep_document name same k other ne a gone | inr b ↦ absurd (ne (cc (b))) ];
  }

  -- nothing was written
  pub holds_same : ((name : List ℕ) → now name ≡ files name) → Holds now notes tip
  holds_same same = record {
    time = λ t e. subst (HoldsTime t) (sym (same time_file)) (h.time t e);
    timestamp = λ p e. subst (HoldsTimestamp p) (sym (same timestamp_file)) (h.timestamp p e);
    snapshot = λ r e. subst (HoldsSnapshot r) (sym (same snapshot_file)) (h.snapshot r e);
    root = λ v e. subst (HoldsRoot v) (sym (same root_file)) (h.root v e);
    documents = λ k name e x. h.documents k name e (sym (same name) ∙ x);
  }

  pub holds_cleared : ((name : List ℕ) → name ≢ timestamp_file → name ≢ snapshot_file → now name ≡ files name)
      → Holds now (notes ++ Cleared ∷ []) (applied tip Cleared)
  holds_cleared same = record {
    time = λ t e. subst (HoldsTime t) (sym (same time_file (distinct _ _ refl) (distinct _ _ refl))) (h.time t e);
    timestamp = λ p e. absurd (cc (e));
    snapshot = λ r e. absurd (cc (e));
    root = λ v e. subst (HoldsRoot v) (sym (same root_file (distinct _ _ refl) (distinct _ _ refl))) (h.root v e);
    documents = λ k name e x. elim (get_append notes Cleared k (Document name) e) [ inl a ↦ h.documents k name a (sym (same name (free k name a).timestamp (free k name a).snapshot) ∙ x) | inr b ↦ absurd (cc (b)) ];
  }

-- a root was written, and then timestamp and snapshot were removed
pub holds_replaced : (files between now : Files) (notes : List Note) (tip : Last) → Holds files notes tip → NamesFree notes
    → (r : SignedDoc RootDoc) → SameElsewhere root_file files between → between root_file ≡ root_text r → root_text r ≢ None
    → (verifies : Verifies) × ReachesUnder verifies r.role role.Root root_json r
    → (AreOwn r.role.keys → ReadsBack root_in (signed_json root_json r) r (root_text r))
    → ((name : List ℕ) → name ≢ timestamp_file → name ≢ snapshot_file → now name ≡ between name)
    → Holds now (notes ++ Root r.role.head.version true ∷ []) (applied tip (Root r.role.head.version true))
holds_replaced files between now notes tip h free r written is there signed back same =
    let kept : now root_file ≡ root_text r = same root_file (distinct _ _ refl) (distinct _ _ refl) ∙ is in
    record {
      time = λ t e. subst (HoldsTime t) (sym (same time_file (distinct _ _ refl) (distinct _ _ refl) ∙ written time_file (distinct _ _ refl))) (h.time t e);
      timestamp = λ p e. absurd (cc (e));
      snapshot = λ q e. absurd (cc (e));
      root = λ v e. (r, kept, λ x. there (sym kept ∙ x), some_inj r.role.head.version v e, signed, λ own bytes f. back own bytes (sym kept ∙ f));
      documents = λ k name e x. elim (get_append notes (Root r.role.head.version true) k (Document name) e) [ inl a ↦ h.documents k name a (sym (written name (free k name a).root) ∙ (sym (same name (free k name a).timestamp (free k name a).snapshot) ∙ x)) | inr b ↦ absurd (cc (b)) ];
    }
