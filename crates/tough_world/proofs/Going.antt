-- Nothing goes back on a store that tells its files, while no write failed and nothing was cleared, and all roots give one policy.
use Rattle.std.proofs.Common.{◌≡◌, ◌≢◌, ℕ, ℤ, ◌≤ℤ◌, List, [], ◌∷◌, ◌++◌, length, Option, None, Some, option_and_then, Result, Ok, Err, OnOk, Bool, true, false, not, nat_lt, int_lt, is_some, refl, sym, ap, ◌∙◌, subst, inl, inr, append_assoc, rules}
use Rattle.std.proofs.lemmas.List.{append-nil}
use Rattle.std.specs.Prelude.{◌==◌, ⊤}
use Rattle.tough_json.specs.CanonicalText.{canonical_of}
use Rattle.tough_json.specs.Reading.{◌>>=◌}
use Rattle.tough_keys.specs.Same.{Verifies}
use Rattle.tough_roles.specs.Policy.{Policy, policy}
use Rattle.tough_roles.specs.Root.{RootDoc}
use Rattle.tough_roles.specs.Signature.{SignedDoc}
use Rattle.tough_roles.specs.Snapshot.{SnapshotDoc, snapshot_json}
use Rattle.tough_roles.specs.Timestamp.{TimestampDoc, timestamp_json}
use Rattle.tough_roles.specs.Verdict.{Refused, MissingRole, verdict}
use Rattle.tough_roles.specs.declared.role_type.RoleType.{RoleType}
use Rattle.tough_roles.specs.declared.role_type.RoleType.TheVariants as role
use Rattle.tough_checks.specs.Checks.{Reason, SystemTimeSteppedBackward, VersionMismatch, OlderMetadata, OlderSnapshotInTimestamp, refuse, or_else, first_of, later, time_after, verified, snapshot_version, timestamp_form, timestamp_first, timestamp_older, timestamp_below, timestamp_against, timestamp_tip, timestamp_after, snapshot_form, snapshot_first, snapshot_older, snapshot_against, snapshot_tip, snapshot_after, fallen, items_in, expiry, versions_in, roles_in}
use Rattle.tough_checks.specs.Documents.{timestamp_in, timestamp_text, timestamp_verdict, snapshot_in, snapshot_text, snapshot_verdict}
use Rattle.tough_checks.specs.Files.{time_file, root_file, timestamp_file, snapshot_file, IsFree}
use Rattle.tough_checks.specs.StoredDocuments.{if_verified, stored_root, stored_time, stored_timestamp, stored_snapshot}
use Rattle.tough_checks.specs.Rotation.{rotates}
use Rattle.tough_checks.specs.Versions.{Pair, Roles}
use Rattle.tough_checks.specs.declared.checks.StepError.{StepError}
use Rattle.tough_checks.specs.declared.checks.StepError.TheVariants.{Refused as ByCheck, DatastoreOpen, DatastoreCreate, DatastoreRemove, Memory}
use Rattle.tough_vault.specs.declared.entry.Receipt.{Receipt}
use Rattle.tough_vault.specs.declared.store.StoreError.{StoreError}
use Rattle.tough_vault.specs.Act.{Act, NoteTime, PutRoot, ClearRotated, AdvanceTimestamp, AdvanceSnapshot, PutDocument, Acts}
use Rattle.tough_vault.specs.Journal.{Note, Noted, Root, Timestamp, Snapshot, Cleared, Document, Broken, Last, no_tip, unless_cleared, applied, replay, PairAtMost, RolesAtMost, has_broken, has_cleared, NothingGoesBack}
use Rattle.tough_vault.specs.Step.{Step, Parts, IsNoted, Passes, Takes as StepTakes, EndsRemoval, Clears}
use Rattle.tough_vault.specs.Steps.{time_text, needs, time_step, root_step, timestamp_step, snapshot_step, document_step}
use Rattle.tough_vault.specs.Puts.{Puts}
use Rattle.tough_vault.specs.Stored.{Files, SameFiles, SameElsewhere}
use Rattle.tough_vault.proofs.Fitting.{or_else_none, refuse_none, not_lt, fallen_keeps}
use Rattle.tough_vault.proofs.Holding.{distinct}
use Rattle.tough_vault.proofs.Journals.{some_inj, replay-append, broken-append}
use Rattle.tough_vault.proofs.Preparing.{or_none}
use Rattle.tough_vault.proofs.Rising.{DocumentFollows, DocumentsRise, documents-append, documents_go_on}
use Rattle.tough_trust.specs.Vaults.{ReadsBack}
use Rattle.tough_world.specs.Steps.{IsProper, IsUnder, Taken, all_notes, AllUnder, AllProper, Takes, Trail, AddsNothing}
use Rattle.tough_world.proofs.Lists.{unbroken-front, uncleared-front, cleared-last, one-added, none-added}
use Rattle.tough_world.proofs.Shallow.{timestamp-shallow, snapshot-shallow}

le_of : (a b : ℤ) → int_lt a b ≡ false → b ≤ℤ a
le_of a b h = search (rules)

lt_no : (a b : ℤ) → b ≤ℤ a → int_lt a b ≡ false
lt_no a b h = search (rules)

was : {A : Type 0} (cleared : Bool) (o : Option A) (a : A) → unless_cleared cleared o ≡ Some a → o ≡ Some a
was true o a e = absurd (cc (e))
was false o a e = e

pub there : {A : Type 0} (o : Option A) → o ≢ None → (a : A) × (o ≡ Some a)
there None h = absurd (h refl)
there (Some a) h = (a, refl)

pub ok_of : (type : RoleType) (answer : Result Unit Refused) → verified type answer ≡ None → answer ≡ Ok tt
ok_of type (Ok u) h = refl
ok_of type (Err r) h = cc

-- ---- the checks against a document that is stored

timestamp-parts : (old t : TimestampDoc) → timestamp_against (Some old) t ≡ None → (timestamp_older old.head.version t ≡ None) × (timestamp_below (versions_in old) t ≡ None)
timestamp-parts old t h =
    let s = or_else_none (timestamp_older old.head.version t) (first_of (timestamp_form old ∷ timestamp_below (versions_in old) t ∷ [])) h in
    let u = or_else_none (timestamp_form old) (first_of (timestamp_below (versions_in old) t ∷ [])) s.1 in
    let w = or_else_none (timestamp_below (versions_in old) t) None u.1 in
    (s.0, w.0)

timestamp-above : (old t : TimestampDoc) → timestamp_against (Some old) t ≡ None → PairAtMost (versions_in old) (versions_in t)
timestamp-above old t h =
    let p = timestamp-parts old t h in (
      not_lt t.head.version old.head.version (refuse_none (nat_lt t.head.version old.head.version) (OlderMetadata role.Timestamp old.head.version t.head.version) p.0),
      not_lt (snapshot_version t) (snapshot_version old) (refuse_none (nat_lt (snapshot_version t) (snapshot_version old)) (OlderSnapshotInTimestamp (snapshot_version t) t.head.version (snapshot_version old) old.head.version) p.1),
    )

timestamp-passes : (old t : TimestampDoc) → timestamp_against (Some old) t ≡ None → timestamp_tip (Some (versions_in old)) t ≡ None
timestamp-passes old t h =
    let p = timestamp-parts old t h in
    or_none (timestamp_older old.head.version t) (first_of (timestamp_below (versions_in old) t ∷ [])) p.0 (or_none (timestamp_below (versions_in old) t) None p.1 refl)

snapshot-parts : (old s : SnapshotDoc) → snapshot_against (Some old) s ≡ None → (snapshot_older old.head.version s ≡ None) × (fallen (items_in old.meta) (items_in s.meta) old.head.version s.head.version ≡ None)
snapshot-parts old s h =
    let last = fallen (items_in old.meta) (items_in s.meta) old.head.version s.head.version in
    let a = or_else_none (snapshot_older old.head.version s) (first_of (snapshot_form old ∷ last ∷ [])) h in
    let b = or_else_none (snapshot_form old) (first_of (last ∷ [])) a.1 in
    let c = or_else_none last None b.1 in
    (a.0, c.0)

snapshot-above : (old s : SnapshotDoc) → snapshot_against (Some old) s ≡ None → RolesAtMost (roles_in old) (roles_in s)
snapshot-above old s h =
    let p = snapshot-parts old s h in (
      not_lt s.head.version old.head.version (refuse_none (nat_lt s.head.version old.head.version) (OlderMetadata role.Snapshot old.head.version s.head.version) p.0),
      fallen_keeps (items_in old.meta) (items_in s.meta) old.head.version s.head.version p.1,
    )

snapshot-passes : (old s : SnapshotDoc) → snapshot_against (Some old) s ≡ None → snapshot_tip (Some (roles_in old)) s ≡ None
snapshot-passes old s h =
    let p = snapshot-parts old s h in
    let last = fallen (items_in old.meta) (items_in s.meta) old.head.version s.head.version in
    or_none (snapshot_older old.head.version s) (first_of (last ∷ [])) p.0 (or_none last None p.1 refl)

module _ {S : Type 0} (tells : Bool) (files : S → Files) (count : S → ℕ) (verifies : Verifies) (P Q : Option Policy) (told : tells ≡ true) where
  -- ---- what is stored

  abbrev timestamp_ruled : Option Policy → SignedDoc TimestampDoc → Result Unit Refused
  timestamp_ruled p d = verdict verifies (MissingRole role.Timestamp) role.Timestamp p (option_and_then canonical_of (timestamp_json d.role)) d.signatures

  abbrev snapshot_ruled : Option Policy → SignedDoc SnapshotDoc → Result Unit Refused
  snapshot_ruled p d = verdict verifies (MissingRole role.Snapshot) role.Snapshot p (option_and_then canonical_of (snapshot_json d.role)) d.signatures

  -- the stored document, where the file reads and the policy verifies it
  abbrev timestamp_by : Option Policy → Option (List ℕ) → Option TimestampDoc
  timestamp_by p found = do
    bytes ← found
    d ← timestamp_in bytes
    if_verified (timestamp_ruled p d) d.role

  abbrev snapshot_by : Option Policy → Option (List ℕ) → Option SnapshotDoc
  snapshot_by p found = do
    bytes ← found
    d ← snapshot_in bytes
    if_verified (snapshot_ruled p d) d.role

  timestamp-same : (root : RootDoc) (found : Option (List ℕ)) → policy root role.Timestamp ≡ P → stored_timestamp verifies root found ≡ timestamp_by P found
  timestamp-same root found e = ap (λ p. timestamp_by p found) e

  snapshot-same : (root : RootDoc) (found : Option (List ℕ)) → policy root role.Snapshot ≡ Q → stored_snapshot verifies root found ≡ snapshot_by Q found
  snapshot-same root found e = ap (λ p. snapshot_by p found) e

  -- the files read as what was accepted last, and the policies verify it
  pub record Stored (now : Files) (tip : Last) : Type 0 where
    pub time : (t : ℤ) → tip.time ≡ Some t → stored_time (now time_file) ≡ Some t
    pub timestamp : (p : Pair) → tip.timestamp ≡ Some p → (d : TimestampDoc) × (timestamp_by P (now timestamp_file) ≡ Some d) × (versions_in d ≡ p)
    pub snapshot : (r : Roles) → tip.snapshot ≡ Some r → (d : SnapshotDoc) × (snapshot_by Q (now snapshot_file) ≡ Some d) × (roles_in d ≡ r)

  pub record Whole (store : S) (notes : List Note) : Type 0 where
    pub rises : DocumentsRise no_tip notes
    pub stored : Stored (files store) (replay no_tip notes)

  pub nothing_yet : (store : S) → Whole store []
  nothing_yet store = record { rises = tt; stored = record { time = λ t e. absurd (cc (e)); timestamp = λ p e. absurd (cc (e)); snapshot = λ r e. absurd (cc (e)) } }

  record Goes (step : Step) (old now : Files) (tip : Last) (note : Note) : Type 0 where
    follows : DocumentFollows tip note
    stored : SameElsewhere step.file old now → now step.file ≡ step.bytes → step.bytes ≢ None → Stored now (applied tip note)

  same_stored : (old now : Files) (tip : Last) → ((name : List ℕ) → now name ≡ old name) → Stored old tip → Stored now tip
  same_stored old now tip same s = record {
    time = λ t e. ap stored_time (same time_file) ∙ s.time t e;
    timestamp = λ p e. let d = s.timestamp p e in (d.0, ap (timestamp_by P) (same timestamp_file) ∙ d.1, d.2);
    snapshot = λ p e. let d = s.snapshot p e in (d.0, ap (snapshot_by Q) (same snapshot_file) ∙ d.1, d.2);
  }

  pub same_whole : (old new : S) (ns : List Note) → SameFiles (files old) (files new) → Whole old ns → Whole new ns
  same_whole old new ns same w = record { rises = w.rises; stored = same_stored (files old) (files new) (replay no_tip ns) same w.stored }

  -- ---- any step

  module _ (ns : List Note) (before after : Parts S) (ms : List Note) (added : after.notes ≡ before.notes ++ ms) (w : Whole before.store ns) (unbroken : has_broken (ns ++ ms) ≡ false) where
    stays : before.notes ≡ after.notes → SameFiles (files before.store) (files after.store) → Whole after.store (ns ++ ms)
    stays n same =
        let none = none-added before.notes after.notes ms (sym n) added in
        subst (λ (xs : List Note). Whole after.store xs) (sym (ap (λ (xs : List Note). ns ++ xs) none ∙ append-nil ns))
        (record { rises = w.rises; stored = same_stored (files before.store) (files after.store) (replay no_tip ns) same w.stored })

    no_back : (result : Result Receipt StepError) → OnOk result ⊤
    no_back (Ok r) = tt
    no_back (Err e) = tt

    breaks : {X : Type 0} → after.notes ≡ before.notes ++ Broken ∷ [] → X
    breaks n = absurd (cc (unbroken, ap (λ (xs : List Note). has_broken (ns ++ xs)) (one-added before.notes after.notes ms Broken n added), broken-append ns))

    takes : (step : Step) (result : Result Receipt StepError) (B : Type 0) → OnOk result B
        → (B → (found : Option (List ℕ)) → Passes tells files count step before.store found → Goes step (files before.store) (files after.store) (replay no_tip ns) (step.entry found))
        → StepTakes tells files count step before after result → Whole after.store (ns ++ ms)
    takes step (Ok r) B b f t =
        let n = step.entry t.done.0 in
        let goes = f b t.done.0 t.done.1.passes in
        let one = one-added before.notes after.notes ms n t.done.1.noted.notes added in
        subst (λ (xs : List Note). Whole after.store (ns ++ xs)) (sym one)
        (record {
          rises = documents-append no_tip ns n w.rises goes.follows;
          stored = subst (λ (l : Last). Stored (files after.store) l) (sym (replay-append no_tip ns n)) (goes.stored (t.elsewhere told) (t.stored.1 told) t.stored.0);
        })
    takes step (Err (DatastoreCreate path)) B b f t = breaks (t.broken tt).notes
    takes step (Err (ByCheck c)) B b f t = let e = t.same (λ x. x) in stays (sym e.0) (e.2 told)
    takes step (Err (DatastoreOpen path)) B b f t = let e = t.same (λ x. x) in stays (sym e.0) (e.2 told)
    takes step (Err (DatastoreRemove path)) B b f t = let e = t.same (λ x. x) in stays (sym e.0) (e.2 told)
    takes step (Err Memory) B b f t = let e = t.same (λ x. x) in stays (sym e.0) (e.2 told)

    ends : (note : Note) (first second : Result Unit StoreError) (mid : Parts S) (result : Result Receipt StepError) → mid.notes ≡ before.notes → has_cleared (note ∷ []) ≡ true → has_cleared (ns ++ ms) ≡ false
        → EndsRemoval note first second mid after result → Whole after.store (ns ++ ms)
    ends note (Ok u) (Ok v) mid (Ok r) same clears uncleared e =
        let one = one-added before.notes after.notes ms note (e.0.notes ∙ ap (λ (xs : List Note). xs ++ note ∷ []) same) added in
        absurd (cc (uncleared, ap (λ (xs : List Note). has_cleared (ns ++ xs)) one, cleared-last ns note clears))
    ends note (Err fault) second mid (Err x) same clears uncleared e = breaks (e.0.notes ∙ ap (λ (xs : List Note). xs ++ Broken ∷ []) same)
    ends note (Ok u) (Err fault) mid (Err x) same clears uncleared e = breaks (e.0.notes ∙ ap (λ (xs : List Note). xs ++ Broken ∷ []) same)
    ends note (Ok u) (Ok v) mid (Err x) same clears uncleared e = absurd e
    ends note (Err fault) second mid (Ok r) same clears uncleared e = absurd e
    ends note (Ok u) (Err fault) mid (Ok r) same clears uncleared e = absurd e

    clears : (result : Result Receipt StepError) → has_cleared (ns ++ ms) ≡ false → Clears tells files count before after result → Whole after.store (ns ++ ms)
    clears result uncleared (inl same) = stays (sym (ap (λ (p : Parts S). p.notes) same.1)) (λ name. ap (λ (p : Parts S). files p.store name) same.1)
    clears result uncleared (inr t) = ends Cleared t.first t.second before result refl refl uncleared t.ends

    puts : (root : SignedDoc RootDoc) (result : Result Receipt StepError) → has_cleared (ns ++ ms) ≡ false
        → ((found : Option (List ℕ)) → Goes (root_step verifies before.tip root) (files before.store) (files after.store) (replay no_tip ns) ((root_step verifies before.tip root).entry found))
        → Puts tells files count verifies root before after result → Whole after.store (ns ++ ms)
    puts root result uncleared f (inl h) = takes (root_step verifies before.tip root) result ⊤ (no_back result) (λ u found p. f found) h.takes
    puts root result uncleared f (inr h) =
        ends (Root root.role.head.version true) h.tried.first h.tried.second (record { store = h.between; notes = before.notes; tip = before.tip }) result refl refl uncleared h.tried.ends

  -- ---- each step

  module _ (old now : Files) (tip : Last) (s : Stored old tip) where
    keep_time : (file : List ℕ) → SameElsewhere file old now → time_file ≢ file → (t : ℤ) → tip.time ≡ Some t → stored_time (now time_file) ≡ Some t
    keep_time file same ne t e = ap stored_time (same time_file ne) ∙ s.time t e

    keep_timestamp : (file : List ℕ) → SameElsewhere file old now → timestamp_file ≢ file → (p : Pair) → tip.timestamp ≡ Some p → (d : TimestampDoc) × (timestamp_by P (now timestamp_file) ≡ Some d) × (versions_in d ≡ p)
    keep_timestamp file same ne p e = let d = s.timestamp p e in (d.0, ap (timestamp_by P) (same timestamp_file ne) ∙ d.1, d.2)

    keep_snapshot : (file : List ℕ) → SameElsewhere file old now → snapshot_file ≢ file → (p : Roles) → tip.snapshot ≡ Some p → (d : SnapshotDoc) × (snapshot_by Q (now snapshot_file) ≡ Some d) × (roles_in d ≡ p)
    keep_snapshot file same ne p e = let d = s.snapshot p e in (d.0, ap (snapshot_by Q) (same snapshot_file ne) ∙ d.1, d.2)

    -- a root was written, and nothing was cleared or both are gone from the tip
    root_goes : (step : Step) (v : ℕ) (cleared : Bool) → step.file ≡ root_file → Goes step old now tip (Root v cleared)
    root_goes step v cleared is = record {
      follows = tt;
      stored = λ elsewhere written wrote. record {
        time = keep_time step.file elsewhere (λ e. distinct _ _ refl (e ∙ is));
        timestamp = λ p e. keep_timestamp step.file elsewhere (λ x. distinct _ _ refl (x ∙ is)) p (was cleared tip.timestamp p e);
        snapshot = λ p e. keep_snapshot step.file elsewhere (λ x. distinct _ _ refl (x ∙ is)) p (was cleared tip.snapshot p e);
      };
    }

    -- another file was written
    other_goes : (step : Step) (note : Note) → applied tip note ≡ tip → DocumentFollows tip note → time_file ≢ step.file → timestamp_file ≢ step.file → snapshot_file ≢ step.file → Goes step old now tip note
    other_goes step note is f a b c = record {
      follows = f;
      stored = λ elsewhere written wrote. subst (λ (l : Last). Stored now l) (sym is) (record { time = keep_time step.file elsewhere a; timestamp = keep_timestamp step.file elsewhere b; snapshot = keep_snapshot step.file elsewhere c });
    }

    time_goes : (tip2 : Last) (t : ℤ) (found : Option (List ℕ)) → stored_time (time_text t) ≡ Some t → found ≡ old time_file
        → first_of (time_after (stored_time found) tip2.time t ∷ needs (time_text t) ∷ []) ≡ None → Goes (time_step tip2 t) old now tip (Noted t)
    time_goes tip2 t found back is after =
        let a = or_else_none (time_after (stored_time found) tip2.time t) (first_of (needs (time_text t) ∷ [])) after in
        let l = or_else_none (later (stored_time found) t) (first_of (later tip2.time t ∷ [])) a.0 in
        record {
          follows = λ q e. le_of t q (refuse_none (int_lt t q) (SystemTimeSteppedBackward t q) (ap (λ o. later o t) (sym (ap stored_time is ∙ s.time q e)) ∙ l.0));
          stored = λ elsewhere written wrote. record {
            time = λ p e. ap stored_time written ∙ (back ∙ e);
            timestamp = keep_timestamp time_file elsewhere (distinct _ _ refl);
            snapshot = keep_snapshot time_file elsewhere (distinct _ _ refl);
          };
        }

    timestamp_written : (d : SignedDoc TimestampDoc) (bytes : List ℕ) (file : Option (List ℕ)) → file ≡ Some bytes → timestamp_in bytes ≡ Some d → timestamp_ruled P d ≡ Ok tt → timestamp_by P file ≡ Some d.role
    timestamp_written d bytes file f r v = ap (timestamp_by P) f ∙ (ap (λ o. o >>= λ x. if_verified (timestamp_ruled P x) x.role) r ∙ ap (λ x. if_verified x d.role) v)

    timestamp_goes : (tip2 : Last) (d : SignedDoc TimestampDoc) (root : RootDoc) (start : ℤ) (enforced : Bool) (found : Option (List ℕ)) → policy root role.Timestamp ≡ P
        → ((bytes : List ℕ) → timestamp_text d ≡ Some bytes → timestamp_in bytes ≡ Some d) → found ≡ old timestamp_file
        → timestamp_first (timestamp_verdict verifies root d) d.role ≡ None → timestamp_after (stored_timestamp verifies root found) tip2.timestamp d.role start enforced ≡ None
        → (had : Bool) → Goes (timestamp_step verifies root tip2 d start enforced) old now tip (Timestamp (versions_in d.role) had)
    timestamp_goes tip2 d root start enforced found under back is first after had =
        let stored = stored_timestamp verifies root found in
        let same : stored ≡ timestamp_by P (old timestamp_file) = timestamp-same root found under ∙ ap (timestamp_by P) is in
        let a = or_else_none (timestamp_against stored d.role) (first_of (timestamp_tip tip2.timestamp d.role ∷ expiry role.Timestamp enforced start d.role.head.expires ∷ [])) after in
        let v = or_else_none (verified role.Timestamp (timestamp_verdict verifies root d)) (first_of (timestamp_form d.role ∷ [])) first in
        let ok : timestamp_ruled P d ≡ Ok tt = ap (λ p. timestamp_ruled p d) (sym under) ∙ ok_of role.Timestamp (timestamp_verdict verifies root d) v.0 in
        record {
          follows = λ q e. let o = s.timestamp q e in subst (λ (p : Pair). PairAtMost p (versions_in d.role)) o.2 (timestamp-above o.0 d.role (ap (λ x. timestamp_against x d.role) (sym (same ∙ o.1)) ∙ a.0));
          stored = λ elsewhere written wrote. let b = there (timestamp_text d) wrote in record {
            time = keep_time timestamp_file elsewhere (distinct _ _ refl);
            timestamp = λ p e. (d.role, timestamp_written d b.0 (now timestamp_file) (written ∙ b.1) (back b.0 b.1) ok, some_inj (versions_in d.role) p e);
            snapshot = keep_snapshot timestamp_file elsewhere (distinct _ _ refl);
          };
        }

    snapshot_written : (d : SignedDoc SnapshotDoc) (bytes : List ℕ) (file : Option (List ℕ)) → file ≡ Some bytes → snapshot_in bytes ≡ Some d → snapshot_ruled Q d ≡ Ok tt → snapshot_by Q file ≡ Some d.role
    snapshot_written d bytes file f r v = ap (snapshot_by Q) f ∙ (ap (λ o. o >>= λ x. if_verified (snapshot_ruled Q x) x.role) r ∙ ap (λ x. if_verified x d.role) v)

    snapshot_goes : (tip2 : Last) (listed : ℕ) (d : SignedDoc SnapshotDoc) (root : RootDoc) (start : ℤ) (enforced : Bool) (found : Option (List ℕ)) → policy root role.Snapshot ≡ Q
        → ((bytes : List ℕ) → snapshot_text d ≡ Some bytes → snapshot_in bytes ≡ Some d) → found ≡ old snapshot_file
        → snapshot_first listed (snapshot_verdict verifies root d) d.role ≡ None → snapshot_after (stored_snapshot verifies root found) tip2.snapshot d.role start enforced ≡ None
        → (had : Bool) → Goes (snapshot_step verifies root tip2 listed d start enforced) old now tip (Snapshot (roles_in d.role) had)
    snapshot_goes tip2 listed d root start enforced found under back is first after had =
        let stored = stored_snapshot verifies root found in
        let same : stored ≡ snapshot_by Q (old snapshot_file) = snapshot-same root found under ∙ ap (snapshot_by Q) is in
        let a = or_else_none (snapshot_against stored d.role) (first_of (snapshot_tip tip2.snapshot d.role ∷ expiry role.Snapshot enforced start d.role.head.expires ∷ [])) after in
        let u = or_else_none (refuse (not (d.role.head.version == listed)) (VersionMismatch role.Snapshot d.role.head.version listed)) (first_of (verified role.Snapshot (snapshot_verdict verifies root d) ∷ snapshot_form d.role ∷ [])) first in
        let v = or_else_none (verified role.Snapshot (snapshot_verdict verifies root d)) (first_of (snapshot_form d.role ∷ [])) u.1 in
        let ok : snapshot_ruled Q d ≡ Ok tt = ap (λ p. snapshot_ruled p d) (sym under) ∙ ok_of role.Snapshot (snapshot_verdict verifies root d) v.0 in
        record {
          follows = λ q e. let o = s.snapshot q e in subst (λ (p : Roles). RolesAtMost p (roles_in d.role)) o.2 (snapshot-above o.0 d.role (ap (λ x. snapshot_against x d.role) (sym (same ∙ o.1)) ∙ a.0));
          stored = λ elsewhere written wrote. let b = there (snapshot_text d) wrote in record {
            time = keep_time snapshot_file elsewhere (distinct _ _ refl);
            timestamp = keep_timestamp snapshot_file elsewhere (distinct _ _ refl);
            snapshot = λ p e. (d.role, snapshot_written d b.0 (now snapshot_file) (written ∙ b.1) (back b.0 b.1) ok, some_inj (roles_in d.role) p e);
          };
        }

  acts : (ns : List Note) (before after : Parts S) (ms : List Note) → after.notes ≡ before.notes ++ ms → Whole before.store ns → has_broken (ns ++ ms) ≡ false → has_cleared (ns ++ ms) ≡ false
      → (act : Act) (result : Result Receipt StepError) → IsUnder P Q act → IsProper act → OnOk result (ReadsBack act) → Acts tells files count verifies act before after result → Whole after.store (ns ++ ms)
  acts ns before after ms added w b c (NoteTime t) result under proper back h =
      takes ns before after ms added w b (time_step before.tip t) result (stored_time (time_text t) ≡ Some t) back
      (λ is found p. time_goes (files before.store) (files after.store) (replay no_tip ns) w.stored before.tip t found is (p.finds told) p.after) h
  acts ns before after ms added w b c (PutRoot r) result under proper back h =
      puts ns before after ms added w b r result c
      (λ found. root_goes (files before.store) (files after.store) (replay no_tip ns) w.stored (root_step verifies before.tip r) r.role.head.version (rotates (stored_root verifies found) r.role) refl) h
  acts ns before after ms added w b c ClearRotated result under proper back h = clears ns before after ms added w b result c h
  acts ns before after ms added w b c (AdvanceTimestamp root d start enforced) result under proper back h =
      takes ns before after ms added w b (timestamp_step verifies root before.tip d start enforced) result (ReadsBack (AdvanceTimestamp root d start enforced)) back
      (λ is found p. timestamp_goes (files before.store) (files after.store) (replay no_tip ns) w.stored before.tip d root start enforced found under (λ bytes e. is bytes e (timestamp-shallow proper.0 d proper.1)) (p.finds told) p.before p.after (is_some (stored_timestamp verifies root found))) h
  acts ns before after ms added w b c (AdvanceSnapshot root listed d start enforced) result under proper back h =
      takes ns before after ms added w b (snapshot_step verifies root before.tip listed d start enforced) result (ReadsBack (AdvanceSnapshot root listed d start enforced)) back
      (λ is found p. snapshot_goes (files before.store) (files after.store) (replay no_tip ns) w.stored before.tip listed d root start enforced found under (λ bytes e. is bytes e (snapshot-shallow proper.0 d proper.1)) (p.finds told) p.before p.after (is_some (stored_snapshot verifies root found))) h
  acts ns before after ms added w b c (PutDocument name text) result under proper back h =
      takes ns before after ms added w b (document_step name text) result ⊤ back
      (λ is found p. other_goes (files before.store) (files after.store) (replay no_tip ns) w.stored (document_step name text) (Document name) refl tt (λ e. proper.time (sym e)) (λ e. proper.timestamp (sym e)) (λ e. proper.snapshot (sym e))) h

  -- a step keeps it
  pub keeps : (ns : List Note) (x : Taken) (old new : S) → IsUnder P Q x.act → IsProper x.act → Takes tells files count verifies x old new → has_broken (ns ++ x.notes) ≡ false → has_cleared (ns ++ x.notes) ≡ false → Whole old ns → Whole new (ns ++ x.notes)
  keeps ns x old new under proper t b c w =
      subst (λ (store : S). Whole store (ns ++ x.notes)) t.to
      (acts ns t.before t.after x.notes t.added (same_whole old t.before.store ns (t.from told) w) b c x.act t.result under proper t.back t.acts)

  pub trail : (xs : List Taken) (ns : List Note) (old new : S) → AllUnder P Q xs → AllProper xs → Trail tells files count verifies old xs new → has_broken (ns ++ all_notes xs) ≡ false → has_cleared (ns ++ all_notes xs) ≡ false → Whole old ns → Whole new (ns ++ all_notes xs)
  trail [] ns old new u p t b c w = subst (λ (xs : List Note). Whole new xs) (sym (append-nil ns)) (same_whole old new ns (t told) w)
  trail (x ∷ xs) ns old new u p t b c w =
      let e = append_assoc ns x.notes (all_notes xs) in
      let b2 : has_broken ((ns ++ x.notes) ++ all_notes xs) ≡ false = ap has_broken e ∙ b in
      let c2 : has_cleared ((ns ++ x.notes) ++ all_notes xs) ≡ false = ap has_cleared e ∙ c in
      let mid = keeps ns x old t.0 u.0 p.0 t.1 (unbroken-front (ns ++ x.notes) (all_notes xs) b2) (uncleared-front (ns ++ x.notes) (all_notes xs) c2) w in
      subst (λ (ms : List Note). Whole new ms) e (trail xs (ns ++ x.notes) t.0 new u.1 p.1 t.2 b2 c2 mid)

  -- ---- the tips

  time-tip : (tip : Option ℤ) (found : Option ℤ) (now : ℤ) → ((t : ℤ) → tip ≡ Some t → found ≡ Some t) → later found now ≡ None → later tip now ≡ None
  time-tip None found now h l = refl
  time-tip (Some t) found now h l = ap (λ o. later o now) (sym (h t refl)) ∙ l

  timestamp-tip : (tip : Option Pair) (found : Option TimestampDoc) (t : TimestampDoc) → ((p : Pair) → tip ≡ Some p → (d : TimestampDoc) × (found ≡ Some d) × (versions_in d ≡ p)) → timestamp_against found t ≡ None → timestamp_tip tip t ≡ None
  timestamp-tip None found t h l = refl
  timestamp-tip (Some p) found t h l =
      let d = h p refl in
      ap (λ q. timestamp_tip (Some q) t) (sym d.2) ∙ timestamp-passes d.0 t (ap (λ o. timestamp_against o t) (sym d.1) ∙ l)

  snapshot-tip : (tip : Option Roles) (found : Option SnapshotDoc) (s : SnapshotDoc) → ((r : Roles) → tip ≡ Some r → (d : SnapshotDoc) × (found ≡ Some d) × (roles_in d ≡ r)) → snapshot_against found s ≡ None → snapshot_tip tip s ≡ None
  snapshot-tip None found s h l = refl
  snapshot-tip (Some r) found s h l =
      let d = h r refl in
      ap (λ q. snapshot_tip (Some q) s) (sym d.2) ∙ snapshot-passes d.0 s (ap (λ o. snapshot_against o s) (sym d.1) ∙ l)

  -- what a tip has that is behind what was accepted on the store, the files have
  pub adds-nothing : (p : Parts S) (all : Last) → Stored (files p.store) all → ((t : ℤ) → p.tip.time ≡ Some t → all.time ≡ Some t) → ((q : Pair) → p.tip.timestamp ≡ Some q → all.timestamp ≡ Some q)
      → ((r : Roles) → p.tip.snapshot ≡ Some r → all.snapshot ≡ Some r) → AddsNothing tells files count verifies P Q p
  adds-nothing p all s time timestamp snapshot = record {
    times = λ now l. time-tip p.tip.time (stored_time (files p.store time_file)) now (λ t e. s.time t (time t e)) l;
    timestamps = λ root t under l. timestamp-tip p.tip.timestamp (timestamp_by P (files p.store timestamp_file)) t (λ q e. s.timestamp q (timestamp q e)) (ap (λ o. timestamp_against o t) (sym (timestamp-same root (files p.store timestamp_file) under)) ∙ l);
    snapshots = λ root x under l. snapshot-tip p.tip.snapshot (snapshot_by Q (files p.store snapshot_file)) x (λ r e. s.snapshot r (snapshot r e)) (ap (λ o. snapshot_against o x) (sym (snapshot-same root (files p.store snapshot_file) under)) ∙ l);
  }

  pub steps_go_on : (xs : List Taken) (old new : S) → AllUnder P Q xs → AllProper xs → Trail tells files count verifies old xs new → has_broken (all_notes xs) ≡ false → has_cleared (all_notes xs) ≡ false → NothingGoesBack (all_notes xs)
  steps_go_on xs old new u p t b c = documents_go_on (all_notes xs) (trail xs [] old new u p t b c (nothing_yet old)).rises
