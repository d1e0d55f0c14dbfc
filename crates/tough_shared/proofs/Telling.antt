-- What the answer of a step tells of what it was given: the refusals, one after another.
use Rattle.std.proofs.Common.{◌≡◌, ◌<◌, ◌==◌, ℕ, ℤ, List, [], ◌∷◌, Option, None, Some, Result, Ok, Err, Bool, true, false, not, nat_lt, int_lt, is_some, length, refl, sym, subst, inl, inr, arith}
use Rattle.std.proofs.lemmas.Bool.Decides.{nat_tests}
use Rattle.tough_keys.specs.Same.{Verifies}
use Rattle.tough_roles.specs.Root.{RootDoc}
use Rattle.tough_roles.specs.Signature.{SignedDoc}
use Rattle.tough_roles.specs.Snapshot.{SnapshotDoc}
use Rattle.tough_roles.specs.Timestamp.{TimestampDoc, metafile_in}
use Rattle.tough_roles.specs.Verdict.{Refused}
use Rattle.tough_roles.specs.declared.role_type.RoleType.{RoleType}
use Rattle.tough_roles.specs.declared.role_type.RoleType.TheVariants as role
use Rattle.tough_checks.specs.Checks.{Reason, SystemTimeSteppedBackward, DatastoreSerialize, VerifyMetadata, VersionMismatch, TimestampMetaLength, MissingSnapshotMeta, SnapshotTargetsMetaMissing, OlderMetadata, OlderSnapshotInTimestamp, SnapshotRoleMissing, SnapshotRoleRollback, ExpiredMetadata, reason_of, refuse, or_else, first_of, is_expired, expiry, later, time_after, verified, root_older, root_against, root_tip, root_after, snapshot_version, timestamp_form, timestamp_first, timestamp_older, timestamp_below, timestamp_against, timestamp_tip, timestamp_after, snapshot_form, snapshot_first, fallen_at, fallen, snapshot_older, snapshot_against, snapshot_tip, snapshot_after, items_in, versions_in}
use Rattle.tough_checks.specs.Documents.{root_text, root_verdict, timestamp_verdict, snapshot_verdict}
use Rattle.tough_checks.specs.Files.{timestamp_file, snapshot_file, targets_file}
use Rattle.tough_checks.specs.StoredDocuments.{stored_time, stored_root, stored_timestamp, stored_snapshot}
use Rattle.tough_checks.specs.Versions.{Pair, Roles, Item, version_in}
use Rattle.tough_checks.specs.declared.checks.StepError.{StepError}
use Rattle.tough_checks.specs.declared.checks.StepError.TheVariants.{Refused as ByCheck, DatastoreOpen, DatastoreCreate, DatastoreRemove, Memory}
use Rattle.tough_vault.specs.declared.entry.Receipt.{Receipt}
use Rattle.tough_vault.specs.declared.store.StoreError.{StoreError}
use Rattle.tough_vault.specs.declared.store.StoreError.TheVariants as device
use Rattle.tough_vault.specs.Act.{Act, NoteTime, PutRoot, ClearRotated, AdvanceTimestamp, AdvanceSnapshot, PutDocument, HasChecked, CheckedIfOk, Acts}
use Rattle.tough_vault.specs.Checking.{verdict_of, checked}
use Rattle.tough_vault.specs.Journal.{Note, Root, Cleared, note_of, entry_of}
use Rattle.tough_vault.specs.Step.{Step, Parts, IsFirst, Takes, TellsRemoval, EndsRemoval, Clears}
use Rattle.tough_vault.specs.Steps.{time_text, needs, time_step, root_step, timestamp_step, snapshot_step, document_step}
use Rattle.tough_vault.specs.Puts.{Puts}
use Rattle.tough_vault.specs.Stored.{Files}
use Rattle.tough_checks.specs.Rotation.{rotates}
use Rattle.tough_shared.specs.Telling.{Tells, IsDue, AnswersTo}

same-reason : (x r : Reason) → Some x ≡ Some r → x ≡ r
same-reason x r h = cc

less : (a b : ℕ) → nat_lt a b ≡ true → a < b
less a b h = grind (arith, nat_tests)

module _ (verifies : Verifies) (act : Act) where
  abbrev P : Reason → Type 0
  P = IsDue verifies act

  -- what a check refuses is due
  abbrev Due : Option Reason → Type 0
  Due o = (r : Reason) → o ≡ Some r → P r

  none-due : Due None
  none-due r h = absurd (cc (h))

  either-due : (a b : Option Reason) → Due a → Due b → Due (or_else a b)
  either-due None b p q = q
  either-due (Some x) b p q = p

  some-due : (x : Reason) → P x → Due (Some x)
  some-due x p r h = subst P (same-reason x r h) p

  refuse-due : (b : Bool) (x : Reason) → (b ≡ true → P x) → Due (refuse b x)
  refuse-due true x f = some-due x (f refl)
  refuse-due false x f = none-due

  itself-due : (b : Bool) (x : Reason) → (refuse b x ≡ Some x → P x) → Due (refuse b x)
  itself-due true x f = some-due x (f refl)
  itself-due false x f = none-due

  verdict-due : (type : RoleType) (verdict : Result Unit Refused) → ((c : Option Refused) → verified type verdict ≡ Some (VerifyMetadata type c) → P (VerifyMetadata type c)) → Due (verified type verdict)
  verdict-due type (Ok u) f = none-due
  verdict-due type (Err w) f = some-due (VerifyMetadata type (Some w)) (f (Some w) refl)

  needs-due : (text : Option (List ℕ)) → (needs text ≡ Some DatastoreSerialize → P DatastoreSerialize) → Due (needs text)
  needs-due None f = some-due DatastoreSerialize (f refl)
  needs-due (Some t) f = none-due

  -- ---- checks of which nothing is said

  later-due : (known : Option ℤ) (now : ℤ) → Due (later known now)
  later-due None now = none-due
  later-due (Some t) now = refuse-due (int_lt now t) (SystemTimeSteppedBackward now t) (λ e. tt)

  form-due : (t : TimestampDoc) → Due (timestamp_form t)
  form-due t = either-due (refuse (not (length t.meta == 1)) (TimestampMetaLength t.head.version (length t.meta))) (first_of (refuse (not (is_some (metafile_in t.meta snapshot_file))) (MissingSnapshotMeta t.head.version) ∷ []))
      (refuse-due (not (length t.meta == 1)) (TimestampMetaLength t.head.version (length t.meta)) (λ e. tt))
      (either-due (refuse (not (is_some (metafile_in t.meta snapshot_file))) (MissingSnapshotMeta t.head.version)) None (refuse-due (not (is_some (metafile_in t.meta snapshot_file))) (MissingSnapshotMeta t.head.version) (λ e. tt)) none-due)

  below-due : (old : Pair) (t : TimestampDoc) → Due (timestamp_below old t)
  below-due old t = refuse-due (nat_lt (snapshot_version t) old.snapshot) (OlderSnapshotInTimestamp (snapshot_version t) t.head.version old.snapshot old.version) (λ e. tt)

  list-due : (s : SnapshotDoc) → Due (snapshot_form s)
  list-due s = refuse-due (not (is_some (metafile_in s.meta targets_file))) (SnapshotTargetsMetaMissing s.head.version) (λ e. tt)

  fallen-at-due : (item : Item) (now : Option ℕ) (old new : ℕ) → Due (fallen_at item now old new)
  fallen-at-due item None old new = some-due (SnapshotRoleMissing item.name old new) tt
  fallen-at-due item (Some now) old new = refuse-due (nat_lt now item.version) (SnapshotRoleRollback item.name item.version old now new) (λ e. tt)

  fallen-due : (items now : List Item) (old new : ℕ) → Due (fallen items now old new)
  fallen-due [] now old new = none-due
  fallen-due (item ∷ items) now old new = either-due (fallen_at item (version_in now item.name) old new) (fallen items now old new) (fallen-at-due item (version_in now item.name) old new) (fallen-due items now old new)

  -- ---- roots

  module _ (r : RootDoc) (older : (old : ℕ) → r.head.version < old → P (OlderMetadata role.Root old r.head.version)) where
    root-older-due : (old : ℕ) → Due (root_older old r)
    root-older-due old = refuse-due (nat_lt r.head.version old) (OlderMetadata role.Root old r.head.version) (λ e. older old (less r.head.version old e))

    root-against-due : (old : Option (SignedDoc RootDoc)) → Due (root_against old r)
    root-against-due None = none-due
    root-against-due (Some old) = root-older-due old.role.head.version

    root-tip-due : (tip : Option ℕ) → Due (root_tip tip r)
    root-tip-due None = none-due
    root-tip-due (Some tip) = root-older-due tip

  -- ---- timestamps

  module _ (t : TimestampDoc) (older : (old : ℕ) → t.head.version < old → P (OlderMetadata role.Timestamp old t.head.version)) where
    timestamp-older-due : (old : ℕ) → Due (timestamp_older old t)
    timestamp-older-due old = refuse-due (nat_lt t.head.version old) (OlderMetadata role.Timestamp old t.head.version) (λ e. older old (less t.head.version old e))

    timestamp-against-due : (old : Option TimestampDoc) → Due (timestamp_against old t)
    timestamp-against-due None = none-due
    timestamp-against-due (Some old) = either-due (timestamp_older old.head.version t) (first_of (timestamp_form old ∷ timestamp_below (versions_in old) t ∷ []))
        (timestamp-older-due old.head.version)
        (either-due (timestamp_form old) (first_of (timestamp_below (versions_in old) t ∷ [])) (form-due old) (either-due (timestamp_below (versions_in old) t) None (below-due (versions_in old) t) none-due))

    timestamp-tip-due : (tip : Option Pair) → Due (timestamp_tip tip t)
    timestamp-tip-due None = none-due
    timestamp-tip-due (Some tip) = either-due (timestamp_older tip.version t) (first_of (timestamp_below tip t ∷ [])) (timestamp-older-due tip.version) (either-due (timestamp_below tip t) None (below-due tip t) none-due)

    timestamp-after-due : (old : Option TimestampDoc) (tip : Option Pair) (start : ℤ) (enforced : Bool)
        → (expiry role.Timestamp enforced start t.head.expires ≡ Some (ExpiredMetadata role.Timestamp t.head.expires start) → P (ExpiredMetadata role.Timestamp t.head.expires start)) → Due (timestamp_after old tip t start enforced)
    timestamp-after-due old tip start enforced late = either-due (timestamp_against old t) (first_of (timestamp_tip tip t ∷ expiry role.Timestamp enforced start t.head.expires ∷ [])) (timestamp-against-due old)
        (either-due (timestamp_tip tip t) (first_of (expiry role.Timestamp enforced start t.head.expires ∷ [])) (timestamp-tip-due tip)
        (either-due (expiry role.Timestamp enforced start t.head.expires) None (itself-due (is_expired enforced start t.head.expires) (ExpiredMetadata role.Timestamp t.head.expires start) late) none-due))

  -- ---- snapshots

  module _ (s : SnapshotDoc) (older : (old : ℕ) → s.head.version < old → P (OlderMetadata role.Snapshot old s.head.version)) where
    snapshot-older-due : (old : ℕ) → Due (snapshot_older old s)
    snapshot-older-due old = refuse-due (nat_lt s.head.version old) (OlderMetadata role.Snapshot old s.head.version) (λ e. older old (less s.head.version old e))

    snapshot-against-due : (old : Option SnapshotDoc) → Due (snapshot_against old s)
    snapshot-against-due None = none-due
    snapshot-against-due (Some old) = let last = fallen (items_in old.meta) (items_in s.meta) old.head.version s.head.version in
        either-due (snapshot_older old.head.version s) (first_of (snapshot_form old ∷ last ∷ [])) (snapshot-older-due old.head.version)
        (either-due (snapshot_form old) (first_of (last ∷ [])) (list-due old) (either-due last None (fallen-due (items_in old.meta) (items_in s.meta) old.head.version s.head.version) none-due))

    snapshot-tip-due : (tip : Option Roles) → Due (snapshot_tip tip s)
    snapshot-tip-due None = none-due
    snapshot-tip-due (Some tip) = let last = fallen tip.items (items_in s.meta) tip.version s.head.version in
        either-due (snapshot_older tip.version s) (first_of (last ∷ [])) (snapshot-older-due tip.version) (either-due last None (fallen-due tip.items (items_in s.meta) tip.version s.head.version) none-due)

    snapshot-after-due : (old : Option SnapshotDoc) (tip : Option Roles) (start : ℤ) (enforced : Bool)
        → (expiry role.Snapshot enforced start s.head.expires ≡ Some (ExpiredMetadata role.Snapshot s.head.expires start) → P (ExpiredMetadata role.Snapshot s.head.expires start)) → Due (snapshot_after old tip s start enforced)
    snapshot-after-due old tip start enforced late = either-due (snapshot_against old s) (first_of (snapshot_tip tip s ∷ expiry role.Snapshot enforced start s.head.expires ∷ [])) (snapshot-against-due old)
        (either-due (snapshot_tip tip s) (first_of (expiry role.Snapshot enforced start s.head.expires ∷ [])) (snapshot-tip-due tip)
        (either-due (expiry role.Snapshot enforced start s.head.expires) None (itself-due (is_expired enforced start s.head.expires) (ExpiredMetadata role.Snapshot s.head.expires start) late) none-due))

-- ---- each step

timestamp-first-due : (verifies : Verifies) (root : RootDoc) (t : SignedDoc TimestampDoc) (start : ℤ) (enforced : Bool) → Due verifies (AdvanceTimestamp root t start enforced) (timestamp_first (timestamp_verdict verifies root t) t.role)
timestamp-first-due verifies root t start enforced = let act = AdvanceTimestamp root t start enforced in
    either-due verifies act (verified role.Timestamp (timestamp_verdict verifies root t)) (first_of (timestamp_form t.role ∷ [])) (verdict-due verifies act role.Timestamp (timestamp_verdict verifies root t) (λ c e. e))
    (either-due verifies act (timestamp_form t.role) None (form-due verifies act t.role) (none-due verifies act))

snapshot-first-due : (verifies : Verifies) (root : RootDoc) (listed : ℕ) (s : SignedDoc SnapshotDoc) (start : ℤ) (enforced : Bool) → Due verifies (AdvanceSnapshot root listed s start enforced) (snapshot_first listed (snapshot_verdict verifies root s) s.role)
snapshot-first-due verifies root listed s start enforced = let act = AdvanceSnapshot root listed s start enforced in
    let other = VersionMismatch role.Snapshot s.role.head.version listed in
    either-due verifies act (refuse (not (s.role.head.version == listed)) other) (first_of (verified role.Snapshot (snapshot_verdict verifies root s) ∷ snapshot_form s.role ∷ [])) (itself-due verifies act (not (s.role.head.version == listed)) other (λ e. e))
    (either-due verifies act (verified role.Snapshot (snapshot_verdict verifies root s)) (first_of (snapshot_form s.role ∷ [])) (verdict-due verifies act role.Snapshot (snapshot_verdict verifies root s) (λ c e. e))
    (either-due verifies act (snapshot_form s.role) None (list-due verifies act s.role) (none-due verifies act)))

time-due : (verifies : Verifies) (now : ℤ) (stored tip : Option ℤ) → Due verifies (NoteTime now) (first_of (time_after stored tip now ∷ needs (time_text now) ∷ []))
time-due verifies now stored tip = let act = NoteTime now in
    either-due verifies act (time_after stored tip now) (first_of (needs (time_text now) ∷ []))
    (either-due verifies act (later stored now) (first_of (later tip now ∷ [])) (later-due verifies act stored now) (either-due verifies act (later tip now) None (later-due verifies act tip now) (none-due verifies act)))
    (either-due verifies act (needs (time_text now)) None (needs-due verifies act (time_text now) (λ e. e)) (none-due verifies act))

root-due : (verifies : Verifies) (root : SignedDoc RootDoc) (stored : Option (SignedDoc RootDoc)) (tip : Option ℕ) → Due verifies (PutRoot root) (first_of (root_after stored tip root.role ∷ needs (root_text root) ∷ []))
root-due verifies root stored tip = let act = PutRoot root in
    either-due verifies act (root_after stored tip root.role) (first_of (needs (root_text root) ∷ []))
    (either-due verifies act (root_against stored root.role) (first_of (root_tip tip root.role ∷ [])) (root-against-due verifies act root.role (λ v below. ((refl, refl), below)) stored)
    (either-due verifies act (root_tip tip root.role) None (root-tip-due verifies act root.role (λ v below. ((refl, refl), below)) tip) (none-due verifies act)))
    (either-due verifies act (needs (root_text root)) None (needs-due verifies act (root_text root) (λ e. e)) (none-due verifies act))

removal : (verifies : Verifies) (act : Act) (file : List ℕ) (fault : StoreError) (x : StepError) → TellsRemoval file fault x → AnswersTo verifies act (Err x)
removal verifies act file device.Failed (ByCheck c) h = absurd h
removal verifies act file device.Memory (ByCheck c) h = absurd h
removal verifies act file fault (DatastoreOpen path) h = tt
removal verifies act file fault (DatastoreCreate path) h = tt
removal verifies act file fault (DatastoreRemove path) h = tt
removal verifies act file fault Memory h = tt

module _ {S : Type 0} (tells : Bool) (files : S → Files) (count : S → ℕ) (verifies : Verifies) where
  first : (act : Act) (step : Step) (store : S) (r : Reason) → Due verifies act step.before → ((found : Option (List ℕ)) → Due verifies act (step.after found)) → IsFirst tells files count step store r → IsDue verifies act r
  first act step store r before after (inl e) = before r e
  first act step store r before after (inr e) = after e.1.0 r e.1.2

  answers : (act : Act) (step : Step) (old new : Parts S) (result : Result Receipt StepError) → Due verifies act step.before → ((found : Option (List ℕ)) → Due verifies act (step.after found))
      → ((found : Option (List ℕ)) (n : Note) → n ≡ step.entry found → Tells act n) → CheckedIfOk verifies act result → Takes tells files count step old new result → AnswersTo verifies act result
  answers act step old new (Ok r) before after entry h t = (h, entry t.done.0 (note_of (entry_of r)) t.done.1.receipt.entry)
  answers act step old new (Err (ByCheck c)) before after entry h t = first act step old.store (reason_of c) before after t.why
  answers act step old new (Err (DatastoreOpen path)) before after entry h t = tt
  answers act step old new (Err (DatastoreCreate path)) before after entry h t = tt
  answers act step old new (Err (DatastoreRemove path)) before after entry h t = tt
  answers act step old new (Err Memory) before after entry h t = tt

  ends : (act : Act) (note : Note) (first second : Result Unit StoreError) (old new : Parts S) (result : Result Receipt StepError) → HasChecked verifies act → ((n : Note) → n ≡ note → Tells act n)
      → EndsRemoval note first second old new result → AnswersTo verifies act result
  ends act note (Ok u) (Ok v) old new (Ok r) h t e = (h, t (note_of (entry_of r)) e.1.entry)
  ends act note (Err fault) second old new (Err x) h t e = removal verifies act timestamp_file fault x e.1
  ends act note (Ok u) (Err fault) old new (Err x) h t e = removal verifies act snapshot_file fault x e.1
  ends act note (Ok u) (Ok v) old new (Err x) h t e = absurd e
  ends act note (Err fault) second old new (Ok r) h t e = absurd e
  ends act note (Ok u) (Err fault) old new (Ok r) h t e = absurd e

  clears : (old new : Parts S) (result : Result Receipt StepError) → Clears tells files count old new result → AnswersTo verifies ClearRotated result
  clears old new result (inl s) = subst (λ (x : Result Receipt StepError). AnswersTo verifies ClearRotated x) (sym s.0) tt
  clears old new result (inr t) = ends ClearRotated Cleared t.first t.second old new result tt (λ n e. e) t.ends

  puts : (root : SignedDoc RootDoc) (old new : Parts S) (result : Result Receipt StepError) → CheckedIfOk verifies (PutRoot root) result → Puts tells files count verifies root old new result → AnswersTo verifies (PutRoot root) result
  puts root old new result h (inl t) = answers (PutRoot root) (root_step verifies old.tip root) old new result
      (verdict-due verifies (PutRoot root) role.Root (root_verdict verifies root.role root) (λ c e. e))
      (λ found. root-due verifies root (stored_root verifies found) old.tip.root) (λ found n e. (rotates (stored_root verifies found) root.role, e)) h t.takes
  puts root old new result h (inr t) = ends (PutRoot root) (Root root.role.head.version true) t.tried.first t.tried.second (record { store = t.between; notes = old.notes; tip = old.tip }) new result
      (verdict_of role.Root (root_verdict verifies root.role root) t.passes.before) (λ n e. (true, e)) t.tried.ends

  -- a step answers to what it was given
  pub tells_what : (act : Act) (old new : Parts S) (result : Result Receipt StepError) → Acts tells files count verifies act old new result → AnswersTo verifies act result
  tells_what (NoteTime now) old new result h = answers (NoteTime now) (time_step old.tip now) old new result
      (none-due verifies (NoteTime now)) (λ found. time-due verifies now (stored_time found) old.tip.time) (λ found n e. e) (checked tells files count verifies (NoteTime now) old new result h) h
  tells_what (PutRoot root) old new result h = puts root old new result (checked tells files count verifies (PutRoot root) old new result h) h
  tells_what ClearRotated old new result h = clears old new result h
  tells_what (AdvanceTimestamp root t start enforced) old new result h = let act = AdvanceTimestamp root t start enforced in
      answers act (timestamp_step verifies root old.tip t start enforced) old new result (timestamp-first-due verifies root t start enforced)
      (λ found. timestamp-after-due verifies act t.role (λ v below. ((refl, refl), below)) (stored_timestamp verifies root found) old.tip.timestamp start enforced (λ e. e))
      (λ found n e. (is_some (stored_timestamp verifies root found), e)) (checked tells files count verifies act old new result h) h
  tells_what (AdvanceSnapshot root listed s start enforced) old new result h = let act = AdvanceSnapshot root listed s start enforced in
      answers act (snapshot_step verifies root old.tip listed s start enforced) old new result (snapshot-first-due verifies root listed s start enforced)
      (λ found. snapshot-after-due verifies act s.role (λ v below. ((refl, refl), below)) (stored_snapshot verifies root found) old.tip.snapshot start enforced (λ e. e))
      (λ found n e. (is_some (stored_snapshot verifies root found), e)) (checked tells files count verifies act old new result h) h
  tells_what (PutDocument name text) old new result h = answers (PutDocument name text) (document_step name text) old new result
      (needs-due verifies (PutDocument name text) text (λ e. e)) (λ found. none-due verifies (PutDocument name text)) (λ found n e. e) (checked tells files count verifies (PutDocument name text) old new result h) h
