-- What passed the checks of a step follows the tip, and its file then holds it.
use Rattle.std.proofs.Common.{◌≡◌, ℕ, ℤ, ◌≤◌, ◌≤ℤ◌, List, [], ◌∷◌, ◌++◌, Option, None, Some, Bool, true, false, nat_lt, nat_le, int_lt, is_some, Result, Ok, Err, OnOk, IfErr, refl, sym, ap, ◌∙◌, subst, arith, rules}
use Rattle.std.proofs.lemmas.Bool.Decides.{nat_tests}
use Rattle.std.proofs.lemmas.Slice.Eq.{bytes_eq-Decides}
use Rattle.std.specs.Str.{bytes_eq}
use Rattle.std.specs.Prelude.{if◌then◌else◌}
use Rattle.tough_roles.specs.Signature.{SignedDoc, signed_json}
use Rattle.tough_roles.specs.Root.{RootDoc, root_json}
use Rattle.tough_roles.specs.Chain.{ReachesUnder}
use Rattle.tough_roles.proofs.lemmas.Reached.{ok-reaches}
use Rattle.tough_roles.specs.Timestamp.{TimestampDoc, timestamp_json}
use Rattle.tough_roles.specs.Snapshot.{SnapshotDoc, snapshot_json}
use Rattle.tough_keys.specs.Same.{Verifies}
use Rattle.tough_roles.specs.declared.role_type.RoleType.TheVariants as role
use Rattle.tough_vault.specs.declared.entry.Receipt.{Receipt}
use Rattle.tough_vault.specs.declared.parts.Prepared.{Prepared}
use Rattle.tough_checks.specs.declared.checks.StepError.{StepError}
use Rattle.tough_vault.specs.Stored.{Files}
use Rattle.tough_checks.specs.Files.{IsFree}
use Rattle.tough_checks.specs.Versions.{Pair, Item, Roles, version_in}
use Rattle.tough_vault.specs.Checking.{verdict_of}
use Rattle.tough_vault.specs.Journal.{Root as RootNote, applied, PairAtMost, KeepsNames, RolesAtMost, has_at_least}
use Rattle.tough_checks.specs.Checks.{Reason, SnapshotRoleRollback, fallen_at, fallen, items_in, snapshot_older, snapshot_against, snapshot_tip, snapshot_after, verified, root_against, root_tip, root_after, SystemTimeSteppedBackward, later, time_after, OlderMetadata, OlderSnapshotInTimestamp, refuse, or_else, first_of, snapshot_version, expiry, timestamp_older, timestamp_below, timestamp_against, timestamp_tip, timestamp_after, versions_in, roles_in}
use Rattle.tough_checks.specs.Documents.{root_text, root_verdict, timestamp_text, timestamp_in, snapshot_text, snapshot_in, ReadsBack}
use Rattle.tough_vault.specs.Step.{Step, Parts, Passes, Takes}
use Rattle.tough_checks.specs.StoredDocuments.{stored_root, stored_snapshot, stored_time, stored_timestamp}
use Rattle.tough_vault.specs.Steps.{snapshot_step, time_text, needs, time_step, root_step, timestamp_step, document_step}
use Rattle.tough_checks.specs.Rotation.{rotates}
use Rattle.tough_vault.specs.Parts.{Holds, NamesFree, RootReadsBack, Prepares, Concludes}
use Rattle.tough_vault.proofs.Holding.{holds_noted, holds_root, holds_timestamp, holds_snapshot, holds_document}
use Rattle.tough_vault.proofs.Journals.{some_inj}
use Rattle.tough_vault.proofs.Taking.{takes}
use Rattle.tough_vault.proofs.Keeping.{Fits, Sound, kept, kept_refused}

pub or_else_none : (a b : Option Reason) → or_else a b ≡ None → (a ≡ None) × (b ≡ None)
or_else_none None b h = (refl, h)
or_else_none (Some r) b h = absurd (cc)

pub refuse_none : (b : Bool) (r : Reason) → refuse b r ≡ None → b ≡ false
refuse_none true r h = absurd (cc)
refuse_none false r h = refl

pub not_lt : (a b : ℕ) → nat_lt a b ≡ false → b ≤ a
not_lt a b h = grind (arith, nat_tests)

le_of : (a b : ℤ) → int_lt a b ≡ false → b ≤ℤ a
le_of a b h = search (rules)

time_follows : (stored tip : Option ℤ) (now u : ℤ) → time_after stored tip now ≡ None → tip ≡ Some u → u ≤ℤ now
time_follows stored tip now u h e =
    let s = or_else_none (later stored now) (first_of (later tip now ∷ [])) h in
    let t = or_else_none (later tip now) None s.1 in
    le_of now u (refuse_none (int_lt now u) (SystemTimeSteppedBackward now u) (ap (λ o. later o now) (sym e) ∙ t.0))

pub timestamp_follows : (old : Option TimestampDoc) (tip : Option Pair) (t : TimestampDoc) (start : ℤ) (enforced : Bool) (q : Pair)
    → timestamp_after old tip t start enforced ≡ None → tip ≡ Some q → PairAtMost q (versions_in t)
timestamp_follows old tip t start enforced q h e =
    let s = or_else_none (timestamp_against old t) (first_of (timestamp_tip tip t ∷ expiry role.Timestamp enforced start t.head.expires ∷ [])) h in
    let u = or_else_none (timestamp_tip tip t) (first_of (expiry role.Timestamp enforced start t.head.expires ∷ [])) s.1 in
    let v = or_else_none (timestamp_older q.version t) (first_of (timestamp_below q t ∷ [])) (ap (λ o. timestamp_tip o t) (sym e) ∙ u.0) in
    let w = or_else_none (timestamp_below q t) None v.1 in (
      not_lt t.head.version q.version (refuse_none (nat_lt t.head.version q.version) (OlderMetadata role.Timestamp q.version t.head.version) v.0),
      not_lt (snapshot_version t) q.snapshot (refuse_none (nat_lt (snapshot_version t) q.snapshot) (OlderSnapshotInTimestamp (snapshot_version t) t.head.version q.snapshot q.version) w.0),
    )

-- names are kept where none fell
le_true : (a b : ℕ) → nat_lt a b ≡ false → nat_le b a ≡ true
le_true a b h = grind (arith, nat_tests)

at_ok : (o : Item) (found : Option ℕ) (a b : ℕ) → fallen_at o found a b ≡ None → has_at_least o.version found ≡ true
at_ok o None a b h = absurd (cc)
at_ok o (Some w) a b h = le_true w o.version (refuse_none (nat_lt w o.version) (SnapshotRoleRollback o.name o.version a w b) h)

same_name : (a b : List ℕ) → bytes_eq a b ≡ true → a ≡ b
same_name a b h = search (rules, bytes_eq-Decides)

one_name : (t : Bool) (o : Item) (rest : Option ℕ) (items : List Item) (name : List ℕ) (v : ℕ)
    → bytes_eq name o.name ≡ t → has_at_least o.version (version_in items o.name) ≡ true → (rest ≡ Some v → has_at_least v (version_in items name) ≡ true)
    → (if t then Some o.version else rest) ≡ Some v → has_at_least v (version_in items name) ≡ true
one_name true o rest items name v t a r h =
    ap (λ x. has_at_least x (version_in items name)) (sym (some_inj o.version v h)) ∙ (ap (λ x. has_at_least o.version (version_in items x)) (same_name name o.name t) ∙ a)
one_name false o rest items name v t a r h = r h

pub fallen_keeps : (olds items : List Item) (a b : ℕ) → fallen olds items a b ≡ None → KeepsNames olds items
fallen_keeps [] items a b h name v e = absurd (cc)
fallen_keeps (o ∷ olds) items a b h name v e =
    let s = or_else_none (fallen_at o (version_in items o.name) a b) (fallen olds items a b) h in
    one_name (bytes_eq name o.name) o (version_in olds name) items name v refl (at_ok o (version_in items o.name) a b s.0) (fallen_keeps olds items a b s.1 name v) e

snapshot_follows : (old : Option SnapshotDoc) (tip : Option Roles) (s : SnapshotDoc) (start : ℤ) (enforced : Bool) (q : Roles)
    → snapshot_after old tip s start enforced ≡ None → tip ≡ Some q → RolesAtMost q (roles_in s)
snapshot_follows old tip s start enforced q h e =
    let a = or_else_none (snapshot_against old s) (first_of (snapshot_tip tip s ∷ expiry role.Snapshot enforced start s.head.expires ∷ [])) h in
    let b = or_else_none (snapshot_tip tip s) (first_of (expiry role.Snapshot enforced start s.head.expires ∷ [])) a.1 in
    let c = or_else_none (snapshot_older q.version s) (first_of (fallen q.items (items_in s.meta) q.version s.head.version ∷ [])) (ap (λ o. snapshot_tip o s) (sym e) ∙ b.0) in
    let d = or_else_none (fallen q.items (items_in s.meta) q.version s.head.version) None c.1 in (
      not_lt s.head.version q.version (refuse_none (nat_lt s.head.version q.version) (OlderMetadata role.Snapshot q.version s.head.version) c.0),
      fallen_keeps q.items (items_in s.meta) q.version s.head.version d.0,
    )

pub root_follows : (old : Option (SignedDoc RootDoc)) (tip : Option ℕ) (root : RootDoc) (needed : Option Reason) (v : ℕ) → or_else (root_after old tip root) needed ≡ None → tip ≡ Some v → v ≤ root.head.version
root_follows old tip root needed v h e =
    let a = or_else_none (root_after old tip root) needed h in
    let b = or_else_none (root_against old root) (first_of (root_tip tip root ∷ [])) a.0 in
    let c = or_else_none (root_tip tip root) None b.1 in
    not_lt root.head.version v (refuse_none (nat_lt root.head.version v) (OlderMetadata role.Root v root.head.version) (ap (λ o. root_tip o root) (sym e) ∙ c.0))

-- a root that verified itself
pub own_root : (verifies : Verifies) (root : SignedDoc RootDoc) → verified role.Root (root_verdict verifies root.role root) ≡ None → (v : Verifies) × ReachesUnder v root.role role.Root root_json root
own_root verifies root h = (verifies, ok-reaches verifies root.role role.Root root_json root (Ok (tt {0})) (verdict_of role.Root (root_verdict verifies root.role root) h))

module _ {S : Type 0} (tells : Bool) (files : S → Files) (count : S → ℕ) (old : Parts S) (free : NamesFree old.notes) (now : Files) where
  pub fits_timestamp : (verifies : Verifies) (root : RootDoc) (new : SignedDoc TimestampDoc) (start : ℤ) (enforced : Bool) → ReadsBack timestamp_in (signed_json timestamp_json new) new (timestamp_text new) → (found : Option (List ℕ))
      → Passes tells files count (timestamp_step verifies root old.tip new start enforced) old.store found → Fits tells files count (timestamp_step verifies root old.tip new start enforced) old now found
  fits_timestamp verifies root new start enforced back found p = record {
    follows = λ q e. timestamp_follows (stored_timestamp verifies root found) old.tip.timestamp new.role start enforced q p.after e;
    free = λ name x. absurd (cc (x));
    holds = λ h same is there. holds_timestamp (files old.store) now old.notes old.tip h free new (is_some (stored_timestamp verifies root found)) same is there back;
  }

  pub fits_snapshot : (verifies : Verifies) (root : RootDoc) (listed : ℕ) (new : SignedDoc SnapshotDoc) (start : ℤ) (enforced : Bool) → ReadsBack snapshot_in (signed_json snapshot_json new) new (snapshot_text new) → (found : Option (List ℕ))
      → Passes tells files count (snapshot_step verifies root old.tip listed new start enforced) old.store found → Fits tells files count (snapshot_step verifies root old.tip listed new start enforced) old now found
  fits_snapshot verifies root listed new start enforced back found p = record {
    follows = λ q e. snapshot_follows (stored_snapshot verifies root found) old.tip.snapshot new.role start enforced q p.after e;
    free = λ name x. absurd (cc (x));
    holds = λ h same is there. holds_snapshot (files old.store) now old.notes old.tip h free new (is_some (stored_snapshot verifies root found)) same is there back;
  }

  pub fits_time : (t : ℤ) → stored_time (time_text t) ≡ Some t → (found : Option (List ℕ)) → Passes tells files count (time_step old.tip t) old.store found → Fits tells files count (time_step old.tip t) old now found
  fits_time t back found p =
      let s = or_else_none (time_after (stored_time found) old.tip.time t) (first_of (needs (time_text t) ∷ [])) p.after in
      record {
        follows = λ u e. time_follows (stored_time found) old.tip.time t u s.0 e;
        free = λ name x. absurd (cc (x));
        holds = λ h same is there. holds_noted (files old.store) now old.notes old.tip h free t same is there back;
      }

  -- a root that passed its checks verified itself, and follows the tip
  pub fits_root : (verifies : Verifies) (root : SignedDoc RootDoc) → RootReadsBack root → (found : Option (List ℕ)) → rotates (stored_root verifies found) root.role ≡ false
      → Passes tells files count (root_step verifies old.tip root) old.store found → Fits tells files count (root_step verifies old.tip root) old now found
  fits_root verifies root back found kept p =
      let note = RootNote root.role.head.version in
      record {
        follows = λ v e. root_follows (stored_root verifies found) old.tip.root root.role (first_of (needs (root_text root) ∷ [])) v p.after e;
        free = λ name x. absurd (cc (x));
        holds = λ h same is there.
            subst (λ (b : Bool). Holds now (old.notes ++ note b ∷ []) (applied old.tip (note b))) (sym kept)
            (holds_root (files old.store) now old.notes old.tip h free root same is there (own_root verifies root p.before) back);
      }

  pub fits_document : (name : List ℕ) (text : Option (List ℕ)) → IsFree name → (found : Option (List ℕ))
      → Passes tells files count (document_step name text) old.store found → Fits tells files count (document_step name text) old now found
  fits_document name text f found p = record {
    follows = tt;
    free = λ other x. subst (λ (n : List ℕ). IsFree n) (cc (x)) f;
    holds = λ h same is there. holds_document (files old.store) now old.notes old.tip h free name text f same is there;
  }

module _ {S : Type 0} (tells : Bool) (files : S → Files) (count : S → ℕ) where
  -- a vault keeps all that it keeps through the two parts of a step
  pub after_step : (step : Step) (old new : Parts S) (mid : S) (prepared : Result Prepared StepError) (result : Result Receipt StepError)
      → Sound tells files count old
      → Prepares tells files count step old.store mid prepared → Concludes tells files count step.file prepared (record { store = mid; notes = old.notes; tip = old.tip }) new result
      → ((p : Prepared) → prepared ≡ Ok p → (found : Option (List ℕ)) → Passes tells files count step old.store found → Fits tells files count step old (files new.store) found)
      → Sound tells files count new
  after_step step old new mid (Ok q) (Ok r) s p c f = kept tells files count step old new r s (λ found d. f q refl found d.passes) (takes tells files count step old new mid (Ok q) (Ok r) p c)
  after_step step old new mid (Ok q) (Err e) s p c f = kept_refused tells files count step old new e s (takes tells files count step old new mid (Ok q) (Err e) p c)
  after_step step old new mid (Err e) result s p c f =
      kept_refused tells files count step old new e s (subst (λ (r : Result Receipt StepError). Takes tells files count step old new r) c.refused.0 (takes tells files count step old new mid (Err e) result p c))

  -- and through one that was taken whole
  pub after_taking : (step : Step) (old new : Parts S) (result : Result Receipt StepError) → Sound tells files count old → Takes tells files count step old new result
      → ((found : Option (List ℕ)) → Passes tells files count step old.store found → Fits tells files count step old (files new.store) found) → Sound tells files count new
  after_taking step old new (Ok r) s t f = kept tells files count step old new r s (λ found d. f found d.passes) t
  after_taking step old new (Err e) s t f = kept_refused tells files count step old new e s t

-- what was prepared is so
pub when_ready : {P : Type 0} (prepared : Result Prepared StepError) (p : Prepared) → OnOk prepared P → prepared ≡ Ok p → P
when_ready {P} prepared p h is = subst (λ (r : Result Prepared StepError). OnOk r P) is h

-- a step that succeeded was prepared
pub when_done : (P Q : Type 0) (prepared : Result Prepared StepError) (result : Result Receipt StepError) → IfErr prepared (λ e. (result ≡ Err e) × Q) → OnOk prepared P → OnOk result P
when_done P Q (Ok p) (Ok r) x h = h
when_done P Q (Ok p) (Err e) x h = tt
when_done P Q (Err f) (Ok r) x h = absurd (cc (x.0))
when_done P Q (Err f) (Err e) x h = tt
