-- The first part of a step.
use Rattle.std.proofs.Common.{◌≡◌, ℕ, List, Option, None, Some, Result, Ok, Err, Bool, true, ap, ◌∙◌, inr, subst, is_some}
use Rattle.tough_vault.specs.Stored.{Files, SameFiles}
use Rattle.tough_vault.specs.declared.parts.Prepared.{Prepared}
use Rattle.tough_checks.specs.declared.checks.StepError.{StepError}
use Rattle.tough_checks.specs.declared.checks.StepError.TheVariants.{Refused, DatastoreOpen, DatastoreCreate, DatastoreRemove, Memory}
use Rattle.tough_checks.specs.Checks.{Reason, Checked, or_else, timestamp_where, snapshot_where}
use Rattle.tough_roles.specs.declared.timestamp.Timestamp.{Timestamp as TimestampFile}
use Rattle.tough_roles.specs.Timestamp.{TimestampDoc}
use Rattle.tough_roles.specs.declared.snapshot.Snapshot.{Snapshot as SnapshotFile}
use Rattle.tough_roles.specs.Snapshot.{SnapshotDoc}
use Rattle.tough_vault.specs.Journal.{Root, Timestamp}
use Rattle.tough_roles.specs.Root.{RootDoc}
use Rattle.tough_roles.specs.Signature.{SignedDoc}
use Rattle.tough_checks.specs.Rotation.{rotates}
use Rattle.tough_vault.specs.Steps.{needs}
use Rattle.tough_vault.specs.Step.{Step, Finds}
use Rattle.tough_vault.specs.Parts.{Carries, Prepares}

pub checked_more : (a b : Option Reason) (e : StepError) → Checked {A = Unit {0}} a (Err e) → Checked {A = Unit {0}} (or_else a b) (Err e)
checked_more a b (Refused r) h = ap (λ x. or_else x b) h
checked_more a b Memory h = tt
checked_more a b (DatastoreOpen path) h = h
checked_more a b (DatastoreCreate path) h = h
checked_more a b (DatastoreRemove path) h = h

pub or_none : (a b : Option Reason) → a ≡ None → b ≡ None → or_else a b ≡ None
or_none a b p q = ap (λ x. or_else x b) p ∙ q

pub needs_none : (text : Option (List ℕ)) (bytes : List ℕ) → text ≡ Some bytes → needs text ≡ None
needs_none text bytes h = ap needs h

module _ {S : Type 0} (tells : Bool) (files : S → Files) (count : S → ℕ) (step : Step) (old new : S) where
  -- a check after the read refused
  pub refused_after : (found : Option (List ℕ)) (e : StepError) → Finds tells (files old) step.file found → step.before ≡ None → Checked {A = Unit {0}} (step.after found) (Err e)
      → (tells ≡ true → SameFiles (files old) (files new)) → Prepares tells files count step old new (Err e)
  refused_after found (Refused r) f b h s = record { ready = tt; why = inr (b, (found, f, h)); early = λ x. x; quiet = tt; same = s }
  refused_after found Memory f b h s = record { ready = tt; why = tt; early = λ x. x; quiet = tt; same = s }
  refused_after found (DatastoreOpen path) f b h s = absurd h
  refused_after found (DatastoreCreate path) f b h s = absurd h
  refused_after found (DatastoreRemove path) f b h s = absurd h

  -- all checks passed
  pub prepared : (found : Option (List ℕ)) (p : Prepared) → Finds tells (files old) step.file found → step.before ≡ None → step.after found ≡ None
      → Carries (step.entry found) step.bytes p → count new ≡ count old
      → (tells ≡ true → SameFiles (files old) (files new)) → Prepares tells files count step old new (Ok p)
  prepared found p f b a c q s = record { ready = (found, record { finds = f; before = b; after = a }, c); why = tt; early = tt; quiet = q; same = s }

-- checks that passed
pub checked_ok : {A : Type 0} (first : Option Reason) (result : Result A StepError) (x : A) → result ≡ Ok x → Checked first result → first ≡ None
checked_ok {A} first result x is h = subst (λ (r : Result A StepError). Checked first r) is h

-- the checks were made of what the file held
pub checked_at : {A : Type 0} (f : Option A → Option Reason) (a b : Option A) (e : StepError) → a ≡ b → Checked {A = Unit {0}} (f a) (Err e) → Checked {A = Unit {0}} (f b) (Err e)
checked_at {A} f a b e is h = subst (λ (x : Option A). Checked {A = Unit {0}} (f x) (Err e)) is h

pub had_old : (o : Option TimestampFile) (t : Option TimestampDoc) (b : Bool) → b ≡ is_some o → timestamp_where o ≡ t → b ≡ is_some t
had_old None t b h e = h ∙ ap is_some e
had_old (Some d) t b h e = h ∙ ap is_some e

pub same_pair : (u v s w : ℕ) (a b : Bool) → u ≡ v → s ≡ w → a ≡ b → Timestamp (record { version = u; snapshot = s }) a ≡ Timestamp (record { version = v; snapshot = w }) b
same_pair u v s w a b o p q =
    ap (λ x. Timestamp (record { version = x; snapshot = s }) a) o
    ∙ (ap (λ x. Timestamp (record { version = v; snapshot = x }) a) p ∙ ap (λ x. Timestamp (record { version = v; snapshot = w }) x) q)

pub same_root : (u v : ℕ) (o p : Option (SignedDoc RootDoc)) (new : RootDoc) {b : Bool} → u ≡ v → b ≡ rotates o new → o ≡ p → Root u b ≡ Root v (rotates p new)
same_root u v o p new {b} n h e = ap (λ x. Root x b) n ∙ ap (Root v) (h ∙ ap (λ x. rotates x new) e)

pub or_second : (a b : Option Reason) (r : Reason) → a ≡ None → b ≡ Some r → or_else a b ≡ Some r
or_second a b r p q = ap (λ x. or_else x b) p ∙ q

pub had_snapshot : (o : Option SnapshotFile) (t : Option SnapshotDoc) (b : Bool) → b ≡ is_some o → snapshot_where o ≡ t → b ≡ is_some t
had_snapshot None t b h e = h ∙ ap is_some e
had_snapshot (Some d) t b h e = h ∙ ap is_some e
