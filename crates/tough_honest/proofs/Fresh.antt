-- What a step leaves of a store that held nothing.
use Rattle.std.specs.Prelude.{◌≡◌, ◌≢◌, ◌≤◌, ℕ, ℤ, List, Option, Some, None, Result, Ok, Err, Bool, true, false, bytes_eq}
use Rattle.std.proofs.Common.{refl, sym, ap, ◌∙◌, subst, inl, inr, arith}
use Rattle.std.proofs.lemmas.Bool.{true≢false}
use Rattle.std.proofs.lemmas.Slice.Eq.{bytes_eq-Decides}
use Rattle.tough_keys.specs.Same.{Verifies}
use Rattle.tough_roles.specs.Root.{RootDoc}
use Rattle.tough_roles.specs.Signature.{SignedDoc}
use Rattle.tough_checks.specs.Checks.{Reason}
use Rattle.tough_checks.specs.Rotation.{rotates}
use Rattle.tough_checks.specs.StoredDocuments.{stored_root}
use Rattle.tough_checks.specs.Files.{root_file, timestamp_file, snapshot_file, targets_file}
use Rattle.tough_checks.specs.declared.checks.StepError.{StepError}
use Rattle.tough_checks.specs.declared.checks.StepError.TheVariants as steps
use Rattle.tough_vault.specs.Stored.{Files}
use Rattle.tough_vault.specs.declared.entry.Receipt.{Receipt}
use Rattle.tough_vault.specs.Journal.{unless_cleared}
use Rattle.tough_vault.specs.Puts.{Replaces, Puts}
use Rattle.tough_vault.specs.Step.{Step, Parts, Takes}
use Rattle.tough_vault.specs.Steps.{time_step, root_step, timestamp_step, snapshot_step, document_step}
use Rattle.tough_vault.specs.Act.{Acts}
use Rattle.tough_trust.specs.Failure.{Checked}
use Rattle.tough_trust.specs.Steps.{taken}
use Rattle.tough_update.specs.Stages.{PendingDoc}
use Rattle.tough_update.specs.Stages as at
use Rattle.tough_update.specs.Answered.{AnswerDoc}
use Rattle.tough_update.specs.Answered as got
use Rattle.tough_update.specs.Machine.{act_at}
use Rattle.tough_update.specs.Loadable.{nothing, refusal_of, refusal_at_first, step_answer}
use Rattle.tough_honest.specs.First.{HasNotFailed, Answers}
use Rattle.tough_honest.specs.Fresh.{pending_phase, Untouched, StepIsFine}
use Rattle.tough_honest.proofs.Firsts.{answers}
use Rattle.tough_honest.proofs.Alone.{IsAlone}
use Rattle.tough_honest.proofs.Phases.{next_phase}

emptied : {A : Type 0} (cleared : Bool) (o : Option A) → o ≡ None → unless_cleared cleared o ≡ None
emptied true o e = refl
emptied false o e = e

apart : (a b : List ℕ) → bytes_eq a b ≡ false → a ≢ b
apart a b h is = absurd (cc (sym h ∙ (bytes_eq-Decides a b).1 is))

-- the answer of a step is its first check's
told-so : (o : Option Reason) (r : Result Receipt StepError) → Answers o r → got.Step (taken r) ≡ step_answer o
told-so None (Ok r) h = refl
told-so None (Err e) h = absurd h
told-so (Some reason) (Ok r) h = absurd h
told-so (Some reason) (Err (steps.DatastoreOpen path)) h = absurd h
told-so (Some reason) (Err (steps.DatastoreCreate path)) h = absurd h
told-so (Some reason) (Err (steps.DatastoreRemove path)) h = absurd h
told-so (Some reason) (Err steps.Memory) h = absurd h
told-so (Some reason) (Err (steps.Refused c)) h = ap (λ (x : Reason). got.Step (Err (Checked x))) h

fine-step : (r : Result Receipt StepError) → StepIsFine (taken r) → HasNotFailed r
fine-step (Ok r) h = tt
fine-step (Err (steps.Refused c)) h = tt
fine-step (Err (steps.DatastoreOpen path)) h = h
fine-step (Err (steps.DatastoreCreate path)) h = h
fine-step (Err (steps.DatastoreRemove path)) h = h
fine-step (Err steps.Memory) h = h

module _ {S : Type 0} (files : S → Files) where
  pub later : (m n : ℕ) (k : Parts S) → m ≤ n → Untouched files m k → Untouched files n k
  later m n k le u = record {
    time = λ lt. u.time (omega (arith, le, lt));
    root = λ lt. u.root (omega (arith, le, lt));
    timestamp = λ lt. u.timestamp (omega (arith, le, lt));
    snapshot = λ lt. u.snapshot (omega (arith, le, lt));
  }

  pub at_last : (k : Parts S) → Untouched files 4 k
  at_last k = record { time = λ lt. absurd (omega (arith, lt)); root = λ lt. absurd (omega (arith, lt)); timestamp = λ lt. absurd (omega (arith, lt)); snapshot = λ lt. absurd (omega (arith, lt)) }

module _ {S : Type 0} (tells : Bool) (files : S → Files) (count : S → ℕ) (told : tells ≡ true) (verifies : Verifies) where
  -- ---- the answer of a step, where what it reads isn't there

  -- no root is stored that has other keys
  unreplaced : (r : SignedDoc RootDoc) (old new : Parts S) (result : Result Receipt StepError) → files old.store root_file ≡ None → Replaces tells files count verifies r old new result → ⊥
  unreplaced r old new result absent h =
      let none : h.found ≡ None = h.passes.finds told ∙ absent in
      let kept : rotates (stored_root verifies h.found) r.role ≡ false = ap (λ f. rotates (stored_root verifies f) r.role) none in
      true≢false (sym h.rotated ∙ kept)

  put : (r : SignedDoc RootDoc) (old new : Parts S) (result : Result Receipt StepError) → (files old.store root_file ≡ None) × (old.tip.root ≡ None) → Puts tells files count verifies r old new result → HasNotFailed result
      → Answers (refusal_of (root_step verifies nothing r)) result
  put r old new result absent (inl h) n =
      let step = root_step verifies old.tip r in
      let made = answers tells files count told step old new (λ found is. ap step.after (is ∙ absent.0)) result h.takes n in
      subst (λ (o : Option ℕ). Answers (refusal_of (root_step verifies (record old.tip { root = o }) r)) result) absent.1 made
  put r old new result absent (inr h) n = absurd (unreplaced r old new result absent.0 h)

  refusal : (enforced : Bool) (p : PendingDoc) (old new : Parts S) (r : Result Receipt StepError) → Untouched files (pending_phase p) old
      → Acts tells files count verifies (act_at enforced p) old new r → HasNotFailed r → Answers (refusal_at_first verifies (act_at enforced p)) r
  refusal enforced (at.NoteTime now) old new r u t n =
      let absent = u.time (omega (arith)) in
      let made = answers tells files count told (time_step old.tip now) old new (λ found is. ap (time_step old.tip now).after (is ∙ absent.0)) r t n in
      subst (λ (o : Option ℤ). Answers (refusal_of (time_step (record old.tip { time = o }) now)) r) absent.1 made
  refusal enforced (at.PutRoot w) old new r u t n = put w.last old new r (u.root (omega (arith))) t n
  refusal enforced (at.PutLast w) old new r u t n = put w.last old new r (u.root (omega (arith))) t n
  refusal enforced (at.PutTimestamp b x) old new r u t n =
      let absent = u.timestamp (omega (arith)) in
      let step = timestamp_step verifies b.root.role old.tip x b.start enforced in
      let made = answers tells files count told step old new (λ found is. ap step.after (is ∙ absent.0)) r t n in
      subst (λ o. Answers (refusal_of (timestamp_step verifies b.root.role (record old.tip { timestamp = o }) x b.start enforced)) r) absent.1 made
  refusal enforced (at.PutSnapshot k listed) old new r u t n =
      let absent = u.snapshot (omega (arith)) in
      let step = snapshot_step verifies k.root.role old.tip listed k.snapshot k.start enforced in
      let made = answers tells files count told step old new (λ found is. ap step.after (is ∙ absent.0)) r t n in
      subst (λ o. Answers (refusal_of (snapshot_step verifies k.root.role (record old.tip { snapshot = o }) listed k.snapshot k.start enforced)) r) absent.1 made
  refusal enforced (at.PutTargets k d) old new r u t n = answers tells files count told (document_step targets_file _) old new (λ found is. refl) r t n
  refusal enforced (at.PutDelegated k roles name d) old new r u t n = answers tells files count told (document_step name _) old new (λ found is. refl) r t n

  pub stepped : (enforced : Bool) (p : PendingDoc) (old new : Parts S) (r : Result Receipt StepError) → Untouched files (pending_phase p) old
      → Acts tells files count verifies (act_at enforced p) old new r → StepIsFine (taken r) → got.Step (taken r) ≡ step_answer (refusal_at_first verifies (act_at enforced p))
  stepped enforced p old new r u t fine = told-so _ r (refusal enforced p old new r u t (fine-step r fine))

  -- ---- what a step that succeeded leaves

  still : (step : Step) (name : List ℕ) (old new : Parts S) (r : Receipt) → Takes tells files count step old new (Ok r) → bytes_eq name step.file ≡ false
      → files old.store name ≡ None → files new.store name ≡ None
  still step name old new r t other h = t.elsewhere told name (apart name step.file other) ∙ h

  -- a root was stored, and nothing else was touched
  put-left : (root : SignedDoc RootDoc) (old new : Parts S) (r : Receipt) → Untouched files 1 old → Puts tells files count verifies root old new (Ok r) → Untouched files 2 new
  put-left root old new r u (inr h) = absurd (unreplaced root old new (Ok r) (u.root (omega (arith))).0 h)
  put-left root old new r u (inl h) =
      let t = h.takes in
      let step = root_step verifies old.tip root in
      let d = t.done in
      let b = u.timestamp (omega (arith)) in
      let c = u.snapshot (omega (arith)) in
      let cleared = rotates (stored_root verifies d.0) root.role in record {
        time = λ lt. absurd (omega (arith, lt));
        root = λ lt. absurd (omega (arith, lt));
        timestamp = λ lt. (still step timestamp_file old new r t refl b.0, ap (λ l. l.timestamp) d.1.noted.tip ∙ emptied cleared old.tip.timestamp b.1);
        snapshot = λ lt. (still step snapshot_file old new r t refl c.0, ap (λ l. l.snapshot) d.1.noted.tip ∙ emptied cleared old.tip.snapshot c.1);
      }

  pub left : (enforced : Bool) (p : PendingDoc) (old new : Parts S) (r : Receipt) → IsAlone p → Untouched files (pending_phase p) old
      → Acts tells files count verifies (act_at enforced p) old new (Ok r) → Untouched files (next_phase p) new
  left enforced (at.NoteTime now) old new r alone u t =
      let step = time_step old.tip now in
      let d = t.done in
      let a = u.root (omega (arith)) in
      let b = u.timestamp (omega (arith)) in
      let c = u.snapshot (omega (arith)) in record {
        time = λ lt. absurd (omega (arith, lt));
        root = λ lt. (still step root_file old new r t refl a.0, ap (λ l. l.root) d.1.noted.tip ∙ a.1);
        timestamp = λ lt. (still step timestamp_file old new r t refl b.0, ap (λ l. l.timestamp) d.1.noted.tip ∙ b.1);
        snapshot = λ lt. (still step snapshot_file old new r t refl c.0, ap (λ l. l.snapshot) d.1.noted.tip ∙ c.1);
      }
  left enforced (at.PutRoot w) old new r alone u t = absurd alone
  left enforced (at.PutLast w) old new r alone u t = put-left w.last old new r u t
  left enforced (at.PutTimestamp b x) old new r alone u t =
      let step = timestamp_step verifies b.root.role old.tip x b.start enforced in
      let d = t.done in
      let c = u.snapshot (omega (arith)) in record {
        time = λ lt. absurd (omega (arith, lt));
        root = λ lt. absurd (omega (arith, lt));
        timestamp = λ lt. absurd (omega (arith, lt));
        snapshot = λ lt. (still step snapshot_file old new r t refl c.0, ap (λ l. l.snapshot) d.1.noted.tip ∙ c.1);
      }
  left enforced (at.PutSnapshot k listed) old new r alone u t = at_last files new
  left enforced (at.PutTargets k d) old new r alone u t = at_last files new
  left enforced (at.PutDelegated k roles name d) old new r alone u t = at_last files new
