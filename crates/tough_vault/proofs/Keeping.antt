-- What a vault keeps through a step.
use Rattle.std.proofs.Common.{◌≡◌, ◌≢◌, None, ℕ, List, [], ◌∷◌, ◌++◌, Option, Result, Ok, Err, Bool, true, false, refl, sym, ap, ◌∙◌, subst, inl, inr}
use Rattle.std.proofs.Math.Logic.{∥∥₁_map}
use Rattle.tough_vault.specs.Stored.{Files, SameElsewhere}
use Rattle.tough_vault.specs.declared.store.StoreError.{StoreError}
use Rattle.tough_vault.specs.declared.entry.Receipt.{Receipt}
use Rattle.tough_checks.specs.declared.checks.StepError.{StepError}
use Rattle.tough_checks.specs.declared.checks.StepError.TheVariants.{Refused, DatastoreOpen, DatastoreCreate, DatastoreRemove, Memory}
use Rattle.tough_vault.specs.Journal.{Note, Cleared, Broken, Last, no_tip, applied, replay, Follows, Rises, has_broken}
use Rattle.tough_checks.specs.Files.{timestamp_file, snapshot_file}
use Rattle.tough_vault.specs.Step.{Step, Parts, IsNoted, Does, Takes, RemovesBoth, EndsRemoval, Clears}
use Rattle.tough_vault.specs.Parts.{Holds, NamesFree}
use Rattle.tough_vault.proofs.Journals.{replay-append, rises-append, broken-append, unbroken-before, free-append, FreeNote}
use Rattle.tough_vault.proofs.Holding.{holds_same, holds_cleared}

module _ {S : Type 0} (tells : Bool) (files : S → Files) (count : S → ℕ) where
  abbrev pub AllHold : Files → List Note → Last → Type 0
  AllHold now notes tip = Holds now notes tip

  -- what a vault keeps
  pub record Sound (p : Parts S) : Type 0 where
    pub replays : replay no_tip p.notes ≡ p.tip
    pub rises : Rises no_tip p.notes
    pub free : NamesFree p.notes
    pub holds : tells ≡ true → has_broken p.notes ≡ false → ∥ AllHold (files p.store) p.notes p.tip ∥₁

  -- the same of what a step may note
  pub record Fits (step : Step) (old : Parts S) (now : Files) (found : Option (List ℕ)) : Type 0 where
    pub follows : Follows old.tip (step.entry found)
    pub free : FreeNote (step.entry found)
    pub holds : AllHold (files old.store) old.notes old.tip → SameElsewhere step.file (files old.store) now → now step.file ≡ step.bytes → step.bytes ≢ None
        → AllHold now (old.notes ++ step.entry found ∷ []) (applied old.tip (step.entry found))

  noted : (note : Note) (old new : Parts S) → Sound old → IsNoted note old new → Follows old.tip note → FreeNote note
      → (tells ≡ true → has_broken (old.notes ++ note ∷ []) ≡ false → ∥ AllHold (files new.store) (old.notes ++ note ∷ []) (applied old.tip note) ∥₁) → Sound new
  noted note old new s n f e h = record {
    replays = ap (replay no_tip) n.notes ∙ (replay-append no_tip old.notes note ∙ (ap (λ t. applied t note) s.replays ∙ sym n.tip));
    rises = subst (λ (ns : List Note). Rises no_tip ns) (sym n.notes) (rises-append no_tip old.notes note s.rises (subst (λ (t : Last). Follows t note) (sym s.replays) f));
    free = subst (λ (ns : List Note). NamesFree ns) (sym n.notes) (free-append old.notes note s.free e);
    holds = λ t b.
        subst (λ (ns : List Note). ∥ AllHold (files new.store) ns new.tip ∥₁) (sym n.notes)
        (subst (λ (l : Last). ∥ AllHold (files new.store) (old.notes ++ note ∷ []) l ∥₁) (sym n.tip) (h t (ap has_broken (sym n.notes) ∙ b)));
  }

  broke : (old new : Parts S) → Sound old → IsNoted Broken old new → Sound new
  broke old new s n = noted Broken old new s n tt (λ name x. absurd (cc (x))) (λ t b. absurd (cc (b, broken-append old.notes)))

  pub unchanged : (old new : Parts S) → Sound old → new.notes ≡ old.notes → new.tip ≡ old.tip → (tells ≡ true → (name : List ℕ) → files new.store name ≡ files old.store name) → Sound new
  unchanged old new s n t f = record {
    replays = ap (replay no_tip) n ∙ (s.replays ∙ sym t);
    rises = subst (λ (ns : List Note). Rises no_tip ns) (sym n) s.rises;
    free = subst (λ (ns : List Note). NamesFree ns) (sym n) s.free;
    holds = λ told b.
        subst (λ (ns : List Note). ∥ AllHold (files new.store) ns new.tip ∥₁) (sym n)
        (subst (λ (l : Last). ∥ AllHold (files new.store) old.notes l ∥₁) (sym t)
        (∥∥₁_map (s.holds told (ap has_broken (sym n) ∙ b)) (λ h. holds_same (files old.store) (files new.store) old.notes old.tip h s.free (f told))));
  }

  pub kept : (step : Step) (old new : Parts S) (r : Receipt) → Sound old
      → ((found : Option (List ℕ)) → Does tells files count step old new r found → Fits step old (files new.store) found)
      → Takes tells files count step old new (Ok r) → Sound new
  kept step old new r s f t =
      let found = t.done.0 in
      let fits = f found t.done.1 in
      noted (step.entry found) old new s t.done.1.noted fits.follows fits.free
      (λ told b. ∥∥₁_map (s.holds told (unbroken-before old.notes (step.entry found) b)) (λ h. fits.holds h (t.elsewhere told) (t.stored.1 told) t.stored.0))

  pub kept_refused : (step : Step) (old new : Parts S) (e : StepError) → Sound old → Takes tells files count step old new (Err e) → Sound new
  kept_refused step old new (DatastoreCreate path) s t = broke old new s (t.broken tt)
  kept_refused step old new (Refused c) s t = let e = t.same (λ x. x) in unchanged old new s e.0 e.1 e.2
  kept_refused step old new (DatastoreOpen path) s t = let e = t.same (λ x. x) in unchanged old new s e.0 e.1 e.2
  kept_refused step old new (DatastoreRemove path) s t = let e = t.same (λ x. x) in unchanged old new s e.0 e.1 e.2
  kept_refused step old new Memory s t = let e = t.same (λ x. x) in unchanged old new s e.0 e.1 e.2

  as_before : (note : Note) (old before new : Parts S) → before.notes ≡ old.notes → before.tip ≡ old.tip → IsNoted note before new → IsNoted note old new
  as_before note old before new n t i = record { notes = i.notes ∙ ap (λ ns. ns ++ note ∷ []) n; tip = i.tip ∙ ap (λ l. applied l note) t }

  -- a removal of both files, however it ended; its store may have changed before
  pub ended : (note : Note) (old before new : Parts S) (first second : Result Unit StoreError) (result : Result Receipt StepError) → before.notes ≡ old.notes → before.tip ≡ old.tip
      → Sound old → Follows old.tip note → FreeNote note
      → (tells ≡ true → AllHold (files old.store) old.notes old.tip → AllHold (files new.store) (old.notes ++ note ∷ []) (applied old.tip note))
      → EndsRemoval note first second before new result → Sound new
  ended note old before new (Ok u) (Ok v) (Ok r) n t s f free holds e =
      noted note old new s (as_before note old before new n t e.0) f free (λ told b. ∥∥₁_map (s.holds told (unbroken-before old.notes note b)) (holds told))
  ended note old before new (Err fault) second (Err x) n t s f free holds e = broke old new s (as_before Broken old before new n t e.0)
  ended note old before new (Ok u) (Err fault) (Err x) n t s f free holds e = broke old new s (as_before Broken old before new n t e.0)
  ended note old before new (Ok u) (Ok v) (Err x) n t s f free holds e = absurd e
  ended note old before new (Err fault) second (Ok r) n t s f free holds e = absurd e
  ended note old before new (Ok u) (Err fault) (Ok r) n t s f free holds e = absurd e

  -- after both removals no other file has changed
  pub apart : {first second : Result Unit StoreError} (old new : S) → RemovesBoth tells files count old new first second
      → tells ≡ true → (name : List ℕ) → name ≢ timestamp_file → name ≢ snapshot_file → files new name ≡ files old name
  apart old new r told name a b = r.snapshot.elsewhere told name b ∙ r.timestamp.elsewhere told name a

  pub kept_cleared : (old new : Parts S) (result : Result Receipt StepError) → Sound old → Clears tells files count old new result → Sound new
  kept_cleared old new result s (inl untried) = subst (λ (p : Parts S). Sound p) (sym untried.1) s
  kept_cleared old new result s (inr t) =
      ended Cleared old old new t.first t.second result refl refl s tt (λ name x. absurd (cc (x)))
      (λ told h. holds_cleared (files old.store) (files new.store) old.notes old.tip h s.free (apart old.store new.store t.removes told)) t.ends
