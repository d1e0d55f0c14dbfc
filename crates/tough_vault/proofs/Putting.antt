-- A root's step is its first part and its last part, and a vault keeps through it all that it keeps.
use Rattle.std.proofs.Common.{◌≡◌, ◌≢◌, ℕ, [], ◌∷◌, ◌++◌, Result, Ok, Err, OnOk, Bool, true, false, refl, sym, ap, ◌∙◌, subst, inl, inr}
use Rattle.tough_keys.specs.Same.{Verifies}
use Rattle.tough_roles.specs.Root.{RootDoc}
use Rattle.tough_roles.specs.Signature.{SignedDoc}
use Rattle.tough_checks.specs.Checks.{first_of}
use Rattle.tough_checks.specs.Documents.{root_text}
use Rattle.tough_checks.specs.Files.{root_file}
use Rattle.tough_checks.specs.Rotation.{rotates}
use Rattle.tough_checks.specs.StoredDocuments.{stored_root}
use Rattle.tough_checks.specs.declared.checks.StepError.{StepError}
use Rattle.tough_vault.specs.declared.entry.Receipt.{Receipt}
use Rattle.tough_vault.specs.declared.parts.Prepared.{Prepared}
use Rattle.tough_vault.specs.Journal.{Note, Root, note_of}
use Rattle.tough_vault.specs.Parts.{RootReadsBack, Prepares, Writes, Concludes}
use Rattle.tough_vault.specs.Puts.{Stores, Replaces, Puts}
use Rattle.tough_vault.specs.Rotated.{Unwritten, WritesAnew, ConcludesAs, ConcludesRoot}
use Rattle.tough_vault.specs.Step.{Parts, Takes}
use Rattle.tough_vault.specs.Steps.{needs, root_step}
use Rattle.tough_vault.specs.Stored.{Files}
use Rattle.tough_vault.proofs.Fitting.{fits_root, root_follows, own_root}
use Rattle.tough_vault.proofs.Holding.{holds_replaced}
use Rattle.tough_vault.proofs.Keeping.{Sound, kept, kept_refused, ended, apart}
use Rattle.tough_vault.proofs.Taking.{takes}

root_inj : (v w : ℕ) (a b : Bool) → Root v a ≡ Root w b → (v ≡ w) × (a ≡ b)
root_inj v w a b h = (cc (h), cc (h))

module _ {S : Type 0} (tells : Bool) (files : S → Files) (count : S → ℕ) (verifies : Verifies) (root : SignedDoc RootDoc) (old new : Parts S) (mid : S) where
  abbrev between : Parts S
  between = record { store = mid; notes = old.notes; tip = old.tip }

  -- the entry says whether keys were rotated
  kept_as : (rotated : Bool) (p : Prepared) (result : Result Receipt StepError) → note_of p.entry ≡ Root root.role.head.version rotated → rotated ≡ false
      → ConcludesAs tells files count (note_of p.entry) p between new result → Writes tells files count root_file (note_of p.entry) p.bytes.items between new result
  kept_as rotated p result is none c =
      subst (λ (n : Note). ConcludesAs tells files count n p between new result) (is ∙ ap (Root root.role.head.version) none) c

  anew_as : (rotated : Bool) (p : Prepared) (result : Result Receipt StepError) → note_of p.entry ≡ Root root.role.head.version rotated → rotated ≡ true
      → ConcludesAs tells files count (note_of p.entry) p between new result → WritesAnew tells files count root.role.head.version p.bytes.items between new result
  anew_as rotated p result is some c =
      subst (λ (n : Note). ConcludesAs tells files count n p between new result) (is ∙ ap (Root root.role.head.version) some) c

  -- a write that failed is one of a step that clears nothing
  unwritten : (p : Prepared) (e : StepError) → Unwritten tells files count between new e → Writes tells files count root_file (note_of p.entry) p.bytes.items between new (Err e)
  unwritten p e u = record { done = tt; stored = tt; fault = u.fault; broken = u.broken; same = λ is. u.same (cc (is)); elsewhere = u.elsewhere }

  -- ---- what a root's step does

  refused : (e : StepError) (result : Result Receipt StepError) → (result ≡ Err e) × (new ≡ between) → Concludes tells files count root_file (Err e) between new result
  refused e result c = record { refused = c; written = tt }

  wrote : (p : Prepared) (result : Result Receipt StepError) → Writes tells files count root_file (note_of p.entry) p.bytes.items between new result → Concludes tells files count root_file (Ok p) between new result
  wrote p result w = record { refused = tt; written = w }

  taken : (prepared : Result Prepared StepError) (result : Result Receipt StepError) → Prepares tells files count (root_step verifies old.tip root) old.store mid prepared
      → Concludes tells files count root_file prepared between new result → Takes tells files count (root_step verifies old.tip root) old new result
  taken prepared result p c = takes tells files count (root_step verifies old.tip root) old new mid prepared result p c

  not_stored : (e : StepError) → Takes tells files count (root_step verifies old.tip root) old new (Err e) → Puts tells files count verifies root old new (Err e)
  not_stored e t = inl (record { takes = t; keeps = tt })

  stored : (p : Prepared) (result : Result Receipt StepError) (h : Prepares tells files count (root_step verifies old.tip root) old.store mid (Ok p)) → rotates (stored_root verifies h.ready.0) root.role ≡ false
      → Writes tells files count root_file (note_of p.entry) p.bytes.items between new result → Puts tells files count verifies root old new result
  stored p (Err e) h same w = not_stored e (taken (Ok p) (Err e) h (wrote p (Err e) w))
  stored p (Ok r) h same w =
      inl (record { takes = taken (Ok p) (Ok r) h (wrote p (Ok r) w); keeps = w.done.1.entry ∙ (h.ready.2.entry ∙ ap (Root root.role.head.version) same) })

  replaced : (p : Prepared) (result : Result Receipt StepError) (h : Prepares tells files count (root_step verifies old.tip root) old.store mid (Ok p)) → rotates (stored_root verifies h.ready.0) root.role ≡ true
      → WritesAnew tells files count root.role.head.version p.bytes.items between new result → Puts tells files count verifies root old new result
  replaced p result h other (inl w) = inr (record {
    found = h.ready.0;
    passes = h.ready.1;
    rotated = other;
    between = w.between;
    stored = (λ x. cc (x, h.ready.2.bytes), λ t. w.stored t ∙ sym h.ready.2.bytes);
    elsewhere = λ t name ne. w.elsewhere t name ne ∙ h.same t name;
    tried = w.tried;
  })
  replaced p (Err e) h other (inr u) = not_stored e (taken (Ok p) (Err e) h (wrote p (Err e) (unwritten p e u)))
  replaced p (Ok r) h other (inr u) = absurd u

  by_keys : (p : Prepared) (result : Result Receipt StepError) (h : Prepares tells files count (root_step verifies old.tip root) old.store mid (Ok p)) (rotated : Bool) → rotates (stored_root verifies h.ready.0) root.role ≡ rotated
      → ConcludesAs tells files count (note_of p.entry) p between new result → Puts tells files count verifies root old new result
  by_keys p result h false is c = stored p result h is (kept_as (rotates (stored_root verifies h.ready.0) root.role) p result h.ready.2.entry is c)
  by_keys p result h true is c = replaced p result h is (anew_as (rotates (stored_root verifies h.ready.0) root.role) p result h.ready.2.entry is c)

  without : (e : StepError) (result : Result Receipt StepError) → Prepares tells files count (root_step verifies old.tip root) old.store mid (Err e)
      → (result ≡ Err e) × (new ≡ between) → Takes tells files count (root_step verifies old.tip root) old new (Err e)
  without e result h c = subst (λ (x : Result Receipt StepError). Takes tells files count (root_step verifies old.tip root) old new x) c.0 (taken (Err e) result h (refused e result c))

  pub puts : (prepared : Result Prepared StepError) (result : Result Receipt StepError) → Prepares tells files count (root_step verifies old.tip root) old.store mid prepared
      → ConcludesRoot tells files count prepared between new result → Puts tells files count verifies root old new result
  puts (Ok p) result h c = by_keys p result h (rotates (stored_root verifies h.ready.0) root.role) refl c
  puts (Err e) result h c =
      subst (λ (x : Result Receipt StepError). Puts tells files count verifies root old new x) (sym c.0)
      (not_stored e (without e result h c))

-- where it succeeded, what was prepared is so
pub ready_on : {S : Type 0} (tells : Bool) (files : S → Files) (count : S → ℕ) (P : Type 0) (old new : Parts S) (prepared : Result Prepared StepError) (result : Result Receipt StepError)
    → ConcludesRoot tells files count prepared old new result → OnOk prepared P → OnOk result P
ready_on tells files count P old new (Ok p) (Ok r) c back = back
ready_on tells files count P old new (Ok p) (Err e) c back = tt
ready_on tells files count P old new (Err f) (Ok r) c back = absurd (cc (c.0))
ready_on tells files count P old new (Err f) (Err e) c back = tt

-- ---- what a vault keeps

module _ {S : Type 0} (tells : Bool) (files : S → Files) (count : S → ℕ) (verifies : Verifies) (root : SignedDoc RootDoc) (old new : Parts S) (s : Sound tells files count old) where
  kept_stored : (result : Result Receipt StepError) → OnOk result (RootReadsBack root) → Stores tells files count verifies root old new result → Sound tells files count new
  kept_stored (Err e) back h = kept_refused tells files count (root_step verifies old.tip root) old new e s h.takes
  kept_stored (Ok r) back h = kept tells files count (root_step verifies old.tip root) old new r s
      (λ found d. fits_root tells files count old s.free (files new.store) verifies root back found (root_inj _ _ _ _ (sym d.receipt.entry ∙ h.keeps)).1 d.passes) h.takes

  kept_replaced : (result : Result Receipt StepError) → RootReadsBack root → Replaces tells files count verifies root old new result → Sound tells files count new
  kept_replaced result back h =
      ended tells files count (Root root.role.head.version true) old (record { store = h.between; notes = old.notes; tip = old.tip }) new h.tried.first h.tried.second result refl refl s
      (λ v e. root_follows (stored_root verifies h.found) old.tip.root root.role (first_of (needs (root_text root) ∷ [])) v h.passes.after e) (λ name x. absurd (cc (x)))
      (λ told holds. holds_replaced (files old.store) (files h.between) (files new.store) old.notes old.tip holds s.free root (h.elsewhere told) (h.stored.1 told) h.stored.0
      (own_root verifies root h.passes.before) back (apart tells files count h.between new.store h.tried.removes told))
      h.tried.ends

  ready_if : (result : Result Receipt StepError) → RootReadsBack root → OnOk result (RootReadsBack root)
  ready_if (Ok r) back = back
  ready_if (Err e) back = tt

  kept_put : (result : Result Receipt StepError) → RootReadsBack root → Puts tells files count verifies root old new result → Sound tells files count new
  kept_put result back (inl h) = kept_stored result (ready_if result back) h
  kept_put result back (inr h) = kept_replaced result back h

  -- a vault keeps through the two parts of a root's step all that it keeps
  pub after_put : (mid : S) (prepared : Result Prepared StepError) (result : Result Receipt StepError) → OnOk prepared (RootReadsBack root)
      → Prepares tells files count (root_step verifies old.tip root) old.store mid prepared
      → ConcludesRoot tells files count prepared (record { store = mid; notes = old.notes; tip = old.tip }) new result → Sound tells files count new
  after_put mid (Ok p) result back h c = kept_put result back (puts tells files count verifies root old new mid (Ok p) result h c)
  after_put mid (Err e) result back h c = kept_refused tells files count (root_step verifies old.tip root) old new e s (without tells files count verifies root old new mid e result h c)
