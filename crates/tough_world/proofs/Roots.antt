-- No root that is accepted is older than one accepted before on the same store, while it tells its files and no write failed.
use Rattle.std.proofs.Common.{◌≡◌, ◌≢◌, ℕ, ◌≤◌, List, [], ◌∷◌, ◌++◌, Option, None, Some, Result, Ok, Err, OnOk, Bool, true, false, nat_lt, ◌⊎◌, refl, sym, ap, ◌∙◌, subst, inl, inr, append_assoc}
use Rattle.std.proofs.lemmas.List.{append-nil}
use Rattle.tough_json.specs.Reading.{◌>>=◌}
use Rattle.tough_keys.specs.Same.{Verifies}
use Rattle.tough_roles.specs.Root.{RootDoc}
use Rattle.tough_roles.specs.Signature.{SignedDoc}
use Rattle.tough_roles.specs.declared.role_type.RoleType.TheVariants as role
use Rattle.tough_checks.specs.Checks.{OlderMetadata, first_of, verified, root_against, root_tip, root_after}
use Rattle.tough_checks.specs.Documents.{root_in, root_text, root_verdict}
use Rattle.tough_checks.specs.Files.{root_file}
use Rattle.tough_checks.specs.Rotation.{rotates}
use Rattle.tough_checks.specs.StoredDocuments.{if_verified, stored_root}
use Rattle.tough_checks.specs.declared.checks.StepError.{StepError}
use Rattle.tough_checks.specs.declared.checks.StepError.TheVariants.{Refused as ByCheck, DatastoreOpen, DatastoreCreate, DatastoreRemove, Memory}
use Rattle.tough_vault.specs.declared.entry.Receipt.{Receipt}
use Rattle.tough_vault.specs.declared.store.StoreError.{StoreError}
use Rattle.tough_vault.specs.Act.{Act, NoteTime, PutRoot, ClearRotated, AdvanceTimestamp, AdvanceSnapshot, PutDocument, Acts}
use Rattle.tough_vault.specs.Journal.{Note, Root, Cleared, Broken, Last, no_tip, applied, replay, has_broken, RootsRise}
use Rattle.tough_vault.specs.Parts.{RootReadsBack}
use Rattle.tough_vault.specs.Step.{Step, Parts, Passes, Takes as StepTakes, Tried, EndsRemoval, Clears}
use Rattle.tough_vault.specs.Steps.{time_step, needs, root_step, timestamp_step, snapshot_step, document_step}
use Rattle.tough_vault.specs.Puts.{Puts}
use Rattle.tough_vault.specs.Stored.{Files, SameFiles}
use Rattle.tough_vault.proofs.Fitting.{or_else_none, refuse_none, not_lt}
use Rattle.tough_vault.proofs.Holding.{distinct}
use Rattle.tough_vault.proofs.Journals.{some_inj, replay-append}
use Rattle.tough_vault.proofs.Rising.{RootFollows, RootsFollow, roots-append, roots_go_on}
use Rattle.tough_trust.specs.Vaults.{ReadsBack}
use Rattle.tough_world.specs.Steps.{IsProper, IsRead, Taken, all_notes, AllProper, AllRead, Takes, Trail}
use Rattle.tough_world.proofs.Going.{there, ok_of}
use Rattle.tough_world.proofs.Lists.{unbroken-front, unbroken-behind, one-added, none-added}
use Rattle.tough_world.proofs.RootDepth.{root-shallow, root-keys-own}

-- an entry that speaks of no root
pub record OfNoRoot (n : Note) : Type 0 where
  keeps : (tip : Last) → (applied tip n).root ≡ tip.root
  follows : (tip : Last) → RootFollows tip n

module _ {S : Type 0} (tells : Bool) (files : S → Files) (count : S → ℕ) (verifies : Verifies) (told : tells ≡ true) where
  -- the file reads as a root of this version that verifies itself
  abbrev HasRoot : ℕ → Option (List ℕ) → Type 0
  HasRoot v file = (r : SignedDoc RootDoc) × (stored_root verifies file ≡ Some r) × (r.role.head.version ≡ v)

  -- so does it of the version that was accepted last
  abbrev HasLast : Last → Option (List ℕ) → Type 0
  HasLast tip file = (v : ℕ) → tip.root ≡ Some v → HasRoot v file

  record Rooted (store : S) (notes : List Note) : Type 0 where
    rises : RootsFollow no_tip notes
    stored : HasLast (replay no_tip notes) (files store root_file)

  unrooted : (store : S) → Rooted store []
  unrooted store = record { rises = tt; stored = λ v e. absurd (cc (e)) }

  same_file : (tip : Last) (old new : Option (List ℕ)) → new ≡ old → HasLast tip old → HasLast tip new
  same_file tip old new same h v e = let r = h v e in (r.0, ap (stored_root verifies) same ∙ r.1, r.2)

  same_root : (old new : S) (ns : List Note) → SameFiles (files old) (files new) → Rooted old ns → Rooted new ns
  same_root old new ns same w = record { rises = w.rises; stored = same_file (replay no_tip ns) (files old root_file) (files new root_file) (same root_file) w.stored }

  -- ---- what a step does to the root's file

  -- nothing, and its entry speaks of no root
  pub record KeepsRoot (before after : Parts S) (ms : List Note) : Type 0 where
    pub same : files after.store root_file ≡ files before.store root_file
    free : (ms ≡ []) ⊎ ((n : Note) × (ms ≡ n ∷ []) × OfNoRoot n)

  -- it was written with a root that reads back and isn't older than the one before
  pub record PutsRoot (r : SignedDoc RootDoc) (before after : Parts S) (ms : List Note) : Type 0 where
    cleared : Bool
    is : ms ≡ Root r.role.head.version cleared ∷ []
    pub reads : stored_root verifies (files after.store root_file) ≡ Some r
    against : root_against (stored_root verifies (files before.store root_file)) r.role ≡ None

  abbrev pub Roots : Act → Parts S → Parts S → List Note → Type 0
  Roots act before after ms = KeepsRoot before after ms ⊎ ((r : SignedDoc RootDoc) × (act ≡ PutRoot r) × PutsRoot r before after ms)

  module _ (before after : Parts S) (ms : List Note) (added : after.notes ≡ before.notes ++ ms) (unbroken : has_broken ms ≡ false) where
    stays : after.notes ≡ before.notes → SameFiles (files before.store) (files after.store) → KeepsRoot before after ms
    stays n same = record { same = same root_file; free = inl (none-added before.notes after.notes ms n added) }

    breaks : {X : Type 0} → after.notes ≡ before.notes ++ Broken ∷ [] → X
    breaks n = absurd (cc (unbroken, ap has_broken (one-added before.notes after.notes ms Broken n added)))

    -- an entry that speaks of no root
    unmoved : (n : Note) → after.notes ≡ before.notes ++ n ∷ [] → OfNoRoot n → files after.store root_file ≡ files before.store root_file → KeepsRoot before after ms
    unmoved n is free same = record { same = same; free = inr (n, one-added before.notes after.notes ms n is added, free) }

    failed : (step : Step) (e : StepError) → StepTakes tells files count step before after (Err e) → KeepsRoot before after ms
    failed step (DatastoreCreate path) t = breaks (t.broken tt).notes
    failed step (ByCheck c) t = let e = t.same (λ x. x) in stays e.0 (e.2 told)
    failed step (DatastoreOpen path) t = let e = t.same (λ x. x) in stays e.0 (e.2 told)
    failed step (DatastoreRemove path) t = let e = t.same (λ x. x) in stays e.0 (e.2 told)
    failed step Memory t = let e = t.same (λ x. x) in stays e.0 (e.2 told)

    -- a step that writes another file
    elsewhere : (step : Step) (result : Result Receipt StepError) → ((found : Option (List ℕ)) → OfNoRoot (step.entry found)) → root_file ≢ step.file → StepTakes tells files count step before after result → KeepsRoot before after ms
    elsewhere step (Ok r) free apart t = unmoved (step.entry t.done.0) t.done.1.noted.notes (free t.done.0) (t.elsewhere told root_file apart)
    elsewhere step (Err e) free apart t = failed step e t

    removed : (mid : S) (note : Note) (result : Result Receipt StepError) → Tried tells files count note (record { store = mid; notes = before.notes; tip = before.tip }) after result → files after.store root_file ≡ files mid root_file
    removed mid note result t =
        t.removes.snapshot.elsewhere told root_file (distinct _ _ refl) ∙ t.removes.timestamp.elsewhere told root_file (distinct _ _ refl)

    ends : {X : Type 0} (note : Note) (first second : Result Unit StoreError) (mid : Parts S) (result : Result Receipt StepError) → mid.notes ≡ before.notes
        → (after.notes ≡ before.notes ++ note ∷ [] → X) → EndsRemoval note first second mid after result → X
    ends note (Ok u) (Ok v) mid (Ok r) same go e = go (e.0.notes ∙ ap (λ (xs : List Note). xs ++ note ∷ []) same)
    ends note (Err fault) second mid (Err x) same go e = breaks (e.0.notes ∙ ap (λ (xs : List Note). xs ++ Broken ∷ []) same)
    ends note (Ok u) (Err fault) mid (Err x) same go e = breaks (e.0.notes ∙ ap (λ (xs : List Note). xs ++ Broken ∷ []) same)
    ends note (Ok u) (Ok v) mid (Err x) same go e = absurd e
    ends note (Err fault) second mid (Ok r) same go e = absurd e
    ends note (Ok u) (Err fault) mid (Ok r) same go e = absurd e

    clears : (result : Result Receipt StepError) → Clears tells files count before after result → KeepsRoot before after ms
    clears result (inl same) = stays (ap (λ (p : Parts S). p.notes) same.1) (λ name. ap (λ (p : Parts S). files p.store name) same.1)
    clears result (inr t) =
        ends Cleared t.first t.second before result refl
        (λ is. unmoved Cleared is (record { keeps = λ tip. refl; follows = λ tip. tt }) (removed before.store Cleared result t)) t.ends

    reads_as : (r : SignedDoc RootDoc) (file : Option (List ℕ)) → (bytes : List ℕ) × (root_in bytes ≡ Some r) → RootReadsBack r → root_text r ≢ None → file ≡ root_text r → verified role.Root (root_verdict verifies r.role r) ≡ None
        → stored_root verifies file ≡ Some r
    reads_as r file read back some is passes =
        let b = there (root_text r) some in
        let again = back (root-keys-own read.0 r read.1) b.0 b.1 (root-shallow read.0 r read.1) in
        ap (stored_root verifies) (is ∙ b.1) ∙ (ap (λ o. o >>= λ d. if_verified (root_verdict verifies d.role d) d) again ∙ ap (λ x. if_verified x r) (ok_of role.Root (root_verdict verifies r.role r) passes))

    against_stored : (r : SignedDoc RootDoc) (found : Option (List ℕ)) → Passes tells files count (root_step verifies before.tip r) before.store found → root_against (stored_root verifies (files before.store root_file)) r.role ≡ None
    against_stored r found p =
        let stored = stored_root verifies found in
        let first = or_else_none (root_after stored before.tip.root r.role) (first_of (needs (root_text r) ∷ [])) p.after in
        let older = or_else_none (root_against stored r.role) (first_of (root_tip before.tip.root r.role ∷ [])) first.0 in
        ap (λ f. root_against (stored_root verifies f) r.role) (sym (p.finds told)) ∙ older.0

    fails_after : {X : Type 0} (note : Note) (first second : Result Unit StoreError) (mid : Parts S) (e : StepError) → mid.notes ≡ before.notes → EndsRemoval note first second mid after (Err e) → X
    fails_after note (Err fault) second mid e same h = breaks (h.0.notes ∙ ap (λ (xs : List Note). xs ++ Broken ∷ []) same)
    fails_after note (Ok u) (Err fault) mid e same h = breaks (h.0.notes ∙ ap (λ (xs : List Note). xs ++ Broken ∷ []) same)
    fails_after note (Ok u) (Ok v) mid e same h = absurd h

    puts : (r : SignedDoc RootDoc) (result : Result Receipt StepError) → (bytes : List ℕ) × (root_in bytes ≡ Some r) → OnOk result (RootReadsBack r) → Puts tells files count verifies r before after result → Roots (PutRoot r) before after ms
    puts r (Ok x) read back (inl h) =
        let p = h.takes.done.1.passes in
        let note = Root r.role.head.version (rotates (stored_root verifies h.takes.done.0) r.role) in
        inr (
          r,
          refl,
          record {
            cleared = rotates (stored_root verifies h.takes.done.0) r.role;
            is = one-added before.notes after.notes ms note h.takes.done.1.noted.notes added;
            reads = reads_as r (files after.store root_file) read back h.takes.stored.0 (h.takes.stored.1 told) p.before;
            against = against_stored r h.takes.done.0 p;
          },
        )
    puts r (Err e) read back (inl h) = inl (failed (root_step verifies before.tip r) e h.takes)
    puts r (Ok x) read back (inr h) =
        let note = Root r.role.head.version true in
        ends note h.tried.first h.tried.second (record { store = h.between; notes = before.notes; tip = before.tip }) (Ok x) refl
        (λ is. inr (
          r,
          refl,
          record {
            cleared = true;
            is = one-added before.notes after.notes ms note is added;
            reads = reads_as r (files after.store root_file) read back h.stored.0 (removed h.between note (Ok x) h.tried ∙ h.stored.1 told) h.passes.before;
            against = against_stored r h.found h.passes;
          },
        ))
        h.tried.ends
    puts r (Err e) read back (inr h) = fails_after (Root r.role.head.version true) h.tried.first h.tried.second (record { store = h.between; notes = before.notes; tip = before.tip }) e refl h.tried.ends

    pub acts : (act : Act) (result : Result Receipt StepError) → IsProper act → IsRead act → OnOk result (ReadsBack act) → Acts tells files count verifies act before after result → Roots act before after ms
    acts (NoteTime t) result proper read back h = inl (elsewhere (time_step before.tip t) result (λ found. record { keeps = λ tip. refl; follows = λ tip. tt }) (distinct _ _ refl) h)
    acts (PutRoot r) result proper read back h = puts r result read back h
    acts ClearRotated result proper read back h = inl (clears result h)
    acts (AdvanceTimestamp root d start enforced) result proper read back h =
        inl (elsewhere (timestamp_step verifies root before.tip d start enforced) result (λ found. record { keeps = λ tip. refl; follows = λ tip. tt }) (distinct _ _ refl) h)
    acts (AdvanceSnapshot root listed d start enforced) result proper read back h =
        inl (elsewhere (snapshot_step verifies root before.tip listed d start enforced) result (λ found. record { keeps = λ tip. refl; follows = λ tip. tt }) (distinct _ _ refl) h)
    acts (PutDocument name text) result proper read back h =
        inl (elsewhere (document_step name text) result (λ found. record { keeps = λ tip. refl; follows = λ tip. tt }) (λ e. proper.root (sym e)) h)

  -- ---- trails

  -- one entry was added
  noted : (ns : List Note) (now : S) (n : Note) → RootsFollow no_tip ns → RootFollows (replay no_tip ns) n → HasLast (applied (replay no_tip ns) n) (files now root_file) → Rooted now (ns ++ n ∷ [])
  noted ns now n rises follows stored = record {
    rises = roots-append no_tip ns n rises follows;
    stored = subst (λ (l : Last). HasLast l (files now root_file)) (sym (replay-append no_tip ns n)) stored;
  }

  stayed : (ns : List Note) (before after : Parts S) (ms : List Note) → Rooted before.store ns → files after.store root_file ≡ files before.store root_file
      → (ms ≡ []) ⊎ ((n : Note) × (ms ≡ n ∷ []) × OfNoRoot n) → Rooted after.store (ns ++ ms)
  stayed ns before after ms w same (inl none) =
      subst (λ (xs : List Note). Rooted after.store xs) (sym (ap (λ (xs : List Note). ns ++ xs) none ∙ append-nil ns))
      (record { rises = w.rises; stored = same_file (replay no_tip ns) (files before.store root_file) (files after.store root_file) same w.stored })
  stayed ns before after ms w same (inr (n, is, free)) =
      subst (λ (xs : List Note). Rooted after.store (ns ++ xs)) (sym is)
      (noted ns after.store n w.rises (free.follows (replay no_tip ns))
      (λ v e. same_file (replay no_tip ns) (files before.store root_file) (files after.store root_file) same w.stored v (sym (free.keeps (replay no_tip ns)) ∙ e)))

  goes : (act : Act) (ns : List Note) (before after : Parts S) (ms : List Note) → Rooted before.store ns → Roots act before after ms → Rooted after.store (ns ++ ms)
  goes act ns before after ms w (inl k) = stayed ns before after ms w k.same k.free
  goes act ns before after ms w (inr (r, is, p)) =
      subst (λ (xs : List Note). Rooted after.store (ns ++ xs)) (sym p.is)
      (noted ns after.store (Root r.role.head.version p.cleared) w.rises
      (λ u e.
      let s = w.stored u e in
      let passes = ap (λ o. root_against o r.role) (sym s.1) ∙ p.against in
      let le = not_lt r.role.head.version s.0.role.head.version (refuse_none (nat_lt r.role.head.version s.0.role.head.version) (OlderMetadata role.Root s.0.role.head.version r.role.head.version) passes) in
      subst (λ (k : ℕ). k ≤ r.role.head.version) s.2 le)
      (λ u e. (r, p.reads, some_inj r.role.head.version u e)))

  keeps_root : (ns : List Note) (x : Taken) (old new : S) → IsProper x.act → IsRead x.act → Takes tells files count verifies x old new → has_broken x.notes ≡ false → Rooted old ns → Rooted new (ns ++ x.notes)
  keeps_root ns x old new proper read t b w =
      subst (λ (store : S). Rooted store (ns ++ x.notes)) t.to
      (goes x.act ns t.before t.after x.notes (same_root old t.before.store ns (t.from told) w) (acts t.before t.after x.notes t.added b x.act t.result proper read t.back t.acts))

  rooted : (xs : List Taken) (ns : List Note) (old new : S) → AllProper xs → AllRead xs → Trail tells files count verifies old xs new → has_broken (all_notes xs) ≡ false → Rooted old ns → Rooted new (ns ++ all_notes xs)
  rooted [] ns old new p q t b w = subst (λ (xs : List Note). Rooted new xs) (sym (append-nil ns)) (same_root old new ns (t told) w)
  rooted (x ∷ xs) ns old new p q t b w =
      let mid = keeps_root ns x old t.0 p.0 q.0 t.1 (unbroken-front x.notes (all_notes xs) b) w in
      subst (λ (ms : List Note). Rooted new ms) (append_assoc ns x.notes (all_notes xs)) (rooted xs (ns ++ x.notes) t.0 new p.1 q.1 t.2 (unbroken-behind x.notes (all_notes xs) b) mid)

  pub roots_rise : (xs : List Taken) (old new : S) → AllProper xs → AllRead xs → Trail tells files count verifies old xs new → has_broken (all_notes xs) ≡ false → RootsRise (all_notes xs)
  roots_rise xs old new p q t b = roots_go_on (all_notes xs) (rooted xs [] old new p q t b (unrooted old)).rises
