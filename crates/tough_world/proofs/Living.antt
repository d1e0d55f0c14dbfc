-- Runs and lives, as steps on one store.
use Rattle.std.proofs.Common.{◌≡◌, ℕ, zero, suc, ℤ, List, [], ◌∷◌, ◌++◌, Option, Some, None, Result, Ok, Err, Bool, true, false, slice_get, ◌⊎◌, inl, inr, refl, sym, ap, ◌∙◌, subst, append_assoc}
use Rattle.std.proofs.lemmas.Bool.{true≢false}
use Rattle.std.proofs.lemmas.List.{append-nil}
use Rattle.std.specs.Prelude.{slice_set, ⊤}
use Rattle.tough_keys.specs.Same.{Verifies}
use Rattle.tough_roles.specs.Policy.{Policy}
use Rattle.tough_roles.specs.Root.{RootDoc}
use Rattle.tough_roles.specs.Signature.{SignedDoc}
use Rattle.tough_checks.specs.Files.{root_file}
use Rattle.tough_checks.specs.Rotation.{rotates}
use Rattle.tough_checks.specs.StoredDocuments.{stored_root}
use Rattle.tough_checks.specs.Versions.{Pair, Roles}
use Rattle.tough_checks.specs.declared.checks.StepError.{StepError}
use Rattle.tough_checks.specs.declared.checks.StepError.TheVariants.{Refused, DatastoreOpen, DatastoreCreate, DatastoreRemove, Memory}
use Rattle.tough_vault.specs.declared.entry.Receipt.{Receipt}
use Rattle.tough_vault.specs.Act.{Act, NoteTime, PutRoot, ClearRotated, AdvanceTimestamp, AdvanceSnapshot, PutDocument, Acts}
use Rattle.tough_vault.specs.Journal.{Note, Root, Broken, Last, no_tip, applied, replay, has_broken, has_cleared, NothingGoesBack}
use Rattle.tough_vault.specs.Step.{Step, Parts, Takes as StepTakes}
use Rattle.tough_vault.specs.Steps.{time_step, root_step, timestamp_step, snapshot_step, document_step}
use Rattle.tough_vault.specs.Puts.{Puts}
use Rattle.tough_vault.specs.Stored.{Files, SameFiles}
use Rattle.tough_update.specs.declared.machine.Core.{Core}
use Rattle.tough_update.specs.Answered.{AnswerDoc}
use Rattle.tough_update.specs.Machine.{act_at, question_at, question}
use Rattle.tough_update.specs.Questions.{Question}
use Rattle.tough_update.specs.Questions as ask
use Rattle.tough_update.specs.Stages.{PendingDoc, StageDoc}
use Rattle.tough_update.specs.Stages as at
use Rattle.tough_update.specs.View.{core_doc}
use Rattle.tough_world.specs.declared.lives.Life.{Life}
use Rattle.tough_world.specs.declared.turns.Answer.{Answer}
use Rattle.tough_world.specs.declared.turns.Answer.TheVariants as by
use Rattle.tough_world.specs.declared.turns.Turn.{Turn}
use Rattle.tough_world.specs.declared.turns.TurnError.{TurnError}
use Rattle.tough_world.specs.declared.turns.TurnError.TheVariants.{NotAsked, Misfit}
use Rattle.tough_world.specs.Lives.{joined, AreFresh, BeginFresh, begun, AllUnder as CoresUnder, Lives, AlongRun, Along, OnePolicy, TipsAddNothing, GoesOn}
use Rattle.tough_world.specs.Policies.{HasPolicy, RootUnder, StageUnder}
use Rattle.tough_world.specs.Steps.{IsProper, IsUnder, Taken, all_notes, AllUnder, AllProper, Takes, Trail, AddsNothing}
use Rattle.tough_world.specs.Turns.{WorldDoc, Replies, Turned, Runs}
use Rattle.tough_world.proofs.Going.{Whole, nothing_yet, same_whole, keeps, trail, adds-nothing, steps_go_on}
use Rattle.tough_world.proofs.Lists.{unbroken-front, uncleared-both, replay-both, time-behind, timestamp-behind, snapshot-behind}
use Rattle.tough_world.proofs.Rotation.{unrotated}
use Rattle.tough_world.proofs.Sections.{notes-both, proper-both, trail-after, trail-both}
use Rattle.tough_world.proofs.Standing.{WasRead, Stands, Begins, HandsOn, Sure, targets_free, next-read, first-read, goes-sure}
use Rattle.tough_world.proofs.Telling.{replies-tell}

-- ---- updates by their numbers

module _ (G : SignedDoc RootDoc → Type 0) (v : Verifies) where
  abbrev pub AllSure : List Core → Type 0
  AllSure [] = ⊤
  AllSure (c ∷ cs) = Sure G v (core_doc c) × AllSure cs

  -- it holds of the roots that the callers' bytes give
  abbrev pub AllBegin : List Core → Type 0
  AllBegin [] = ⊤
  AllBegin (c ∷ cs) = Begins G v (core_doc c).setting.trusted × AllBegin cs

  pub sure-get : (cs : List Core) (k : ℕ) (c : Core) → AllSure cs → slice_get cs k ≡ Some c → Sure G v (core_doc c)
  sure-get [] k c h e = absurd (cc (e))
  sure-get (x ∷ cs) zero c h e = let same : x ≡ c = cc (e) in subst (λ (y : Core). Sure G v (core_doc y)) same h.0
  sure-get (x ∷ cs) (suc k) c h e = sure-get cs k c h.1 e

  pub sure-set : (cs : List Core) (k : ℕ) (c : Core) → AllSure cs → Sure G v (core_doc c) → AllSure (slice_set cs k c)
  sure-set [] k c h s = h
  sure-set (x ∷ cs) zero c h s = (s, h.1)
  sure-set (x ∷ cs) (suc k) c h s = (h.0, sure-set cs k c h.1 s)

  stand-fresh : (st : StageDoc) → st ≡ at.Moment → Stands G st
  stand-fresh st e = subst (λ (x : StageDoc). Stands G x) (sym e) tt

  pub all-fresh : (cs : List Core) → AreFresh cs → AllBegin cs → AllSure cs
  all-fresh [] h b = tt
  all-fresh (c ∷ cs) h b = ((stand-fresh (core_doc c).stage h.0, b.0), all-fresh cs h.1 b.1)

-- each root that was handed in was read
pub all-read : (v : Verifies) (cs : List Core) → AllBegin WasRead v cs
all-read v [] = tt
all-read v (c ∷ cs) = (λ root is. first-read v (core_doc c).setting.trusted root is, all-read v cs)

pub read-on : (v : Verifies) → HandsOn WasRead v
read-on v old bytes root h is = next-read v old.role bytes root is

under-get : (P Q : Option Policy) (cs : List Core) (k : ℕ) (c : Core) → CoresUnder P Q cs → slice_get cs k ≡ Some c → StageUnder P Q (core_doc c).stage
under-get P Q [] k c h e = absurd (cc (e))
under-get P Q (x ∷ cs) zero c h e = let same : x ≡ c = cc (e) in subst (λ (y : Core). StageUnder P Q (core_doc y).stage) same h.0
under-get P Q (x ∷ cs) (suc k) c h e = under-get P Q cs k c h.1 e

-- ---- the steps that are asked for

abbrev IsNoClearing : Option Policy → Option Policy → Act → Type 0
IsNoClearing P Q ClearRotated = ⊥
IsNoClearing P Q (NoteTime now) = ⊤
IsNoClearing P Q (PutRoot r) = HasPolicy P Q r.role
IsNoClearing P Q (AdvanceTimestamp root t start enforced) = ⊤
IsNoClearing P Q (AdvanceSnapshot root listed s start enforced) = ⊤
IsNoClearing P Q (PutDocument name text) = ⊤

record Good (P Q : Option Policy) (act : Act) : Type 0 where
  under : IsUnder P Q act
  proper : IsProper act
  kept : IsNoClearing P Q act

pending-good : (P Q : Option Policy) (enforced : Bool) (p : PendingDoc) → StageUnder P Q (at.Step p) → Stands WasRead (at.Step p) → Good P Q (act_at enforced p)
pending-good P Q enforced (at.NoteTime now) u t = record { under = tt; proper = tt; kept = tt }
pending-good P Q enforced (at.PutRoot w) u t = record { under = tt; proper = tt; kept = u.1 }
pending-good P Q enforced (at.PutLast w) u t = record { under = tt; proper = tt; kept = u.1 }
pending-good P Q enforced (at.PutTimestamp b x) u t = record { under = u.0; proper = t; kept = tt }
pending-good P Q enforced (at.PutSnapshot k listed) u t = record { under = u.1; proper = t; kept = tt }
pending-good P Q enforced (at.PutTargets k d) u t = record { under = tt; proper = targets_free; kept = tt }
pending-good P Q enforced (at.PutDelegated k roles name d) u t = record { under = tt; proper = t; kept = tt }

asked-good : (P Q : Option Policy) (enforced : Bool) (st : StageDoc) (act : Act) → question_at enforced st ≡ ask.Step act → StageUnder P Q st → Stands WasRead st → Good P Q act
asked-good P Q enforced (at.Step p) act e u t = subst (Good P Q) (cc (e)) (pending-good P Q enforced p u t)
asked-good P Q enforced at.Moment act e u t = absurd (cc (e))
asked-good P Q enforced (at.ReadRoot w) act e u t = absurd (cc (e))
asked-good P Q enforced (at.Fetch w r) act e u t = absurd (cc (e))
asked-good P Q enforced (at.Done r) act e u t = absurd (cc (e))
asked-good P Q enforced at.Taken act e u t = absurd (cc (e))

-- the stored root, where there is one, has the same keys
unrotated-stored : (P Q : Option Policy) (r : SignedDoc RootDoc) (o : Option (SignedDoc RootDoc)) → HasPolicy P Q r.role → ((s : SignedDoc RootDoc) → o ≡ Some s → HasPolicy P Q s.role) → rotates o r.role ≡ false
unrotated-stored P Q r None k stored = refl
unrotated-stored P Q r (Some s) k stored = let h = stored s refl in unrotated s.role r.role (h.0 ∙ sym k.0) (h.1 ∙ sym k.1)

-- ---- what a tip has that is behind another

record Behind (a b : Last) : Type 0 where
  time : (t : ℤ) → a.time ≡ Some t → b.time ≡ Some t
  timestamp : (p : Pair) → a.timestamp ≡ Some p → b.timestamp ≡ Some p
  snapshot : (r : Roles) → a.snapshot ≡ Some r → b.snapshot ≡ Some r

none-behind : (b : Last) → Behind no_tip b
none-behind b = record { time = λ t e. absurd (cc (e)); timestamp = λ p e. absurd (cc (e)); snapshot = λ r e. absurd (cc (e)) }

all-behind : (a b : Last) (ns : List Note) → Behind a b → Behind (replay a ns) (replay b ns)
all-behind a b ns h = record { time = time-behind a b ns h.time; timestamp = timestamp-behind a b ns h.timestamp; snapshot = snapshot-behind a b ns h.snapshot }

under-both : (P Q : Option Policy) (xs ys : List Taken) → AllUnder P Q xs → AllUnder P Q ys → AllUnder P Q (xs ++ ys)
under-both P Q [] ys a b = b
under-both P Q (x ∷ xs) ys a b = (a.0, under-both P Q xs ys a.1 b)

module _ {S : Type 0} (tells : Bool) (files : S → Files) (count : S → ℕ) (verifies : Verifies) (P Q : Option Policy) (told : tells ≡ true) where
  -- ---- what a step adds

  record Adds (before after : Parts S) : Type 0 where
    notes : List Note
    added : after.notes ≡ before.notes ++ notes
    tip : after.tip ≡ replay before.tip notes
    uncleared : has_cleared notes ≡ false

  adds-none : (before after : Parts S) → after.notes ≡ before.notes → after.tip ≡ before.tip → Adds before after
  adds-none before after n t = record { notes = []; added = n ∙ sym (append-nil before.notes); tip = t; uncleared = refl }

  failed-adds : (step : Step) (before after : Parts S) (e : StepError) → StepTakes tells files count step before after (Err e) → Adds before after
  failed-adds step before after (DatastoreCreate path) t = let b = t.broken tt in record { notes = Broken ∷ []; added = b.notes; tip = b.tip; uncleared = refl }
  failed-adds step before after (Refused c) t = let e = t.same (λ x. x) in adds-none before after e.0 e.1
  failed-adds step before after (DatastoreOpen path) t = let e = t.same (λ x. x) in adds-none before after e.0 e.1
  failed-adds step before after (DatastoreRemove path) t = let e = t.same (λ x. x) in adds-none before after e.0 e.1
  failed-adds step before after Memory t = let e = t.same (λ x. x) in adds-none before after e.0 e.1

  takes-adds : (step : Step) (before after : Parts S) (result : Result Receipt StepError) → ((found : Option (List ℕ)) → has_cleared (step.entry found ∷ []) ≡ false) → StepTakes tells files count step before after result → Adds before after
  takes-adds step before after (Ok r) u t = record { notes = step.entry t.done.0 ∷ []; added = t.done.1.noted.notes; tip = t.done.1.noted.tip; uncleared = u t.done.0 }
  takes-adds step before after (Err e) u t = failed-adds step before after e t

  -- a root whose keys are those of the stored one
  puts-adds : (r : SignedDoc RootDoc) (before after : Parts S) (result : Result Receipt StepError) → HasPolicy P Q r.role → RootUnder verifies P Q (files before.store root_file)
      → Puts tells files count verifies r before after result → Adds before after
  puts-adds r before after (Ok x) k stored (inl h) = record {
    notes = Root r.role.head.version false ∷ [];
    added = h.takes.done.1.noted.notes ∙ ap (λ n. before.notes ++ n ∷ []) (sym h.takes.done.1.receipt.entry ∙ h.keeps);
    tip = h.takes.done.1.noted.tip ∙ ap (applied before.tip) (sym h.takes.done.1.receipt.entry ∙ h.keeps);
    uncleared = refl;
  }
  puts-adds r before after (Err e) k stored (inl h) = failed-adds (root_step verifies before.tip r) before after e h.takes
  puts-adds r before after result k stored (inr h) =
      let kept = unrotated-stored P Q r (stored_root verifies (files before.store root_file)) k stored in
      absurd (true≢false (sym h.rotated ∙ (ap (λ f. rotates (stored_root verifies f) r.role) (h.passes.finds told) ∙ kept)))

  acts-adds : (act : Act) (before after : Parts S) (result : Result Receipt StepError) → IsNoClearing P Q act → RootUnder verifies P Q (files before.store root_file) → Acts tells files count verifies act before after result → Adds before after
  acts-adds (NoteTime t) before after result k stored h = takes-adds (time_step before.tip t) before after result (λ found. refl) h
  acts-adds (PutRoot r) before after result k stored h = puts-adds r before after result k stored h
  acts-adds ClearRotated before after result k stored h = absurd k
  acts-adds (AdvanceTimestamp root t start enforced) before after result k stored h = takes-adds (timestamp_step verifies root before.tip t start enforced) before after result (λ found. refl) h
  acts-adds (AdvanceSnapshot root listed s start enforced) before after result k stored h = takes-adds (snapshot_step verifies root before.tip listed s start enforced) before after result (λ found. refl) h
  acts-adds (PutDocument name text) before after result k stored h = takes-adds (document_step name text) before after result (λ found. refl) h

  -- ---- turns

  record Stepped (old new : Parts S) : Type 0 where
    step : Taken
    takes : Takes tells files count verifies step old.store new.store
    under : IsUnder P Q step.act
    proper : IsProper step.act
    added : new.notes ≡ old.notes ++ step.notes
    tip : new.tip ≡ replay old.tip step.notes
    uncleared : has_cleared step.notes ≡ false

  -- nothing was put on the vault, or its stored root was looked at
  record Quiet (old new : Parts S) : Type 0 where
    files_same : SameFiles (files old.store) (files new.store)
    notes_same : new.notes ≡ old.notes
    tip_same : new.tip ≡ old.tip

  -- nothing was noted, or one step was put on the vault
  abbrev Moves : Parts S → Parts S → Type 0
  Moves old new = Quiet old new ⊎ Stepped old new

  unmoved : (old new : Parts S) → new ≡ old → Quiet old new
  unmoved old new e = record { files_same = λ name. ap (λ (p : Parts S). files p.store name) e; notes_same = ap (λ (p : Parts S). p.notes) e; tip_same = ap (λ (p : Parts S). p.tip) e }

  replies-moves : (q : Question) (answer : Answer) (old new : Parts S) (reply : AnswerDoc) → Replies tells files count verifies q answer old reply new → ((act : Act) → q ≡ ask.Step act → Good P Q act) → RootUnder verifies P Q (files old.store root_file) → Moves old new
  replies-moves ask.Moment (by.Moment now) old new reply h g stored = inl (unmoved old new h.1)
  replies-moves (ask.Fetch r) (by.Bytes v) old new reply h g stored = inl (unmoved old new h.1)
  replies-moves (ask.Fetch r) (by.NotStarted f) old new reply h g stored = inl (unmoved old new h.1)
  replies-moves (ask.Fetch r) (by.Cut f) old new reply h g stored = inl (unmoved old new h.1)
  replies-moves (ask.Stored first) by.Step old new reply h g stored =
      let look = h.2 in
      inl (record { files_same = look.sees.same told; notes_same = look.notes; tip_same = look.tip })
  replies-moves (ask.Step act) by.Step old new reply h g stored =
      let good = g act refl in
      let s = h.2 in
      let a = acts-adds act old new s.0 good.kept stored s.2 in
      inr (record {
        step = record { act = act; notes = a.notes };
        takes = record { before = old; after = new; result = s.0; acts = s.2; back = s.3; added = a.added; from = λ t name. refl; to = refl };
        under = good.under;
        proper = good.proper;
        added = a.added;
        tip = a.tip;
        uncleared = a.uncleared;
      })
  replies-moves _ _ old new reply h g stored = absurd (h)

  record Turns (old new : WorldDoc S) : Type 0 where
    moves : Moves old.parts new.parts
    stand : AllSure WasRead verifies new.cores

  stay-turns : (old new : WorldDoc S) → new ≡ old → AllSure WasRead verifies old.cores → Turns old new
  stay-turns old new e s = record { moves = inl (unmoved old.parts new.parts (ap (λ (w : WorldDoc S). w.parts) e)); stand = subst (λ (w : WorldDoc S). AllSure WasRead verifies w.cores) (sym e) s }

  turned-turns : (load : ℕ) (answer : Answer) (old new : WorldDoc S) (r : Result ⊤ TurnError) → Turned tells files count verifies load answer old new r → CoresUnder P Q old.cores × RootUnder verifies P Q (files old.parts.store root_file) → AllSure WasRead verifies old.cores → Turns old new
  turned-turns load answer old new (Ok u) t under stand =
      let c = core_doc t.core in
      let cu = under-get P Q old.cores load t.core under.0 t.there in
      let cs = sure-get WasRead verifies old.cores load t.core stand t.there in
      record {
        moves = replies-moves (question c) answer old.parts new.parts t.reply t.replies (λ act e. asked-good P Q c.setting.enforced c.stage act e cu cs.0) under.1;
        stand = subst (λ (xs : List Core). AllSure WasRead verifies xs) (sym t.cores) (sure-set WasRead verifies old.cores load t.next stand
            (goes-sure WasRead verifies (read-on verifies) c (core_doc t.next) t.reply cs (replies-tell tells files count verifies (question c) answer old.parts new.parts t.reply t.replies) t.answered.goes));
      }
  turned-turns load answer old new (Err NotAsked) t under stand = stay-turns old new t.0 stand
  turned-turns load answer old new (Err Misfit) t under stand = stay-turns old new t.0 stand

  -- ---- runs

  abbrev Fine : S → List Note → Type 0
  Fine store ns = has_broken ns ≡ false → Whole tells files count verifies P Q told store ns

  abbrev Tips : (ts : List Turn) (old new : WorldDoc S) → Runs tells files count verifies old ts new → Type 0
  Tips = AlongRun tells files count verifies (λ w. AddsNothing tells files count verifies P Q w.parts)

  abbrev Roots : (ts : List Turn) (old new : WorldDoc S) → Runs tells files count verifies old ts new → Type 0
  Roots = AlongRun tells files count verifies (λ w. CoresUnder P Q w.cores × RootUnder verifies P Q (files w.parts.store root_file))

  record Gone (ns : List Note) (old new : WorldDoc S) (T : Type 0) : Type 0 where
    taken : List Taken
    trail : Trail tells files count verifies old.parts.store taken new.parts.store
    under : AllUnder P Q taken
    proper : AllProper taken
    notes : new.parts.notes ≡ old.parts.notes ++ all_notes taken
    uncleared : has_cleared (all_notes taken) ≡ false
    tips : has_broken (ns ++ all_notes taken) ≡ false → T

  tips-at : (ns : List Note) (p : Parts S) → Fine p.store ns → Behind p.tip (replay no_tip ns) → has_broken ns ≡ false → AddsNothing tells files count verifies P Q p
  tips-at ns p fine behind b = adds-nothing tells files count verifies P Q told p (replay no_tip ns) (fine b).stored behind.time behind.timestamp behind.snapshot

  -- one turn, and the run after it
  moved : (ts : List Turn) (ns : List Note) (old mid new : WorldDoc S) (run : Runs tells files count verifies mid ts new) → has_cleared ns ≡ false → Fine old.parts.store ns → Behind old.parts.tip (replay no_tip ns)
      → ((ms : List Note) → has_cleared ms ≡ false → Fine mid.parts.store ms → Behind mid.parts.tip (replay no_tip ms) → Gone ms mid new (Tips ts mid new run))
      → Moves old.parts mid.parts → Gone ns old new (AddsNothing tells files count verifies P Q old.parts × Tips ts mid new run)
  moved ts ns old mid new run c fine behind go (inl quiet) =
      let g = go ns c (λ b. same_whole tells files count verifies P Q told old.parts.store mid.parts.store ns quiet.files_same (fine b)) (subst (λ (l : Last). Behind l (replay no_tip ns)) (sym quiet.tip_same) behind) in
      record {
        taken = g.taken;
        trail = trail-after tells files count verifies g.taken old.parts.store mid.parts.store new.parts.store (λ t. quiet.files_same) g.trail;
        under = g.under;
        proper = g.proper;
        notes = g.notes ∙ ap (λ (ms : List Note). ms ++ all_notes g.taken) quiet.notes_same;
        uncleared = g.uncleared;
        tips = λ b. (tips-at ns old.parts fine behind (unbroken-front ns (all_notes g.taken) b), g.tips b);
      }
  moved ts ns old mid new run c fine behind go (inr x) =
      let step = x.step in
      let more = uncleared-both ns step.notes c x.uncleared in
      let g = go (ns ++ step.notes) more
      (λ b. keeps tells files count verifies P Q told ns step old.parts.store mid.parts.store x.under x.proper x.takes b more (fine (unbroken-front ns step.notes b)))
      (subst (λ (l : Last). Behind l (replay no_tip (ns ++ step.notes))) (sym x.tip) (subst (λ (l : Last). Behind (replay old.parts.tip step.notes) l) (sym (replay-both no_tip ns step.notes)) (all-behind old.parts.tip (replay no_tip ns) step.notes behind))) in
      let rest = all_notes g.taken in
      record {
        taken = step ∷ g.taken;
        trail = (mid.parts.store, x.takes, g.trail);
        under = (x.under, g.under);
        proper = (x.proper, g.proper);
        notes = g.notes ∙ (ap (λ (ms : List Note). ms ++ rest) x.added ∙ append_assoc old.parts.notes step.notes rest);
        uncleared = uncleared-both step.notes rest x.uncleared g.uncleared;
        tips = λ b. (tips-at ns old.parts fine behind (unbroken-front ns (step.notes ++ rest) b), g.tips (ap has_broken (append_assoc ns step.notes rest) ∙ b));
      }

  run-goes : (ts : List Turn) (ns : List Note) (old new : WorldDoc S) (run : Runs tells files count verifies old ts new) → Roots ts old new run → AllSure WasRead verifies old.cores → has_cleared ns ≡ false
      → Fine old.parts.store ns → Behind old.parts.tip (replay no_tip ns) → Gone ns old new (Tips ts old new run)
  run-goes [] ns old new run roots stand c fine behind = record {
    taken = [];
    trail = λ t name. ap (λ (w : WorldDoc S). files w.parts.store name) run;
    under = tt;
    proper = tt;
    notes = ap (λ (w : WorldDoc S). w.parts.notes) run ∙ sym (append-nil old.parts.notes);
    uncleared = refl;
    tips = λ b. tips-at ns old.parts fine behind (unbroken-front ns [] b);
  }
  run-goes (t ∷ ts) ns old new run roots stand c fine behind =
      let turn = turned-turns t.load t.answer old run.0 run.1.0 run.1.1 roots.0 stand in
      moved ts ns old run.0 new run.2 c fine behind (λ ms d f b. run-goes ts ms run.0 new run.2 roots.1 turn.stand d f b) turn.moves

  -- ---- lives

  record Went (ns : List Note) (js : List (List Note)) (old new : S) (T : Type 0) : Type 0 where
    taken : List Taken
    trail : Trail tells files count verifies old taken new
    under : AllUnder P Q taken
    proper : AllProper taken
    notes : joined js ≡ all_notes taken
    uncleared : has_cleared (all_notes taken) ≡ false
    tips : has_broken (ns ++ all_notes taken) ≡ false → T

  lives-go : (ls : List Life) (js : List (List Note)) (ns : List Note) (old new : S) (lived : Lives tells files count verifies old ls js new) → BeginFresh ls → OnePolicy tells files count verifies P Q ls js old new lived
      → has_cleared ns ≡ false → Fine old ns → Went ns js old new (TipsAddNothing tells files count verifies P Q ls js old new lived)
  lives-go [] [] ns old new lived fresh roots c fine = record { taken = []; trail = λ t name. ap (λ (s : S). files s name) lived; under = tt; proper = tt; notes = refl; uncleared = refl; tips = λ b. tt }
  lives-go (l ∷ ls) (j ∷ js) ns old new lived fresh roots c fine =
      let end = lived.0 in
      let g = run-goes l.schedule.items ns (begun l old) end lived.1 roots.0 (all-fresh WasRead verifies l.cores.items fresh.0 (all-read verifies l.cores.items)) c fine (none-behind (replay no_tip ns)) in
      let here = all_notes g.taken in
      let more = uncleared-both ns here c g.uncleared in
      let r = lives-go ls js (ns ++ here) end.parts.store new lived.3 fresh.1 roots.1 more
      (λ b. trail tells files count verifies P Q told g.taken ns old end.parts.store g.under g.proper g.trail b more (fine (unbroken-front ns here b))) in
      let rest = all_notes r.taken in
      let both = notes-both g.taken r.taken in
      record {
        taken = g.taken ++ r.taken;
        trail = trail-both tells files count verifies g.taken r.taken old end.parts.store new g.trail r.trail;
        under = under-both P Q g.taken r.taken g.under r.under;
        proper = proper-both g.taken r.taken g.proper r.proper;
        notes = ap (λ (ms : List Note). ms ++ joined js) (sym lived.2 ∙ g.notes) ∙ (ap (λ (ms : List Note). here ++ ms) r.notes ∙ sym both);
        uncleared = ap has_cleared both ∙ uncleared-both here rest g.uncleared r.uncleared;
        tips = λ b.
            let b2 : has_broken (ns ++ (here ++ rest)) ≡ false = ap (λ (ms : List Note). has_broken (ns ++ ms)) (sym both) ∙ b in
            let b3 : has_broken ((ns ++ here) ++ rest) ≡ false = ap has_broken (append_assoc ns here rest) ∙ b2 in
            (g.tips (unbroken-front (ns ++ here) rest b3), r.tips b3);
      }
  lives-go [] (j ∷ js) ns old new lived fresh roots c fine = absurd lived
  lives-go (l ∷ ls) [] ns old new lived fresh roots c fine = absurd lived

  pub lives_go_on : (ls : List Life) (js : List (List Note)) (old new : S) (lived : Lives tells files count verifies old ls js new) → BeginFresh ls → OnePolicy tells files count verifies P Q ls js old new lived
      → has_broken (joined js) ≡ false → GoesOn tells files count verifies P Q ls js old new lived
  lives_go_on ls js old new lived fresh roots b =
      let w = lives-go ls js [] old new lived fresh roots refl (λ _. nothing_yet tells files count verifies P Q told old) in
      let b2 : has_broken (all_notes w.taken) ≡ false = ap has_broken (sym w.notes) ∙ b in
      record {
        uncleared = ap has_cleared w.notes ∙ w.uncleared;
        rising = subst NothingGoesBack (sym w.notes) (steps_go_on tells files count verifies P Q told w.taken old new w.under w.proper w.trail b2 w.uncleared);
        tips = w.tips b2;
      }
