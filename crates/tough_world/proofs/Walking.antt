-- Lives as steps on one store, whatever policies their roots ask.
use Rattle.std.proofs.Common.{◌≡◌, ℕ, List, [], ◌∷◌, ◌++◌, Result, Ok, Err, Bool, true, false, refl, sym, ap, ◌∙◌, subst, inl, inr, append_assoc}
use Rattle.std.proofs.lemmas.List.{append-nil}
use Rattle.std.specs.Prelude.{⊤}
use Rattle.tough_keys.specs.Same.{Verifies}
use Rattle.tough_roles.specs.Root.{RootDoc}
use Rattle.tough_roles.specs.Signature.{SignedDoc}
use Rattle.tough_checks.specs.declared.checks.StepError.{StepError}
use Rattle.tough_checks.specs.declared.checks.StepError.TheVariants.{Refused, DatastoreOpen, DatastoreCreate, DatastoreRemove, Memory}
use Rattle.tough_vault.specs.declared.entry.Receipt.{Receipt}
use Rattle.tough_vault.specs.declared.store.StoreError.{StoreError}
use Rattle.tough_vault.specs.Act.{Act, NoteTime, PutRoot, ClearRotated, AdvanceTimestamp, AdvanceSnapshot, PutDocument, Acts}
use Rattle.tough_vault.specs.Journal.{Note, Root, Cleared, Broken, has_broken, RootsRise}
use Rattle.tough_vault.specs.Puts.{Puts}
use Rattle.tough_vault.specs.Step.{Step, Parts, EndsRemoval, Clears, Takes as StepTakes}
use Rattle.tough_vault.specs.Steps.{time_step, root_step, timestamp_step, snapshot_step, document_step}
use Rattle.tough_vault.specs.Stored.{Files}
use Rattle.tough_update.specs.declared.machine.Core.{Core}
use Rattle.tough_update.specs.Answered.{AnswerDoc}
use Rattle.tough_update.specs.Machine.{act_at, question_at, question}
use Rattle.tough_update.specs.Questions.{Question}
use Rattle.tough_update.specs.Questions as ask
use Rattle.tough_update.specs.Stages.{PendingDoc, StageDoc}
use Rattle.tough_update.specs.Stages as at
use Rattle.tough_update.specs.View.{core_doc}
use Rattle.tough_world.specs.declared.lives.Life.{Life}
use Rattle.tough_world.specs.declared.turns.Answer.{Answer}
use Rattle.tough_world.specs.declared.turns.Answer.TheVariants as by
use Rattle.tough_world.specs.declared.turns.Turn.{Turn}
use Rattle.tough_world.specs.declared.turns.TurnError.{TurnError}
use Rattle.tough_world.specs.declared.turns.TurnError.TheVariants.{NotAsked, Misfit}
use Rattle.tough_world.specs.Lives.{joined, BeginFresh, begun, Lives, StepsOf, TurnSteps, RunSteps, TakenIn}
use Rattle.tough_world.specs.Steps.{IsProper, IsRead, Taken, all_notes, AllProper, AllRead, Trail}
use Rattle.tough_world.specs.Turns.{WorldDoc, Replies, Turned, Runs}
use Rattle.tough_world.proofs.Living.{AllSure, sure-get, sure-set, all-fresh, all-read, read-on}
use Rattle.tough_world.proofs.Roots.{roots_rise}
use Rattle.tough_world.proofs.Sections.{notes-both, proper-both, read-both, trail-both}
use Rattle.tough_world.proofs.Standing.{WasRead, Stands, targets_free, goes-sure}
use Rattle.tough_world.proofs.Telling.{replies-tell}

-- ---- the steps that are asked for

module _ (G : SignedDoc RootDoc → Type 0) where
  -- a root that is to be stored is such a one
  abbrev pub GivesGood : Act → Type 0
  GivesGood (PutRoot root) = G root
  GivesGood (NoteTime t) = ⊤
  GivesGood ClearRotated = ⊤
  GivesGood (AdvanceTimestamp root t start enforced) = ⊤
  GivesGood (AdvanceSnapshot root listed s start enforced) = ⊤
  GivesGood (PutDocument name text) = ⊤

  pub record Sane (act : Act) : Type 0 where
    pub proper : IsProper act
    pub read : IsRead act
    pub good : GivesGood act

  pending-sane : ((root : SignedDoc RootDoc) → G root → WasRead root) → (enforced : Bool) (p : PendingDoc) → Stands G (at.Step p) → Sane (act_at enforced p)
  pending-sane was enforced (at.NoteTime now) t = record { proper = tt; read = tt; good = tt }
  pending-sane was enforced (at.PutRoot w) t = record { proper = tt; read = was w.last t; good = t }
  pending-sane was enforced (at.PutLast w) t = record { proper = tt; read = was w.last t; good = t }
  pending-sane was enforced (at.PutTimestamp b x) t = record { proper = t; read = tt; good = tt }
  pending-sane was enforced (at.PutSnapshot k listed) t = record { proper = t; read = tt; good = tt }
  pending-sane was enforced (at.PutTargets k d) t = record { proper = targets_free; read = tt; good = tt }
  pending-sane was enforced (at.PutDelegated k roles name d) t = record { proper = t; read = tt; good = tt }

  pub asked-sane : ((root : SignedDoc RootDoc) → G root → WasRead root) → (enforced : Bool) (st : StageDoc) (act : Act) → question_at enforced st ≡ ask.Step act → Stands G st → Sane act
  asked-sane was enforced (at.Step p) act e t = subst Sane (cc (e)) (pending-sane was enforced p t)
  asked-sane was enforced at.Moment act e t = absurd (cc (e))
  asked-sane was enforced (at.ReadRoot w) act e t = absurd (cc (e))
  asked-sane was enforced (at.Fetch w r) act e t = absurd (cc (e))
  asked-sane was enforced (at.Done r) act e t = absurd (cc (e))
  asked-sane was enforced at.Taken act e t = absurd (cc (e))

module _ {S : Type 0} (tells : Bool) (files : S → Files) (count : S → ℕ) (verifies : Verifies) where
  -- ---- what a step adds

  module _ (before after : Parts S) where
    pub record Grows : Type 0 where
      pub notes : List Note
      pub added : after.notes ≡ before.notes ++ notes

    by-none : after.notes ≡ before.notes → Grows
    by-none e = record { notes = []; added = e ∙ sym (append-nil before.notes) }

    by-one : (n : Note) → after.notes ≡ before.notes ++ n ∷ [] → Grows
    by-one n e = record { notes = n ∷ []; added = e }

    failed-grows : (step : Step) (e : StepError) → StepTakes tells files count step before after (Err e) → Grows
    failed-grows step (DatastoreCreate path) t = by-one Broken (t.broken tt).notes
    failed-grows step (Refused c) t = by-none (t.same (λ x. x)).0
    failed-grows step (DatastoreOpen path) t = by-none (t.same (λ x. x)).0
    failed-grows step (DatastoreRemove path) t = by-none (t.same (λ x. x)).0
    failed-grows step Memory t = by-none (t.same (λ x. x)).0

    takes-grows : (step : Step) (result : Result Receipt StepError) → StepTakes tells files count step before after result → Grows
    takes-grows step (Ok r) t = by-one (step.entry t.done.0) t.done.1.noted.notes
    takes-grows step (Err e) t = failed-grows step e t

    ends-grows : (note : Note) (first second : Result Unit StoreError) (mid : Parts S) (result : Result Receipt StepError) → mid.notes ≡ before.notes → EndsRemoval note first second mid after result → Grows
    ends-grows note (Ok u) (Ok v) mid (Ok r) same e = by-one note (e.0.notes ∙ ap (λ (xs : List Note). xs ++ note ∷ []) same)
    ends-grows note (Err fault) second mid (Err x) same e = by-one Broken (e.0.notes ∙ ap (λ (xs : List Note). xs ++ Broken ∷ []) same)
    ends-grows note (Ok u) (Err fault) mid (Err x) same e = by-one Broken (e.0.notes ∙ ap (λ (xs : List Note). xs ++ Broken ∷ []) same)
    ends-grows note (Ok u) (Ok v) mid (Err x) same e = absurd e
    ends-grows note (Err fault) second mid (Ok r) same e = absurd e
    ends-grows note (Ok u) (Err fault) mid (Ok r) same e = absurd e

    clears-grows : (result : Result Receipt StepError) → Clears tells files count before after result → Grows
    clears-grows result (inl same) = by-none (ap (λ (p : Parts S). p.notes) same.1)
    clears-grows result (inr t) = ends-grows Cleared t.first t.second before result refl t.ends

    puts-grows : (r : SignedDoc RootDoc) (result : Result Receipt StepError) → Puts tells files count verifies r before after result → Grows
    puts-grows r result (inl h) = takes-grows (root_step verifies before.tip r) result h.takes
    puts-grows r result (inr h) =
        ends-grows (Root r.role.head.version true) h.tried.first h.tried.second (record { store = h.between; notes = before.notes; tip = before.tip }) result refl h.tried.ends

    pub acts-grows : (act : Act) (result : Result Receipt StepError) → Acts tells files count verifies act before after result → Grows
    acts-grows (NoteTime t) result h = takes-grows (time_step before.tip t) result h
    acts-grows (PutRoot r) result h = puts-grows r result h
    acts-grows ClearRotated result h = clears-grows result h
    acts-grows (AdvanceTimestamp root t start enforced) result h = takes-grows (timestamp_step verifies root before.tip t start enforced) result h
    acts-grows (AdvanceSnapshot root listed s start enforced) result h = takes-grows (snapshot_step verifies root before.tip listed s start enforced) result h
    acts-grows (PutDocument name text) result h = takes-grows (document_step name text) result h

  -- ---- turns

  pub record Moves (old new : Parts S) (Steps : List Taken → Type 0) : Type 0 where
    pub taken : List Taken
    pub steps : Steps taken
    pub trail : Trail tells files count verifies old.store taken new.store
    pub proper : AllProper taken
    pub read : AllRead taken
    pub notes : new.notes ≡ old.notes ++ all_notes taken

  quiet : (old new : Parts S) (Steps : List Taken → Type 0) → Steps [] → Trail tells files count verifies old.store [] new.store → new.notes ≡ old.notes → Moves old new Steps
  quiet old new Steps steps trail same = record { taken = []; steps = steps; trail = trail; proper = tt; read = tt; notes = same ∙ sym (append-nil old.notes) }

  still : (old new : Parts S) (Steps : List Taken → Type 0) → Steps [] → new ≡ old → Moves old new Steps
  still old new Steps steps same = quiet old new Steps steps (λ t name. ap (λ (p : Parts S). files p.store name) same) (ap (λ (p : Parts S). p.notes) same)

  replies-moves : (q : Question) (answer : Answer) (old new : Parts S) (reply : AnswerDoc) → Replies tells files count verifies q answer old reply new → ((act : Act) → q ≡ ask.Step act → Sane WasRead act)
      → Moves old new (StepsOf tells files count verifies q old new)
  replies-moves ask.Moment (by.Moment now) old new reply h g = still old new (StepsOf tells files count verifies ask.Moment old new) refl h.1
  replies-moves (ask.Fetch r) (by.Bytes v) old new reply h g = still old new (StepsOf tells files count verifies (ask.Fetch r) old new) refl h.1
  replies-moves (ask.Fetch r) (by.NotStarted f) old new reply h g = still old new (StepsOf tells files count verifies (ask.Fetch r) old new) refl h.1
  replies-moves (ask.Fetch r) (by.Cut f) old new reply h g = still old new (StepsOf tells files count verifies (ask.Fetch r) old new) refl h.1
  replies-moves (ask.Stored first) by.Step old new reply h g =
      let look = h.2 in
      quiet old new (StepsOf tells files count verifies (ask.Stored first) old new) refl look.sees.same look.notes
  replies-moves (ask.Step act) by.Step old new reply h g =
      let sane = g act refl in
      let s = h.2 in
      let grown = acts-grows old new act s.0 s.2 in
      let step : Taken = record { act = act; notes = grown.notes } in
      record {
        taken = step ∷ [];
        steps = (grown.notes, grown.added, refl);
        trail = (new.store, record { before = old; after = new; result = s.0; acts = s.2; back = s.3; added = grown.added; from = λ t name. refl; to = refl }, λ t name. refl);
        proper = (sane.proper, tt);
        read = (sane.read, tt);
        notes = grown.added ∙ ap (λ (ms : List Note). old.notes ++ ms) (sym (append-nil grown.notes));
      }
  replies-moves _ _ old new reply h g = absurd (h)

  pub record Turns (old new : WorldDoc S) (Steps : List Taken → Type 0) : Type 0 where
    pub moves : Moves old.parts new.parts Steps
    pub stand : AllSure WasRead verifies new.cores

  stay-turns : (old new : WorldDoc S) (Steps : List Taken → Type 0) → Steps [] → new ≡ old → AllSure WasRead verifies old.cores → Turns old new Steps
  stay-turns old new Steps steps e s = record {
    moves = still old.parts new.parts Steps steps (ap (λ (w : WorldDoc S). w.parts) e);
    stand = subst (λ (w : WorldDoc S). AllSure WasRead verifies w.cores) (sym e) s;
  }

  pub turned-turns : (load : ℕ) (answer : Answer) (old new : WorldDoc S) (r : Result ⊤ TurnError) (t : Turned tells files count verifies load answer old new r) → AllSure WasRead verifies old.cores
      → Turns old new (TurnSteps tells files count verifies load answer old new r t)
  turned-turns load answer old new (Ok u) t stand =
      let c = core_doc t.core in
      let cs = sure-get WasRead verifies old.cores load t.core stand t.there in
      record {
        moves = replies-moves (question c) answer old.parts new.parts t.reply t.replies (λ act e. asked-sane WasRead (λ root h. h) c.setting.enforced c.stage act e cs.0);
        stand = subst (λ (xs : List Core). AllSure WasRead verifies xs) (sym t.cores) (sure-set WasRead verifies old.cores load t.next stand
            (goes-sure WasRead verifies (read-on verifies) c (core_doc t.next) t.reply cs (replies-tell tells files count verifies (question c) answer old.parts new.parts t.reply t.replies) t.answered.goes));
      }
  turned-turns load answer old new (Err NotAsked) t stand = stay-turns old new (λ xs. xs ≡ []) refl t.0 stand
  turned-turns load answer old new (Err Misfit) t stand = stay-turns old new (λ xs. xs ≡ []) refl t.0 stand

  -- ---- runs and lives

  pub run-moves : (ts : List Turn) (old new : WorldDoc S) (run : Runs tells files count verifies old ts new) → AllSure WasRead verifies old.cores → Moves old.parts new.parts (RunSteps tells files count verifies ts old new run)
  run-moves [] old new run stand = still old.parts new.parts (λ xs. xs ≡ []) refl (ap (λ (w : WorldDoc S). w.parts) run)
  run-moves (t ∷ ts) old new run stand =
      let turn = turned-turns t.load t.answer old run.0 run.1.0 run.1.1 stand in
      let one = turn.moves in
      let more = run-moves ts run.0 new run.2 turn.stand in
      record {
        taken = one.taken ++ more.taken;
        steps = (one.taken, (more.taken, one.steps, more.steps, refl));
        trail = trail-both tells files count verifies one.taken more.taken old.parts.store run.0.parts.store new.parts.store one.trail more.trail;
        proper = proper-both one.taken more.taken one.proper more.proper;
        read = read-both one.taken more.taken one.read more.read;
        notes = more.notes ∙ (ap (λ (ms : List Note). ms ++ all_notes more.taken) one.notes ∙ (append_assoc old.parts.notes (all_notes one.taken) (all_notes more.taken) ∙ ap (λ (ms : List Note). old.parts.notes ++ ms) (sym (notes-both one.taken more.taken))));
      }

  pub lives_take_steps : (ls : List Life) (js : List (List Note)) (old new : S) (lived : Lives tells files count verifies old ls js new) → BeginFresh ls → TakenIn tells files count verifies ls js old new lived
  lives_take_steps [] [] old new lived fresh = record { taken = []; steps = refl; trail = λ t name. ap (λ (s : S). files s name) lived; proper = tt; read = tt; notes = refl }
  lives_take_steps (l ∷ ls) (j ∷ js) old new lived fresh =
      let one = run-moves l.schedule.items (begun l old) lived.0 lived.1 (all-fresh WasRead verifies l.cores.items fresh.0 (all-read verifies l.cores.items)) in
      let more = lives_take_steps ls js lived.0.parts.store new lived.3 fresh.1 in
      record {
        taken = one.taken ++ more.taken;
        steps = (one.taken, (more.taken, one.steps, more.steps, refl));
        trail = trail-both tells files count verifies one.taken more.taken old lived.0.parts.store new one.trail more.trail;
        proper = proper-both one.taken more.taken one.proper more.proper;
        read = read-both one.taken more.taken one.read more.read;
        notes = ap (λ (ms : List Note). ms ++ joined js) (sym lived.2 ∙ one.notes) ∙ (ap (λ (ms : List Note). all_notes one.taken ++ ms) more.notes ∙ sym (notes-both one.taken more.taken));
      }
  lives_take_steps [] (j ∷ js) old new lived fresh = absurd lived
  lives_take_steps (l ∷ ls) [] old new lived fresh = absurd lived

  pub lives_raise_roots : tells ≡ true → (ls : List Life) (js : List (List Note)) (old new : S) (lived : Lives tells files count verifies old ls js new) → BeginFresh ls → has_broken (joined js) ≡ false → RootsRise (joined js)
  lives_raise_roots told ls js old new lived fresh b =
      let w = lives_take_steps ls js old new lived fresh in
      subst RootsRise (sym w.notes) (roots_rise tells files count verifies told w.taken old new w.proper w.read w.trail (ap has_broken (sym w.notes) ∙ b))
