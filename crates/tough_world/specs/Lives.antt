-- Lives: one world after another on one store, each with a new vault.
use Rattle.std.specs.Prelude.{◌≡◌, ℕ, List, [], ◌∷◌, ◌++◌, map, Option, Result, Ok, Err, Bool, false, Vec, ⊤, ◌⊎◌}
use Rattle.std.specs.declared.alloc.Global.{Global}
use Rattle.tough_keys.specs.Same.{Verifies}
use Rattle.tough_roles.specs.Policy.{Policy}
use Rattle.tough_roles.specs.Root.{RootDoc}
use Rattle.tough_roles.specs.Signature.{SignedDoc}
use Rattle.tough_checks.specs.Files.{root_file}
use Rattle.tough_vault.specs.declared.entry.Entry.{Entry}
use Rattle.tough_vault.specs.Journal.{Note, no_tip, notes_of, has_cleared, NothingGoesBack}
use Rattle.tough_vault.specs.Step.{Parts}
use Rattle.tough_vault.specs.Stored.{Files}
use Rattle.tough_update.specs.declared.machine.Core.{Core}
use Rattle.tough_update.specs.Machine.{question}
use Rattle.tough_update.specs.Questions.{Question}
use Rattle.tough_update.specs.Questions as ask
use Rattle.tough_update.specs.Runs.{IsFresh}
use Rattle.tough_update.specs.Trusted.{Chain, IsHandedIn}
use Rattle.tough_update.specs.View.{core_doc}
use Rattle.tough_world.specs.declared.lives.Life.{Life}
use Rattle.tough_world.specs.declared.turns.Answer.{Answer}
use Rattle.tough_world.specs.declared.turns.Turn.{Turn}
use Rattle.tough_world.specs.declared.turns.TurnError.{TurnError}
use Rattle.tough_world.specs.Policies.{RootUnder, StageUnder}
use Rattle.tough_world.specs.Steps.{Taken, all_notes, AllProper, AllRead, Trail, AddsNothing}
use Rattle.tough_world.specs.Turns.{WorldDoc, Turned, Runs}

-- the entries of all journals, in order
abbrev pub joined : List (List Note) → List Note
joined [] = []
joined (j ∷ js) = j ++ joined js

-- the journals of the program
abbrev pub journals_of : List (Vec Entry Global) → List (List Note)
journals_of js = map (λ j. notes_of j.items) js

-- nothing was answered yet
abbrev pub AreFresh : List Core → Type 0
AreFresh [] = ⊤
AreFresh (c ∷ cs) = IsFresh (core_doc c) × AreFresh cs

-- each life begins with such updates
abbrev pub BeginFresh : List Life → Type 0
BeginFresh [] = ⊤
BeginFresh (l ∷ ls) = AreFresh l.cores.items × BeginFresh ls

-- an update of these was begun with these bytes of a root, and so was one of these lives
abbrev pub IsGivenTo : List ℕ → List Core → Type 0
IsGivenTo bytes [] = ⊥
IsGivenTo bytes (c ∷ cs) = (bytes ≡ (core_doc c).setting.trusted) ⊎ IsGivenTo bytes cs

abbrev pub IsGivenIn : List ℕ → List Life → Type 0
IsGivenIn bytes [] = ⊥
IsGivenIn bytes (l ∷ ls) = IsGivenTo bytes l.cores.items ⊎ IsGivenIn bytes ls

-- A chain of roots that ends in this one, and begins with one that was handed in to an update of these lives.
abbrev pub IsChained : Verifies → List Life → SignedDoc RootDoc → Type 0
IsChained verifies lives = Chain verifies (λ b. (bytes : List ℕ) × (IsGivenIn bytes lives × IsHandedIn verifies bytes b))

-- a life before its first turn: its updates, and a new vault over the store
abbrev pub begun : {S : Type 0} → Life → S → WorldDoc S
begun l store = record { cores = l.cores.items; parts = record { store = store; notes = []; tip = no_tip } }

module _ (P Q : Option Policy) where
  -- so do the roots of all that these updates know
  abbrev pub AllUnder : List Core → Type 0
  AllUnder [] = ⊤
  AllUnder (c ∷ cs) = StageUnder P Q (core_doc c).stage × AllUnder cs

module _ {S : Type 0} (tells : Bool) (files : S → Files) (count : S → ℕ) (verifies : Verifies) where
  -- one life: a new vault over the store, and all turns of the schedule
  abbrev pub Lived : S → Life → List Note → S → Type 0
  Lived old l j new = (end : WorldDoc S) × Runs tells files count verifies (begun l old) l.schedule.items end × (end.parts.notes ≡ j) × (end.parts.store ≡ new)

  -- Each life begins with a new vault over what the last one left, and takes all turns of its schedule.
  abbrev pub Lives : S → List Life → List (List Note) → S → Type 0
  Lives old [] [] new = new ≡ old
  Lives old (l ∷ ls) (j ∷ js) new = (end : WorldDoc S) × Runs tells files count verifies (begun l old) l.schedule.items end × (end.parts.notes ≡ j) × Lives end.parts.store ls js new
  Lives old _ _ new = ⊥

  -- the step that an update asked for, with the entries that it added
  abbrev pub StepsOf : Question → Parts S → Parts S → List Taken → Type 0
  StepsOf (ask.Step act) old new xs = (notes : List Note) × (new.notes ≡ old.notes ++ notes) × (xs ≡ record { act = act; notes = notes } ∷ [])
  StepsOf ask.Moment old new xs = xs ≡ []
  StepsOf (ask.Stored first) old new xs = xs ≡ []
  StepsOf (ask.Fetch r) old new xs = xs ≡ []
  StepsOf ask.Ready old new xs = xs ≡ []

  -- these are the steps of the turn, of all turns, and of all lives, in order
  abbrev pub TurnSteps : (load : ℕ) (answer : Answer) (old new : WorldDoc S) (r : Result ⊤ TurnError) → Turned tells files count verifies load answer old new r → List Taken → Type 0
  TurnSteps load answer old new (Ok u) turned xs = StepsOf (question (core_doc turned.core)) old.parts new.parts xs
  TurnSteps load answer old new (Err e) turned xs = xs ≡ []

  abbrev pub RunSteps : (ts : List Turn) (old new : WorldDoc S) → Runs tells files count verifies old ts new → List Taken → Type 0
  RunSteps [] old new run xs = xs ≡ []
  RunSteps (t ∷ ts) old new run xs =
      (first : List Taken) × ((rest : List Taken) × TurnSteps t.load t.answer old run.0 run.1.0 run.1.1 first × RunSteps ts run.0 new run.2 rest × (xs ≡ first ++ rest))

  abbrev pub LivesSteps : (ls : List Life) (js : List (List Note)) (old new : S) → Lives old ls js new → List Taken → Type 0
  LivesSteps [] [] old new lived xs = xs ≡ []
  LivesSteps (l ∷ ls) (j ∷ js) old new lived xs =
      (first : List Taken) × ((rest : List Taken) × RunSteps l.schedule.items (begun l old) lived.0 lived.1 first × LivesSteps ls js lived.0.parts.store new lived.3 rest × (xs ≡ first ++ rest))
  LivesSteps [] (j ∷ js) old new lived xs = ⊤
  LivesSteps (l ∷ ls) [] old new lived xs = ⊤

  -- All steps of the lives, in order: a trail on the store that adds the entries of all journals.
  pub record TakenIn (ls : List Life) (js : List (List Note)) (old new : S) (lived : Lives old ls js new) : Type 0 where
    pub taken : List Taken
    pub steps : LivesSteps ls js old new lived taken
    pub trail : Trail tells files count verifies old taken new
    pub proper : AllProper taken
    pub read : AllRead taken
    pub notes : joined js ≡ all_notes taken

  module _ (holds : WorldDoc S → Type 0) where
    -- it holds before each turn, and after the last
    abbrev pub AlongRun : (ts : List Turn) (old new : WorldDoc S) → Runs tells files count verifies old ts new → Type 0
    AlongRun [] old new run = holds old
    AlongRun (t ∷ ts) old new run = holds old × AlongRun ts run.0 new run.2

    -- at each moment of each life
    abbrev pub Along : (ls : List Life) (js : List (List Note)) (old new : S) → Lives old ls js new → Type 0
    Along [] [] old new lived = ⊤
    Along (l ∷ ls) (j ∷ js) old new lived = AlongRun l.schedule.items (begun l old) lived.0 lived.1 × Along ls js lived.0.parts.store new lived.3
    Along [] (j ∷ js) old new lived = ⊤
    Along (l ∷ ls) [] old new lived = ⊤

  -- All roots that were handed in, accepted or stored give timestamp and snapshot one policy.
  abbrev pub OnePolicy : Option Policy → Option Policy → (ls : List Life) (js : List (List Note)) (old new : S) → Lives old ls js new → Type 0
  OnePolicy P Q = Along (λ w. AllUnder P Q w.cores × RootUnder verifies P Q (files w.parts.store root_file))

  -- At each moment the checks against a vault's tip refuse nothing that the checks against what its store holds let through.
  abbrev pub TipsAddNothing : Option Policy → Option Policy → (ls : List Life) (js : List (List Note)) (old new : S) → Lives old ls js new → Type 0
  TipsAddNothing P Q = Along (λ w. AddsNothing tells files count verifies P Q w.parts)

  -- Nothing was cleared, of any two accepted documents the later isn't below the earlier, noted times don't fall, and the tips add nothing.
  pub record GoesOn (P Q : Option Policy) (ls : List Life) (js : List (List Note)) (old new : S) (lived : Lives old ls js new) : Type 0 where
    pub uncleared : has_cleared (joined js) ≡ false
    pub rising : NothingGoesBack (joined js)
    pub tips : TipsAddNothing P Q ls js old new lived
