-- A load is a run of the machine, on answers that the transport, the keeper and the clock allow.
use Rattle.std.specs.Prelude.{◌≡◌, ℕ, ℤ, List, [], ◌∷◌, ◌++◌, Option, Some, None, Result, Ok, Err, Vec}
use Rattle.std.specs.declared.alloc.Global.{Global}
use Rattle.url.specs.Parts.{Parts}
use Rattle.futures.specs.Runs.{Runs}
use Rattle.tough_keys.specs.Same.{Verifies}
use Rattle.tough_roles.specs.Root.{RootDoc}
use Rattle.tough_roles.specs.Signature.{SignedDoc}
use Rattle.tough_checks.specs.declared.checks.StepError.{StepError}
use Rattle.tough_net.specs.declared.error.TransportError.{TransportError}
use Rattle.tough_net.specs.declared.collect.Collect.{Collect}
use Rattle.tough_net.specs.Items.{Item}
use Rattle.tough_trust.specs.Failure.{Failure}
use Rattle.tough_trust.specs.Steps.{Keeping, ReadsRoot, TakesStep}
use Rattle.tough_trust.specs.View.{read_doc}
use Rattle.tough_update.specs.Stages.{LoadedDoc, CoreDoc, handed_out}
use Rattle.tough_update.specs.Questions.{Question}
use Rattle.tough_update.specs.Questions as ask
use Rattle.tough_update.specs.Answered.{AnswerDoc}
use Rattle.tough_update.specs.Answered as got
use Rattle.tough_update.specs.Machine.{question}
use Rattle.tough_update.specs.Promises.{Goes, ended}
use Rattle.tough_vault.specs.Act.{Act}
use Rattle.tough_load.specs.Fetching.{Fetches, Comes, answer_of}

-- what a load holds besides its transport: the keeper, with the receipts of its steps, and the clock
pub record Held (K R C : Type 0) : Type 0 where
  pub keeping : Keeping K R
  pub clock : C

module _ {T S K R C : Type 0} (refuses : T → Parts → TransportError → Type 0) (serves : T → Parts → Runs Item) (keeps : Verifies → K → Act → Result R StepError → K → Type 0) (reads : ReadsRoot K) (may_give : C → ℤ → Type 0) (yields : S → Runs Item)
    (verifies : Verifies) (base : Parts) (t : T) where
  -- An answer that what was asked allows, and what it leaves of keeper and clock. Of the clock after a moment nothing is known.
  abbrev pub Allows : Question → Held K R C → AnswerDoc → Held K R C → Type 0
  Allows ask.Moment k a next = (now : ℤ) × (a ≡ got.Moment now) × may_give k.clock now × (next.keeping ≡ k.keeping)
  Allows (ask.Stored first) k a next = (r : Result (Option (SignedDoc RootDoc)) StepError) × (a ≡ got.Stored (read_doc r)) × reads verifies k.keeping.keeper first r next.keeping.keeper
      × (next.keeping.receipts ≡ k.keeping.receipts) × (next.clock ≡ k.clock)
  Allows (ask.Fetch r) k a next = Fetches refuses serves t base r a × (next ≡ k)
  Allows (ask.Step act) k a next = (s : Result Unit Failure) × (a ≡ got.Step s) × TakesStep keeps verifies act k.keeping s next.keeping × (next.clock ≡ k.clock)
  Allows ask.Ready k a next = ⊥

  -- the machine, the keeper and the clock after these answers, each allowed for what was asked; want of memory may end the machine in
  -- place of an answer
  abbrev pub Leads : CoreDoc → Held K R C → List AnswerDoc → CoreDoc → Held K R C → Type 0
  Leads c k [] c' k' = (c' ≡ c) × (k' ≡ k)
  Leads c k (a ∷ rest) c' k' = (mid : CoreDoc) × (next : Held K R C) × Allows (question c) k a next × Goes verifies c a mid × Leads mid next rest c' k'

  -- a load at this machine, keeper and clock, with this fetch running, may come to those
  abbrev pub Reaches : Option (Collect S) → CoreDoc → Held K R C → CoreDoc → Held K R C → Type 0
  Reaches None c k c' k' = (answers : List AnswerDoc) × Leads c k answers c' k'
  Reaches (Some f) c k c' k' = (outcome : Result (Vec ℕ Global) TransportError) × (mid : CoreDoc) × (answers : List AnswerDoc)
      × Comes yields f outcome × Goes verifies c (answer_of outcome) mid × Leads mid k answers c' k'

  -- a load may end with this outcome, and then leave this machine, keeper and clock
  abbrev pub Ends : Option (Collect S) → CoreDoc → Held K R C → Result LoadedDoc Failure → CoreDoc → Held K R C → Type 0
  Ends f c k outcome left kept = (last : CoreDoc) × Reaches f c k last kept × (ended last.stage ≡ Some outcome)
      × (left ≡ handed_out last)

  -- the outcomes that a load may come to
  abbrev pub Gives : Option (Collect S) → CoreDoc → Held K R C → Result LoadedDoc Failure → Type 0
  Gives f c k outcome = (left : CoreDoc) × (kept : Held K R C) × Ends f c k outcome left kept

-- the receipt of a step that succeeded, after those before it
abbrev pub with_receipt : {R : Type 0} → Result R StepError → List R → List R
with_receipt (Ok r) before = before ++ r ∷ []
with_receipt (Err e) before = before

-- what a keeper did: a step with its answer, or a look at the stored root
pub data Deed (R : Type 0) : Type 0 where
  Stepped : Act → Result R StepError → Deed R
  Looked : ℕ → Result (Option (SignedDoc RootDoc)) StepError → Deed R

-- the receipts of the steps that succeeded, in their order
abbrev pub received : {R : Type 0} → List (Deed R) → List R
received [] = []
received (Stepped act r ∷ ps) = with_receipt r [] ++ received ps
received (Looked first r ∷ ps) = received ps

module _ {K R : Type 0} (keeps : Verifies → K → Act → Result R StepError → K → Type 0) (reads : ReadsRoot K) (verifies : Verifies) where
  -- steps and looks, one after another, led from one state to the other, and each step that succeeded left its receipt
  abbrev pub Trail : Keeping K R → List (Deed R) → Keeping K R → Type 0
  Trail k [] new = new ≡ k
  Trail k (Stepped act r ∷ ps) new = (next : Keeping K R) × keeps verifies k.keeper act r next.keeper × (next.receipts ≡ with_receipt r k.receipts) × Trail next ps new
  Trail k (Looked first r ∷ ps) new = (next : Keeping K R) × reads verifies k.keeper first r next.keeper × (next.receipts ≡ k.receipts) × Trail next ps new

  -- some did
  abbrev pub Walks : Keeping K R → Keeping K R → Type 0
  Walks k new = (ps : List (Deed R)) × Trail k ps new
