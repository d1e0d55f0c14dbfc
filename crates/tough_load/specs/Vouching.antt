-- What a load that succeeds vouches for (TUF specification 1.0, section 5): answers that were allowed led its update to documents that are
-- trusted, and its keeper, with its receipts, and its clock to what they are now.
use Rattle.std.specs.Prelude.{◌≡◌, ◌++◌, ◌∷◌, [], ℤ, List, Result, Ok}
use Rattle.url.specs.Parts.{Parts}
use Rattle.futures.specs.Runs.{Runs}
use Rattle.tough_keys.specs.Same.{Verifies}
use Rattle.tough_checks.specs.declared.checks.StepError.{StepError}
use Rattle.tough_net.specs.declared.error.TransportError.{TransportError}
use Rattle.tough_net.specs.Items.{Item}
use Rattle.tough_update.specs.Stages.{LoadedDoc, CoreDoc, Done, handed_out}
use Rattle.tough_update.specs.Answered.{AnswerDoc}
use Rattle.tough_update.specs.Runs.{Loaded}
use Rattle.tough_vault.specs.Act.{Act}
use Rattle.tough_trust.specs.Steps.{Keeping, ReadsRoot}
use Rattle.tough_load.specs.Loading.{Held, Leads, Walks}

module _ {T S K R C : Type 0} (refuses : T → Parts → TransportError → Type 0) (serves : T → Parts → Runs Item) (keeps : Verifies → K → Act → Result R StepError → K → Type 0) (reads : ReadsRoot K) (may_give : C → ℤ → Type 0) (yields : S → Runs Item)
    (verifies : Verifies) (base : Parts) (t : T) (c : CoreDoc) (k : Held K R C) where
  -- with the machine, the keeper and the clock that the load leaves
  pub record Vouches (left : CoreDoc) (kept : Held K R C) (l : LoadedDoc) : Type 0 where
    pub answers : List AnswerDoc
    -- the transport, the keeper or the clock allowed each for what was asked, and so they led to the end with these documents
    pub allowed : Leads refuses serves keeps reads may_give yields verifies base t c k answers (record { setting = c.setting; stage = Done (Ok l) }) kept
    -- which were handed out
    pub taken : left ≡ handed_out c
    -- on these answers the update ends with documents that are trusted from the root that was handed in, and unexpired where that counts
    pub loaded : Loaded verifies c answers l

-- Of the steps that led a keeper from one state to the other this one succeeded, and its receipt stands where it was put.
pub record HasStepped {K R : Type 0} (keeps : Verifies → K → Act → Result R StepError → K → Type 0) (reads : ReadsRoot K) (verifies : Verifies) (k : Keeping K R) (act : Act) (kept : Keeping K R) : Type 0 where
  pub before : Keeping K R
  pub after : Keeping K R
  pub receipt : R
  pub earlier : Walks keeps reads verifies k before
  pub stepped : keeps verifies before.keeper act (Ok receipt) after.keeper
  pub put : after.receipts ≡ before.receipts ++ receipt ∷ []
  pub later : Walks keeps reads verifies after kept
