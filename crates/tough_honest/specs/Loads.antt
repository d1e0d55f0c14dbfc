-- A load over files that are served, a vault over a store that held nothing, and a clock.
use Rattle.std.specs.Prelude.{◌≡◌, ℕ, ℤ, List, Bool, Result, Ok}
use Rattle.std.specs.Borrow.{MutBor}
use Rattle.url.specs.Parts.{Parts as Urls}
use Rattle.futures.specs.Runs.{Runs}
use Rattle.tough_keys.specs.Same.{Verifies}
use Rattle.tough_net.specs.declared.error.TransportError.{TransportError}
use Rattle.tough_net.specs.Items.{Item}
use Rattle.tough_vault.specs.Stored.{Files as Stored}
use Rattle.tough_vault.specs.declared.vault.Vault.{Vault}
use Rattle.tough_trust.specs.Failure.{Failure}
use Rattle.tough_trust.specs.Requests.{RequestDoc}
use Rattle.tough_update.specs.Loadable.{Files, AllHonest, Loadable}
use Rattle.tough_update.specs.Machine.{question}
use Rattle.tough_update.specs.Questions.{Fetch}
use Rattle.tough_update.specs.Runs.{run}
use Rattle.tough_update.specs.Answered.{AnswerDoc}
use Rattle.tough_update.specs.Stages.{LoadedDoc, CoreDoc}
use Rattle.tough_honest.specs.Serves.{ServesName}

-- a lent vault over a store of these words
abbrev pub Lent : {S : Type 0} → Bool → (S → Stored) → (S → ℕ) → (S → ℕ) → (S → ℕ) → Type 0
Lent {S = S} tells files count removals changes = MutBor (Vault S (record { tells = tells; files = files; count = count; removals = removals; changes = changes }))

-- each file that an update which begins so asks for, where all that it was answered is honest, is served under its name, or there is none
abbrev pub ServesAll : {T : Type 0} → (T → Urls → TransportError → Type 0) → (T → Urls → Runs Item) → Verifies → Urls → T → CoreDoc → Files → ℤ → Type 0
ServesAll refuses serves verifies base t c files now =
    (before : List AnswerDoc) (r : RequestDoc) → AllHonest verifies files now c before → question (run verifies c before) ≡ Fetch r → ServesName refuses serves t base r.name (files r.name)

-- an update that begins so at this moment has all that it takes to end with these documents: they are loadable, and their files are served
pub record LoadsAt {T : Type 0} (refuses : T → Urls → TransportError → Type 0) (serves : T → Urls → Runs Item) (verifies : Verifies) (base : Urls) (t : T) (c : CoreDoc) (files : Files) (now : ℤ) (l : LoadedDoc) : Type 0 where
  pub start : l.known.start ≡ now
  pub loadable : Loadable verifies files c.setting l
  pub served : ServesAll refuses serves verifies base t c files now

-- the load began at a moment that the clock may show, of which this holds
abbrev pub BeganAt : {C : Type 0} → (C → ℤ → Type 0) → C → (ℤ → Type 0) → Type 0
BeganAt may_give clock holds = (now : ℤ) × may_give clock now × holds now
