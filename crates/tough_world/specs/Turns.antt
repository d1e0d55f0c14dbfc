-- Turns of a world: each gives an answer to one update, or puts its step on the one vault.
use Rattle.std.specs.Prelude.{◌≡◌, ℕ, List, [], ◌∷◌, Option, None, Some, Result, Ok, Err, Bool, true, false, slice_get, slice_set, OnOk, ⊤}
use Rattle.tough_keys.specs.Same.{Verifies}
use Rattle.tough_vault.specs.declared.entry.Receipt.{Receipt}
use Rattle.tough_checks.specs.declared.checks.StepError.{StepError}
use Rattle.tough_vault.specs.Stored.{Files}
use Rattle.tough_vault.specs.Step.{Parts}
use Rattle.tough_vault.specs.Act.{Act, Acts}
use Rattle.tough_roles.specs.Root.{RootDoc}
use Rattle.tough_roles.specs.Signature.{SignedDoc}
use Rattle.tough_vault.specs.Looking.{Looks}
use Rattle.tough_trust.specs.View.{read_doc}
use Rattle.tough_trust.specs.Failure.{Failure}
use Rattle.tough_trust.specs.Steps.{taken}
use Rattle.tough_update.specs.declared.machine.Core.{Core}
use Rattle.tough_update.specs.declared.ask.Answer.{Answer as Reply}
use Rattle.tough_update.specs.Questions.{Question}
use Rattle.tough_update.specs.Questions as ask
use Rattle.tough_update.specs.Answered.{AnswerDoc}
use Rattle.tough_update.specs.Answered as got
use Rattle.tough_update.specs.Asked.{IsLastFile, file_asked}
use Rattle.tough_update.specs.Counts.{with_fetch, with_tree}
use Rattle.tough_update.specs.Machine.{question}
use Rattle.tough_update.specs.Promises.{Goes, fits_question}
use Rattle.tough_update.specs.View.{core_doc, counts_of, last_file_of, answer_doc}
use Rattle.tough_trust.specs.Vaults.{ReadsBack}
use Rattle.tough_world.specs.declared.turns.Answer.{Answer}
use Rattle.tough_world.specs.declared.turns.Answer.TheVariants as by
use Rattle.tough_world.specs.declared.turns.Turn.{Turn}
use Rattle.tough_world.specs.declared.turns.TurnError.{TurnError}
use Rattle.tough_world.specs.declared.turns.TurnError.TheVariants.{NotAsked, Misfit}

-- the updates, and the parts of the vault that they share
pub record WorldDoc (S : Type 0) : Type 0 where
  pub cores : List Core
  pub parts : Parts S

-- the answer is of the kind that is asked for
abbrev pub is_of_kind : Question → Answer → Bool
is_of_kind ask.Moment (by.Moment now) = true
is_of_kind (ask.Fetch r) (by.Bytes v) = true
is_of_kind (ask.Fetch r) (by.NotStarted f) = true
is_of_kind (ask.Fetch r) (by.Cut f) = true
is_of_kind (ask.Step act) by.Step = true
is_of_kind (ask.Stored first) by.Step = true
is_of_kind _ _ = false

-- the bytes fit what is asked for
abbrev pub is_fitting : Question → Answer → Bool
is_fitting q (by.Bytes v) = fits_question q v.items
is_fitting q _ = true

-- what `Core::answer` makes of an answer
pub record IsAnswered (verifies : Verifies) (old : Core) (a : AnswerDoc) (new : Core) : Type 0 where
  pub goes : Goes verifies (core_doc old) a (core_doc new)
  pub counted : counts_of new ≡ with_tree (core_doc new).stage (with_fetch (core_doc old).stage a (counts_of old))
  pub file : IsLastFile (file_asked (core_doc old).stage) (last_file_of old) (last_file_of new)

module _ {S : Type 0} (tells : Bool) (files : S → Files) (count : S → ℕ) (verifies : Verifies) where
  -- the vault took the step, with this answer, its receipt apart; what was stored is read as what was given
  abbrev pub Steps : Act → Parts S → Result Unit Failure → Parts S → Type 0
  Steps act old a new = (r : Result Receipt StepError) × (a ≡ taken r) × Acts tells files count verifies act old new r × OnOk r (ReadsBack act)

  -- what an update that asked this is answered, and what that leaves of the vault
  abbrev pub Replies : Question → Answer → Parts S → AnswerDoc → Parts S → Type 0
  Replies ask.Moment (by.Moment now) old a new = (a ≡ got.Moment now.nanosecond) × (new ≡ old)
  Replies (ask.Fetch r) (by.Bytes v) old a new = (a ≡ got.Bytes v.items) × (new ≡ old)
  Replies (ask.Fetch r) (by.NotStarted f) old a new = (a ≡ got.NotStarted f) × (new ≡ old)
  Replies (ask.Fetch r) (by.Cut f) old a new = (a ≡ got.Cut f) × (new ≡ old)
  Replies (ask.Step act) by.Step old a new = (x : Result Unit Failure) × (a ≡ got.Step x) × Steps act old x new
  Replies (ask.Stored first) by.Step old a new = (x : Result (Option (SignedDoc RootDoc)) StepError) × (a ≡ got.Stored (read_doc x)) × Looks tells files count verifies first old new x
  Replies _ _ old a new = ⊥

  -- the same, or why there is no answer
  abbrev pub RepliesOr : Question → Answer → Parts S → Parts S → Result Reply TurnError → Type 0
  RepliesOr q answer old new (Ok r) = Replies q answer old (answer_doc r) new × (is_fitting q answer ≡ true)
  RepliesOr q answer old new (Err NotAsked) = is_of_kind q answer ≡ false
  RepliesOr q answer old new (Err Misfit) = (is_of_kind q answer ≡ true) × (is_fitting q answer ≡ false)

  -- the turn was taken: that update alone went on, by the answer or by what the vault answered to its step
  pub record TurnsTo (load : ℕ) (answer : Answer) (old new : WorldDoc S) : Type 0 where
    pub core : Core
    pub there : slice_get old.cores load ≡ Some core
    pub fits : is_fitting (question (core_doc core)) answer ≡ true
    pub reply : AnswerDoc
    pub replies : Replies (question (core_doc core)) answer old.parts reply new.parts
    pub next : Core
    pub answered : IsAnswered verifies core reply next
    pub cores : new.cores ≡ slice_set old.cores load next

  -- there is no such update, or it asks for something else
  abbrev pub IsUnasked : Option Core → Answer → Type 0
  IsUnasked None answer = ⊤
  IsUnasked (Some c) answer = is_of_kind (question (core_doc c)) answer ≡ false

  -- it asks for a file, and the bytes don't fit
  abbrev pub IsMisfit : Option Core → Answer → Type 0
  IsMisfit None answer = ⊥
  IsMisfit (Some c) answer = (is_of_kind (question (core_doc c)) answer ≡ true) × (is_fitting (question (core_doc c)) answer ≡ false)

  -- a turn, taken or refused; a refused one changes nothing
  abbrev pub Turned : ℕ → Answer → WorldDoc S → WorldDoc S → Result ⊤ TurnError → Type 0
  Turned load answer old new (Ok u) = TurnsTo load answer old new
  Turned load answer old new (Err NotAsked) = (new ≡ old) × IsUnasked (slice_get old.cores load) answer
  Turned load answer old new (Err Misfit) = (new ≡ old) × IsMisfit (slice_get old.cores load) answer

  -- all turns of a schedule, one after another
  abbrev pub Runs : WorldDoc S → List Turn → WorldDoc S → Type 0
  Runs old [] new = new ≡ old
  Runs old (t ∷ ts) new = (mid : WorldDoc S) × ((r : Result ⊤ TurnError) × Turned t.load t.answer old mid r) × Runs mid ts new
