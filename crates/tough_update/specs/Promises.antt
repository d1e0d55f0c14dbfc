-- What `Core::answer` and `Core::fits` promise.
use Rattle.std.specs.Prelude.{◌≡◌, ◌⊎◌, ℕ, List, Bool, false, Option, Some, None, Result, Err}
use Rattle.tough_keys.specs.Same.{Verifies}
use Rattle.tough_trust.specs.Failure.{Failure, Memory}
use Rattle.tough_trust.specs.Requests.{fits_request}
use Rattle.tough_update.specs.Stages.{LoadedDoc, StageDoc, CoreDoc, Done}
use Rattle.tough_update.specs.Questions.{Question, Fetch}
use Rattle.tough_update.specs.Answered.{AnswerDoc}
use Rattle.tough_update.specs.Machine.{settled, answered, question}

-- the stage is what the answer makes, or memory was wanting
abbrev pub Settles : Result StageDoc Failure → StageDoc → Type 0
Settles r stage = (stage ≡ settled r) ⊎ (stage ≡ Done (Err Memory))

-- the machine went as the answer says, or memory was wanting
abbrev pub Goes : Verifies → CoreDoc → AnswerDoc → CoreDoc → Type 0
Goes verifies old a new = (new ≡ answered verifies old a) ⊎ (new ≡ record { setting = old.setting; stage = Done (Err Memory) })

abbrev pub fits_question : Question → List ℕ → Bool
fits_question (Fetch r) bytes = fits_request r bytes
fits_question _ bytes = false

-- a file is asked for, and the bytes fit
abbrev pub fits : CoreDoc → List ℕ → Bool
fits c = fits_question (question c)

-- how the update ended, once it has
abbrev pub ended : StageDoc → Option (Result LoadedDoc Failure)
ended (Done r) = Some r
ended _ = None
