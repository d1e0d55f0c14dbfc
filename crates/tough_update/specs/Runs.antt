-- Runs of an update, over any answers.
use Rattle.std.specs.Prelude.{◌≡◌, ◌≢◌, ◌⊎◌, ℕ, ℤ, ◌+◌, ◌-◌, ◌^◌, List, [], ◌∷◌, ◌++◌, Some, true, IsTrue, ⊤, Ok}
use Rattle.tough_net.specs.declared.error.TransportErrorKind.TheVariants as kind
use Rattle.tough_net.specs.Errors.{error_kind}
use Rattle.tough_keys.specs.Same.{Verifies}
use Rattle.tough_roles.specs.Signature.{SignedDoc}
use Rattle.tough_roles.specs.Root.{RootDoc}
use Rattle.tough_vault.specs.Act.{NoteTime, HasChecked}
use Rattle.tough_vault.specs.Looking.{VouchesRoot}
use Rattle.tough_trust.specs.declared.fault.Fault.TheVariants as fault
use Rattle.tough_trust.specs.Requests.{fits_request, root_request}
use Rattle.tough_update.specs.Stages.{LoadedDoc, CoreDoc, Moment}
use Rattle.tough_update.specs.Questions.{Question}
use Rattle.tough_update.specs.Questions as ask
use Rattle.tough_update.specs.Answered.{AnswerDoc}
use Rattle.tough_update.specs.Answered as got
use Rattle.tough_update.specs.Machine.{question, answered}
use Rattle.tough_update.specs.Trusted.{Trusted, Unexpired}

-- What an answer promises, by what was asked: a stored root is newer and verifies itself, bytes fit, and a step that succeeds has made its checks
-- on what it was given.
abbrev pub Keeps : Verifies → Question → AnswerDoc → Type 0
Keeps verifies (ask.Stored first) (got.Stored (Ok r)) = VouchesRoot verifies first r
Keeps verifies (ask.Fetch r) (got.Bytes bytes) = IsTrue (fits_request r bytes)
Keeps verifies (ask.Step act) (got.Step (Ok u)) = HasChecked verifies act
Keeps verifies _ _ = ⊤

-- the machine after these answers
abbrev pub run : Verifies → CoreDoc → List AnswerDoc → CoreDoc
run verifies c [] = c
run verifies c (a ∷ rest) = run verifies (answered verifies c a) rest

-- each answer keeps its promise
abbrev pub Along : Verifies → CoreDoc → List AnswerDoc → Type 0
Along verifies c [] = ⊤
Along verifies c (a ∷ rest) = Keeps verifies (question c) a × Along verifies (answered verifies c a) rest

-- an error of starting that isn't want of memory, or a file that the stream doesn't find
abbrev pub EndsWalk : AnswerDoc → Type 0
EndsWalk (got.NotStarted (fault.Transport e)) = error_kind e ≢ kind.Memory
EndsWalk (got.Cut (fault.Transport e)) = error_kind e ≡ kind.FileNotFound
EndsWalk _ = ⊥

-- the root after this one was asked for, and answered so
pub record AskedNext (verifies : Verifies) (c : CoreDoc) (answers : List AnswerDoc) (r : SignedDoc RootDoc) : Type 0 where
  pub before : List AnswerDoc
  pub answer : AnswerDoc
  pub after : List AnswerDoc
  pub all : answers ≡ before ++ answer ∷ after
  pub asked : question (run verifies c before) ≡ ask.Fetch (root_request c.setting.limits (r.role.head.version + 1))
  pub ends : EndsWalk answer

-- no root follows: the next one was asked for and there is none, or no version is left
abbrev pub IsLast : Verifies → CoreDoc → List AnswerDoc → SignedDoc RootDoc → Type 0
IsLast verifies c answers r = AskedNext verifies c answers r ⊎ (r.role.head.version ≡ 2 ^ 64 - 1)

-- the clock told this moment where it was asked for
pub record WasTold (verifies : Verifies) (c : CoreDoc) (answers : List AnswerDoc) (now : ℤ) : Type 0 where
  pub before : List AnswerDoc
  pub after : List AnswerDoc
  pub all : answers ≡ before ++ got.Moment now ∷ after
  pub asked : question (run verifies c before) ≡ ask.Moment

-- This moment was noted: the clock told it, it was asked for, and the step succeeded. No other moment was noted.
pub record HasNoted (verifies : Verifies) (c : CoreDoc) (answers : List AnswerDoc) (start : ℤ) : Type 0 where
  pub before : List AnswerDoc
  pub after : List AnswerDoc
  pub all : answers ≡ before ++ got.Step (Ok (tt {0})) ∷ after
  pub asked : question (run verifies c before) ≡ ask.Step (NoteTime start)
  pub told : WasTold verifies c before start
  pub once : (h t : List AnswerDoc) (now : ℤ) → answers ≡ h ++ got.Step (Ok (tt {0})) ∷ t → question (run verifies c h) ≡ ask.Step (NoteTime now) → h ≡ before

-- this root was answered where the stored root was asked for
pub record WasStored (verifies : Verifies) (c : CoreDoc) (answers : List AnswerDoc) (r : SignedDoc RootDoc) : Type 0 where
  pub before : List AnswerDoc
  pub after : List AnswerDoc
  pub all : answers ≡ before ++ got.Stored (Ok (Some r)) ∷ after
  pub first : ℕ
  pub asked : question (run verifies c before) ≡ ask.Stored first

-- what an update that succeeds promises
pub record Loaded (verifies : Verifies) (c : CoreDoc) (answers : List AnswerDoc) (l : LoadedDoc) : Type 0 where
  pub trusted : Trusted verifies c.setting.trusted (WasStored verifies c answers) l.known l.targets
  pub unexpired : c.setting.enforced ≡ true → Unexpired l.known l.targets
  pub noted : HasNoted verifies c answers l.known.start
  pub last : IsLast verifies c answers l.known.root

-- nothing was answered yet
abbrev pub IsFresh : CoreDoc → Type 0
IsFresh c = c.stage ≡ Moment
