-- What an update is answered.
use Rattle.std.specs.Prelude.{ℤ, ℕ, List, Option, Result}
use Rattle.tough_roles.specs.Root.{RootDoc}
use Rattle.tough_roles.specs.Signature.{SignedDoc}
use Rattle.tough_trust.specs.Failure.{Failure}
use Rattle.tough_trust.specs.declared.fault.Fault.{Fault}

pub data AnswerDoc : Type 0 where
  Moment : ℤ → AnswerDoc
  -- the stored root, where it is newer, or why it couldn't be read
  Stored : Result (Option (SignedDoc RootDoc)) Failure → AnswerDoc
  Bytes : List ℕ → AnswerDoc
  -- the fetch didn't start
  NotStarted : Fault → AnswerDoc
  -- its stream failed
  Cut : Fault → AnswerDoc
  -- a step on the store: success, or why it was refused
  Step : Result Unit Failure → AnswerDoc
