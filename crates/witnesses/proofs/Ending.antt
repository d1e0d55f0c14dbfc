-- What a load that succeeded asked for.
use Rattle.std.specs.Prelude.{◌≡◌, ◌≢◌, ◌+◌, ◌-◌, ◌^◌, List}
use Rattle.std.proofs.Common.{inl, inr}
use Rattle.tough_keys.specs.Same.{Verifies}
use Rattle.tough_roles.specs.Root.{RootDoc}
use Rattle.tough_roles.specs.Signature.{SignedDoc}
use Rattle.tough_trust.specs.Requests.{RequestDoc, root_request}
use Rattle.tough_update.specs.Answered.{AnswerDoc}
use Rattle.tough_update.specs.Machine.{question}
use Rattle.tough_update.specs.Questions.{Fetch}
use Rattle.tough_update.specs.Runs.{run, IsLast}
use Rattle.tough_update.specs.Stages.{CoreDoc}

pub asked : (v : Verifies) (c : CoreDoc) (answers : List AnswerDoc) (r : SignedDoc RootDoc) → IsLast v c answers r → r.role.head.version ≢ 2 ^ 64 - 1 → (before : List AnswerDoc) × (q : RequestDoc) × (question (run v c before) ≡ Fetch q)
asked v c answers r (inl a) h = (a.before, root_request c.setting.limits (r.role.head.version + 1), a.asked)
asked v c answers r (inr e) h = absurd (h e)
