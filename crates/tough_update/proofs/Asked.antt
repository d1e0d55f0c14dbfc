-- Which file is asked for.
use Rattle.std.specs.Prelude.{◌≡◌, List, [], ◌∷◌, Bool}
use Rattle.std.proofs.Common.{refl, sym, ◌∙◌, ap, subst, inl, inr}
use Rattle.tough_keys.specs.Same.{Verifies}
use Rattle.tough_trust.specs.Requests.{RequestDoc}
use Rattle.tough_update.specs.Stages.{StageDoc, CoreDoc}
use Rattle.tough_update.specs.Stages as at
use Rattle.tough_update.specs.Questions as ask
use Rattle.tough_update.specs.Answered.{AnswerDoc}
use Rattle.tough_update.specs.Machine.{question, question_at, answered}
use Rattle.tough_update.specs.Runs.{run, IsFresh}
use Rattle.tough_update.specs.Asking.{AsksSnapshot, AsksTargets, AsksRole, AsksFile}
use Rattle.tough_update.proofs.History.{Tells, tells}

run-setting : (v : Verifies) (answers : List AnswerDoc) (c : CoreDoc) → (run v c answers).setting ≡ c.setting
run-setting v [] c = refl
run-setting v (a ∷ rest) c = run-setting v rest (answered v c a)

-- what is asked, by the stage
asked : (v : Verifies) (c : CoreDoc) (answers : List AnswerDoc) → question_at c.setting.enforced (run v c answers).stage ≡ question (run v c answers)
asked v c answers = ap (λ x. question_at x.enforced (run v c answers).stage) (sym (run-setting v answers c))

file : (v : Verifies) (c : CoreDoc) (answers : List AnswerDoc) (enforced : Bool) (st : StageDoc) (r : RequestDoc) → question_at enforced st ≡ ask.Fetch r → Tells v c answers st → AsksFile v c answers r
file v c answers enforced (at.Fetch (at.Root w) q) r e h = let same : q ≡ r = cc in inl (record { last = w.last; chain = h.0; is = sym same ∙ h.1 })
file v c answers enforced (at.Fetch (at.Timestamp b) q) r e h = let same : q ≡ r = cc in inr (inl (sym same ∙ h))
file v c answers enforced (at.Fetch (at.Snapshot b t n) q) r e h = let same : q ≡ r = cc in inr (inr (inl (subst (AsksSnapshot v c answers) same h)))
file v c answers enforced (at.Fetch (at.Targets k n) q) r e h = let same : q ≡ r = cc in inr (inr (inr (inl (subst (AsksTargets v c answers) same h.1))))
file v c answers enforced (at.Fetch (at.Role k roles n) q) r e h = let same : q ≡ r = cc in inr (inr (inr (inr (subst (AsksRole v c answers) same h.2))))
file v c answers enforced _ r e h = cc

pub asks : (v : Verifies) (c : CoreDoc) (answers : List AnswerDoc) (r : RequestDoc) → IsFresh c → question (run v c answers) ≡ ask.Fetch r → AsksFile v c answers r
asks v c answers r fresh e = file v c answers c.setting.enforced (run v c answers).stage r (asked v c answers ∙ e) (tells v c fresh answers)
