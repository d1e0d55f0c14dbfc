-- Answers that are honest over some files are so over others that hold the same where they are asked.
use Rattle.std.proofs.Common.{◌≡◌, ℕ, ℤ, List, [], ◌∷◌, Option, refl, sym, subst}
use Rattle.tough_keys.specs.Same.{Verifies}
use Rattle.tough_trust.specs.Requests.{RequestDoc}
use Rattle.tough_update.specs.Answered.{AnswerDoc}
use Rattle.tough_update.specs.Loadable.{Files, Gets, Honest, AllHonest}
use Rattle.tough_update.specs.Machine.{question, answered}
use Rattle.tough_update.specs.Questions.{Question}
use Rattle.tough_update.specs.Questions as ask
use Rattle.tough_update.specs.Runs.{run}
use Rattle.tough_update.specs.Stages.{CoreDoc}

module _ (verifies : Verifies) (these those : Files) (now : ℤ) where
  one : (q : Question) (a : AnswerDoc) → ((r : RequestDoc) → q ≡ ask.Fetch r → those r.name ≡ these r.name) → Honest verifies these now q a → Honest verifies those now q a
  one ask.Moment a same h = h
  one (ask.Stored first) a same h = h
  one (ask.Fetch r) a same h = subst (λ (file : Option (List ℕ)). Gets r file a) (sym (same r refl)) h
  one (ask.Step act) a same h = h
  one ask.Ready a same h = h

  pub honest-same : (c : CoreDoc) → ((before : List AnswerDoc) (r : RequestDoc) → AllHonest verifies these now c before → question (run verifies c before) ≡ ask.Fetch r → those r.name ≡ these r.name)
      → (answers : List AnswerDoc) → AllHonest verifies these now c answers → AllHonest verifies those now c answers
  honest-same c same [] h = tt
  honest-same c same (a ∷ rest) (h, hs) = (
    one (question c) a (λ r asked. same [] r tt asked) h,
    honest-same (answered verifies c a) (λ before r honest asked. same (a ∷ before) r (h, honest) asked) rest hs,
  )
