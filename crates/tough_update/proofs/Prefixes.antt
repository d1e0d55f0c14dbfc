-- What is so after each of a run's answers is so at its end.
use Rattle.std.specs.Prelude.{◌≡◌, ◌⊎◌, List, [], ◌∷◌, ◌++◌, Ok}
use Rattle.std.proofs.Common.{refl, sym, ◌∙◌, ap, subst, inl, inr}
use Rattle.std.proofs.lemmas.List.{append-nil, append_assoc}
use Rattle.tough_keys.specs.Same.{Verifies}
use Rattle.tough_update.specs.Stages.{StageDoc, CoreDoc}
use Rattle.tough_update.specs.Answered.{AnswerDoc}
use Rattle.tough_update.specs.Machine.{answered, settled, stage_after}
use Rattle.tough_update.specs.Runs.{run}

abbrev pub in_stage : CoreDoc → StageDoc → CoreDoc
in_stage c st = record { setting = c.setting; stage = st }

pub run-last : (v : Verifies) (h : List AnswerDoc) (c : CoreDoc) (a : AnswerDoc) → run v c (h ++ a ∷ []) ≡ answered v (run v c h) a
run-last v [] c a = refl
run-last v (x ∷ h) c a = run-last v h (answered v c x) a

pub run-on : (v : Verifies) (h : List AnswerDoc) (c : CoreDoc) (t : List AnswerDoc) → run v c (h ++ t) ≡ run v (run v c h) t
run-on v [] c t = refl
run-on v (x ∷ h) c t = run-on v h (answered v c x) t

pub over-append : (h : List AnswerDoc) (a : AnswerDoc) (rest : List AnswerDoc) → h ++ a ∷ rest ≡ (h ++ a ∷ []) ++ rest
over-append [] a rest = refl
over-append (x ∷ h) a rest = ap (λ r. x ∷ r) (over-append h a rest)

-- one answer more
pub longer : (h before after : List AnswerDoc) (m a : AnswerDoc) → h ≡ before ++ m ∷ after → h ++ a ∷ [] ≡ before ++ m ∷ (after ++ a ∷ [])
longer h before after m a e = ap (λ x. x ++ a ∷ []) e ∙ append_assoc before (m ∷ after) (a ∷ [])

-- an answer that isn't waited for
pub run-same : (v : Verifies) (c : CoreDoc) (h : List AnswerDoc) (a : AnswerDoc) (st : StageDoc) → run v c h ≡ in_stage c st → stage_after v c.setting st a ≡ Ok st → run v c (h ++ a ∷ []) ≡ run v c h
run-same v c h a st stands e = run-last v h c a ∙ (ap (λ d. answered v d a) stands ∙ (ap (λ r. in_stage c (settled r)) e ∙ sym stands))

module _ (v : Verifies) (c : CoreDoc) (Is : List AnswerDoc → StageDoc → Type 0)
    (turn : (h : List AnswerDoc) (st : StageDoc) (a : AnswerDoc) → run v c h ≡ in_stage c st → Is h st → Is (h ++ a ∷ []) (settled (stage_after v c.setting st a))) where
  along : (rest h : List AnswerDoc) (st : StageDoc) → run v c h ≡ in_stage c st → Is h st → Is (h ++ rest) (run v (in_stage c st) rest).stage
  along [] h st stands is = subst (λ x. Is x st) (sym (append-nil h)) is
  along (a ∷ rest) h st stands is =
      let next = settled (stage_after v c.setting st a) in
      subst (λ x. Is x (run v (in_stage c next) rest).stage) (sym (over-append h a rest))
      (along rest (h ++ a ∷ []) next (run-last v h c a ∙ ap (λ d. answered v d a) stands) (turn h st a stands is))

  pub whole : (answers : List AnswerDoc) → Is [] c.stage → Is answers (run v c answers).stage
  whole answers is = along answers [] c.stage refl is

  -- the same, where the run stands so
  pub whole-at : (answers : List AnswerDoc) (st : StageDoc) → run v c answers ≡ in_stage c st → Is [] c.stage → Is answers st
  whole-at answers st stands is = subst (λ (d : CoreDoc). Is answers d.stage) stands (whole answers is)

abbrev pub Parts : List AnswerDoc → List AnswerDoc → AnswerDoc → AnswerDoc → Type 0
Parts h k x y = (h ≡ k) ⊎ (((r : List AnswerDoc) × (k ≡ h ++ x ∷ r)) ⊎ ((r : List AnswerDoc) × (h ≡ k ++ y ∷ r)))

prepended : (z w : AnswerDoc) (h k : List AnswerDoc) (x y : AnswerDoc) → z ≡ w → Parts h k x y → Parts (z ∷ h) (w ∷ k) x y
prepended z w h k x y e (inl f) = inl (cc (e, f))
prepended z w h k x y e (inr (inl p)) = inr (inl (p.0, ap (λ q. q ∷ k) (sym e) ∙ ap (λ q. z ∷ q) p.1))
prepended z w h k x y e (inr (inr p)) = inr (inr (p.0, ap (λ q. q ∷ h) e ∙ ap (λ q. w ∷ q) p.1))

-- two parts of one list, each before an item: they are the same, or one goes on where the other ends
pub parts : (h k : List AnswerDoc) (x y : AnswerDoc) (s t : List AnswerDoc) → h ++ x ∷ s ≡ k ++ y ∷ t → Parts h k x y
parts [] [] x y s t e = inl refl
parts [] (z ∷ k) x y s t e = inr (inl (k, cc (e)))
parts (z ∷ h) [] x y s t e = inr (inr (h, cc (e)))
parts (z ∷ h) (w ∷ k) x y s t e = prepended z w h k x y (cc (e)) (parts h k x y s t (cc (e)))
