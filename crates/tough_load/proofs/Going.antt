-- What an answer leaves of an update.
use Rattle.std.specs.Prelude.{◌≡◌, Some, Result}
use Rattle.std.proofs.Common.{ap, inl, inr}
use Rattle.tough_keys.specs.Same.{Verifies}
use Rattle.tough_trust.specs.Failure.{Failure}
use Rattle.tough_update.specs.Stages.{LoadedDoc, StageDoc, CoreDoc}
use Rattle.tough_update.specs.Stages as at
use Rattle.tough_update.specs.Answered.{AnswerDoc}
use Rattle.tough_update.specs.Promises.{Goes, ended}

-- the setting stays
pub keeps-setting : (verifies : Verifies) (c : CoreDoc) (a : AnswerDoc) (mid : CoreDoc) → Goes verifies c a mid → mid.setting ≡ c.setting
keeps-setting verifies c a mid (inl e) = ap (λ (d : CoreDoc). d.setting) e
keeps-setting verifies c a mid (inr e) = ap (λ (d : CoreDoc). d.setting) e

pub done-at : (s : StageDoc) (r : Result LoadedDoc Failure) → ended s ≡ Some r → s ≡ at.Done r
done-at (at.Done x) r h = cc (h)
done-at _ r h = absurd (cc (h))
