use Rattle.tough_cjson.proofs.lemmas.Exactness.{same, text}
use Rattle.tough_cjson.proofs.laws.same_text.Goals as goal

pub returns : goal.returns
returns c = λ v w s t h k. (λ e. same v w s t h k e, λ e. text v w s t h k e)
