use Rattle.tough_cjson.proofs.lemmas.Computed.{Canon-computed, computed}
use Rattle.tough_cjson.proofs.laws.computed_text.Goals as goal

pub returns : goal.returns
returns c = λ v t. (λ e. Canon-computed v t e, λ h. computed v t h)
