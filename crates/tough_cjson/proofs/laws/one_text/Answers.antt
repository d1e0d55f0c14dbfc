use Rattle.tough_cjson.proofs.lemmas.Exactness.{one}
use Rattle.tough_cjson.proofs.laws.one_text.Goals as goal

pub returns : goal.returns
returns c = one
