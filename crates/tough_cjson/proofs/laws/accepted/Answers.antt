use Rattle.tough_cjson.proofs.lemmas.Exactness as laws
use Rattle.tough_cjson.proofs.laws.accepted.Goals as goal

pub returns : goal.returns
returns c = laws.accepted
