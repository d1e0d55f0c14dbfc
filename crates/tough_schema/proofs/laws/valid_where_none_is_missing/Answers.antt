use Rattle.tough_schema.proofs.lemmas.Valid.{valid-missing}
use Rattle.tough_schema.proofs.laws.valid_where_none_is_missing.Goals as goal

pub returns : goal.returns
returns c = valid-missing
