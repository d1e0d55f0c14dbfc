use Rattle.tough_schema.proofs.Finding.{finds-by-number}
use Rattle.tough_schema.proofs.laws.searches_find_by_number.Goals as goal

pub returns : goal.returns
returns c = λ permissive name t. finds-by-number permissive name t
