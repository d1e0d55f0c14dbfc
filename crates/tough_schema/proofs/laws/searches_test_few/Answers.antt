use Rattle.tough_schema.proofs.Finding.{few-tested}
use Rattle.tough_schema.proofs.laws.searches_test_few.Goals as goal

pub returns : goal.returns
returns c = λ permissive name t. few-tested permissive name t
