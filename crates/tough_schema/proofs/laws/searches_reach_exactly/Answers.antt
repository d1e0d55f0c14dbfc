use Rattle.tough_schema.proofs.Marks.{reaches-exactly}
use Rattle.tough_schema.proofs.laws.searches_reach_exactly.Goals as goal

pub returns : goal.returns
returns c = λ name t. reaches-exactly name t
