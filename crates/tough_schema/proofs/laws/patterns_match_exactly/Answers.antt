use Rattle.tough_schema.proofs.Matched.{match-exactly}
use Rattle.tough_schema.proofs.laws.patterns_match_exactly.Goals as goal

pub returns : goal.returns
returns c = λ resolved p. match-exactly resolved p
