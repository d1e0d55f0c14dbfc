use Rattle.tough_roles.proofs.lemmas.Reached.{reaches-from, reaches-to}
use Rattle.tough_roles.proofs.laws.verified_exactly.Goals as goal

pub returns : goal.returns
returns c = λ v absent type p text ss. (reaches-from v absent type p text ss, reaches-to v absent type p text ss)
