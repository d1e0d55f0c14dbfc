use Rattle.tough_schema.proofs.lemmas.Wholes.{top-tells}
use Rattle.tough_schema.proofs.laws.trees_tell_their_top.Goals as goal

pub returns : goal.returns
returns c = top-tells
