use Rattle.tough_keys.specs.Equals.{same_key-Decides}
use Rattle.tough_keys.proofs.equal.equal_keys.Goals as goal

pub returns : goal.returns
returns c = same_key-Decides
