use Rattle.tough_names.proofs.Safe
use Rattle.tough_names.proofs.name.resolves_once.Goals as goal

pub returns : goal.returns
returns c = Safe.resolves_once
