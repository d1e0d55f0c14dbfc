use Rattle.std.proofs.Common.{refl}
use Rattle.witnesses.proofs.growth.grown_tree.Goals as goal

pub returns : goal.returns
returns c = record { bare = refl; all_bare = (refl, tt); taken = (refl, refl, tt); runs_to = refl }
