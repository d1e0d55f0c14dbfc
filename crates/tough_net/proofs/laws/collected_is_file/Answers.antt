use Rattle.tough_net.proofs.lemmas.Files.{Collects_file}
use Rattle.tough_net.proofs.laws.collected_is_file.Goals as goal

pub returns : goal.returns
returns c = Collects_file
