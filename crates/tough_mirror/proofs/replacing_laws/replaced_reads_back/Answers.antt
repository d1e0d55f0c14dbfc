use Rattle.tough_mirror.proofs.Replaced.{reads}
use Rattle.tough_mirror.proofs.replacing_laws.replaced_reads_back.Goals as goal

pub returns : goal.returns
returns c = reads
