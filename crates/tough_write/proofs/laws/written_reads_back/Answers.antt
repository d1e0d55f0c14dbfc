use Rattle.tough_write.proofs.ReadBack.{reads}
use Rattle.tough_write.proofs.laws.written_reads_back.Goals as goal

pub returns : goal.returns
returns c = reads
