use Rattle.tough_roles.proofs.lemmas.Rereading.{text-back}
use Rattle.tough_roles.proofs.laws.text_reads_back.Goals as goal

pub returns : goal.returns
returns c = text-back
