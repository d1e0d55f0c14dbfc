use Rattle.tough_roles.specs.Signature.{signed_at}
use Rattle.tough_roles.proofs.lemmas.Rereading.{document-back, read-back}
use Rattle.tough_schema.specs.Targets.{targets_at, targets_json}
use Rattle.tough_schema.proofs.TargetsLemmas.{targets-back}
use Rattle.tough_schema.proofs.laws.targets_reads_back.Goals as goal

pub returns : goal.returns
returns c = λ s d text range own sorted written readable shown.
    read-back (signed_at targets_at) d s text readable shown (document-back targets_at targets_json s d (λ e w. targets-back s.role e range own sorted w) written)
