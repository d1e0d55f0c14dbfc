use Rattle.tough_roles.specs.Timestamp.{timestamp_at, timestamp_json}
use Rattle.tough_roles.specs.Signature.{signed_at}
use Rattle.tough_roles.proofs.lemmas.Rereading.{document-back, read-back}
use Rattle.tough_roles.proofs.lemmas.Timestamp.{timestamp-back}
use Rattle.tough_roles.proofs.laws.timestamp_reads_back.Goals as goal

pub returns : goal.returns
returns c = λ s d text range written readable shown.
    read-back (signed_at timestamp_at) d s text readable shown (document-back timestamp_at timestamp_json s d (λ e w. timestamp-back s.role e range w) written)
