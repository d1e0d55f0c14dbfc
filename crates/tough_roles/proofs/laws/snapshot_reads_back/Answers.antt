use Rattle.tough_roles.specs.Snapshot.{snapshot_at, snapshot_json}
use Rattle.tough_roles.specs.Signature.{signed_at}
use Rattle.tough_roles.proofs.lemmas.Rereading.{document-back, read-back}
use Rattle.tough_roles.proofs.SnapshotLemmas.{snapshot-back}
use Rattle.tough_roles.proofs.laws.snapshot_reads_back.Goals as goal

pub returns : goal.returns
returns c = λ s d text range written readable shown.
    read-back (signed_at snapshot_at) d s text readable shown (document-back snapshot_at snapshot_json s d (λ e w. snapshot-back s.role e range w) written)
