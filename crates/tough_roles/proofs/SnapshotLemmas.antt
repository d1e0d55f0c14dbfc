-- What is written for a snapshot is read as it.
use Rattle.std.proofs.Common.{◌≡◌, codes, Some, refl}
use Rattle.jiff_core.specs.Timestamp.{IsTimestampNanos}
use Rattle.serde_json.specs.Data.{Data, object}
use Rattle.tough_json.specs.Reading.{◌>>=◌, mapping}
use Rattle.tough_json.specs.Writing.{with, named}
use Rattle.tough_json.proofs.lemmas.Write.{bind_ok, some-inj, required-with, named-back}
use Rattle.tough_roles.specs.Head.{head_json}
use Rattle.tough_roles.specs.Timestamp.{metafile_at, metafile_json}
use Rattle.tough_roles.specs.Snapshot.{SnapshotDoc, snapshot_at, snapshot_json}
use Rattle.tough_roles.proofs.lemmas.Head.{head-back}
use Rattle.tough_roles.proofs.lemmas.Timestamp.{metafile-back}

pub snapshot-back : (t : SnapshotDoc) (d : Data) → IsTimestampNanos t.head.expires → snapshot_json t ≡ Some d → snapshot_at d ≡ Some t
unfolding snapshot_json snapshot_at
snapshot-back t d range w =
    let a = bind_ok (named metafile_json t.meta) (λ inner. with (codes "meta") (object inner) t.extra >>= λ meta. head_json (codes "snapshot") t.head meta >>= λ ms. Some (object ms)) d w in
    let b = bind_ok (with (codes "meta") (object a.0) t.extra) (λ meta. head_json (codes "snapshot") t.head meta >>= λ ms. Some (object ms)) d a.2 in
    let c = bind_ok (head_json (codes "snapshot") t.head b.0) (λ ms. Some (object ms)) d b.2 in
    rw (
      ← some-inj c.2,
      head-back (codes "snapshot") t.head b.0 c.0 range c.1,
      required-with (codes "meta") (mapping metafile_at) (object a.0) t.extra b.0 t.meta b.1 (named-back metafile_at metafile_json t.meta a.0 metafile-back a.1),
    ) refl
