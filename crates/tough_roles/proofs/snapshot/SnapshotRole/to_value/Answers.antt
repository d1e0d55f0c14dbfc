use Rattle.serde_json.specs.View.{view}
use Rattle.tough_roles.specs.Snapshot.{snapshot_doc}
use Rattle.tough_roles.proofs.SnapshotLemmas.{snapshot-back}
use Rattle.tough_roles.proofs.snapshot.SnapshotRole.to_value.Goals as goal

pub returns-clause-back : goal.returns-clause-back
returns-clause-back c = λ kept. snapshot-back (snapshot_doc c.args.self.now) (view c.in_ok-value.value) c.args.self.now.expires.in_range c.in_ok-value.ensures
