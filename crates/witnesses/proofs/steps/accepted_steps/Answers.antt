use Rattle.tough_roles.specs.Root.{root_doc}
use Rattle.tough_roles.specs.Signature.{signed_doc}
use Rattle.tough_roles.specs.Snapshot.{snapshot_doc}
use Rattle.tough_roles.specs.Timestamp.{timestamp_doc}
use Rattle.witnesses.proofs.Trails.{accepted}
use Rattle.witnesses.proofs.steps.accepted_steps.Goals as goal

pub returns : goal.returns
returns c =
    let took = c.in_ok-accept_four.ensures in
    accepted c.args.start.nanosecond (signed_doc root_doc c.in_ok-root.root) (signed_doc timestamp_doc c.in_ok-first.first) c.get.result (signed_doc snapshot_doc c.in_ok-second.second) c.args.trusted.now c.args.timestamp.now c.args.snapshot.now
    c.in_ok-root.ensures.reading c.in_ok-first.ensures.reading c.in_ok-second.ensures.reading took.0 took.1 took.2
