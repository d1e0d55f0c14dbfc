use Rattle.witnesses.proofs.HonestLoads.{serves-four}
use Rattle.witnesses.proofs.honest.transport.Goals as goal

pub returns : goal.returns
returns c = λ trusted.
    serves-four c.hold.result c.args.base.now (record { trusted = trusted; timestamp = c.args.timestamp.now; snapshot = c.args.snapshot.now; targets = c.args.targets.now }) c.in_ok-none.none c.in_ok-first.first c.in_ok-second.second c.in_ok-third.third
    c.in_ok-none.ensures c.in_ok-first.ensures c.in_ok-second.ensures c.in_ok-third.ensures c.hold.ensures.none c.hold.ensures.first c.hold.ensures.second c.hold.ensures.third
