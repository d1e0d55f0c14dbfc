use Rattle.tough_client.proofs.Savings.{goes_on}
use Rattle.tough_client.proofs.save.go_on.Goals as goal

pub returns-in-Pending-clause-waits : goal.returns-in-Pending-clause-waits
returns-in-Pending-clause-waits g c =
    goes_on g.S.Stream.yields g.F.Files.tells c.args.name.now c.args.saving c.poll_saving-polled.new.saving (g.F.Files.calls c.args.files.now) (g.F.Files.calls c.poll_saving-polled.new.files)
    c.in-Pending.ensures.same c.in-Pending.ensures.follows c.in-Pending.ensures.paths.0 c.in-Pending.ensures.paths.1
