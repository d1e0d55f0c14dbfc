use Rattle.std.proofs.Common.{◌≡◌, rules, true, false}
use Rattle.tough_write.specs.Listed.{is_consistent}
use Rattle.tough_write.proofs.Choosing.{agrees_named, agrees_read}
use Rattle.tough_write.proofs.put.Putting.agree.Goals as goal

pub returns-then-consistent_snapshot : goal.returns-then-consistent_snapshot
returns-then-consistent_snapshot g c = λ tells.
    let named : is_consistent c.args.self.now.targets.now ≡ true = search rules in
    agrees_named (is_consistent c.args.self.now.targets.now) c.args.path.now c.args.chosen.now _ named

pub returns-else-consistent_snapshot : goal.returns-else-consistent_snapshot
returns-else-consistent_snapshot g c = λ tells.
    let plain : is_consistent c.args.self.now.targets.now ≡ false = search rules in
    agrees_read (is_consistent c.args.self.now.targets.now) c.args.path.now c.args.chosen.now _ _ _ plain (c.check_content.ensures tells)
