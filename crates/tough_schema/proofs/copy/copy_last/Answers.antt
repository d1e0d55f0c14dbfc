use Rattle.tough_schema.proofs.Copied.{last-stepped, last-fewer}
use Rattle.tough_schema.proofs.copy.copy_last.Goals as goal

pub returns-clause-copies : goal.returns-clause-copies
returns-clause-copies c =
    last-stepped c.args.steps.now.items c.push.new.self.items c.push-2.new.self.items c.push-3.new.self.items c.in-Some.role c.in-Some.others c.roles_under.result c.args.roles.now
    c.in_ok-push.ensures.items c.in_ok-push-2.ensures.items c.in_ok-push-3.ensures.items c.in-Some.ensures.cases.0 c.roles_under.ensures.same

pub returns-clause-fewer : goal.returns-clause-fewer
returns-clause-fewer c =
    last-fewer c.args.steps.now.items c.push.new.self.items c.push-2.new.self.items c.push-3.new.self.items c.in-Some.role c.in-Some.others c.roles_under.result c.args.roles.now
    c.in_ok-push.ensures.items c.in_ok-push-2.ensures.items c.in_ok-push-3.ensures.items c.in-Some.ensures.cases.0 c.roles_under.ensures.branches
