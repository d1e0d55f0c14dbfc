use Rattle.std.proofs.Common.{rules, ◌≡◌, true, is_some}
use Rattle.tough_schema.specs.declared.delegations.DelegatedRole.{out-DelegatedRole}
use Rattle.tough_schema.proofs.Ways.{below-way, below-work}
use Rattle.tough_schema.proofs.way.next.Goals as goal

pub returns-then-is_some-clause-way : goal.returns-then-is_some-clause-way
returns-then-is_some-clause-way c = λ name other.
    let some : is_some (out-DelegatedRole c.in-Some.role.now).targets ≡ true = search rules in
    below-way name c.args.above.now.items c.push.new.self.items c.args.here c.roles_under.result c.in-Some.field-0-1.now c.in-Some.role.now c.in_ok-push.ensures.items c.in-Some.ensures.cases.0 some c.roles_under.ensures.branches other

pub returns-then-is_some-clause-fewer : goal.returns-then-is_some-clause-fewer
returns-then-is_some-clause-fewer c =
    below-work c.args.above.now.items c.push.new.self.items c.args.here c.roles_under.result c.in-Some.field-0-1.now c.in-Some.role.now c.in_ok-push.ensures.items c.in-Some.ensures.cases.0 c.roles_under.ensures.branches
