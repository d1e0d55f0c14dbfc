use Rattle.std.proofs.Common.{◌+◌, map, take, sym, subst}
use Rattle.tough_schema.specs.Whole.{role_tree}
use Rattle.tough_signed.specs.Standing.{AllStanding}
use Rattle.tough_edit.proofs.Standings.{all_step}
use Rattle.tough_edit.proofs.sign.all_standing.Goals as goal

pub loop-role-preserved : goal.loop-role-preserved
loop-role-preserved c =
    let i = c.loop-role.role-index in
    subst (λ l. AllStanding (map role_tree (take (i + 1) c.args.roles.now)) l) (sym c.in_ok-push-in-Ok.ensures.items)
    (all_step c.args.roles.now i c.role-item.result c.loop-role.all.items c.in-Ok.standing c.loop-role-test.true c.role-item.is c.loop-role.invariant c.in-Ok.ensures.standing)
