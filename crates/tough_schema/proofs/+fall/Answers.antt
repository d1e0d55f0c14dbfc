use Rattle.std.proofs.Common.{◌≡◌, ◌<◌, ◌≤◌, arith, rules}
use Rattle.tough_schema.specs.Falling.{depth, depth_of, deepest}
use Rattle.tough_schema.proofs.Falls.{last-depth}
use Rattle.tough_schema.proofs.+fall.Goals as goal

pub delegations::Delegations::drop-drop-requires : goal.delegations::Delegations::drop-drop-requires
delegations::Delegations::drop-drop-requires t c κs =
    let here : depth_of c.args.self ≡ t = c.decreases in
    let popped : depth c.in-Some.role ≤ deepest c.loop.left.items = last-depth c.loop.left.items c.pop.new.self.items c.in-Some.role c.in-Some.ensures.items in
    let small : deepest c.joined-more.result.1.items < t = omega (arith, here, popped, c.joined-more.ensures.over, c.in-Some-roles_below.ensures, c.loop.invariant) in
    search (rules, small)
