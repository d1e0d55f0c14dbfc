use Rattle.std.proofs.Common.{◌<◌}
use Rattle.tough_schema.specs.Falling.{depth_of, deepest}
use Rattle.tough_schema.proofs.+fall.Given as goal

-- what is left is less deep than what is dropped
abbrev pub invariant-delegations::Delegations::drop-loop : goal.invariant-delegations::Delegations::drop-loop
invariant-delegations::Delegations::drop-loop l = deepest l.left.items < depth_of l.fn.self
