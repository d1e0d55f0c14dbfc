use Rattle.std.proofs.Common.{◌≡◌, map}
use Rattle.tough_schema.specs.Whole.{role_tree}
use Rattle.tough_schema.specs.Copying.{stack, all_stepped, weights}
use Rattle.tough_schema.proofs.copy.copy_roles.Given as goal

-- the steps that are left lead to copies of all roles
abbrev pub invariant-loop-step : goal.invariant-loop-step
invariant-loop-step l = all_stepped l.steps.items (stack l.copies.items) ≡ map role_tree l.roles

abbrev pub decreases-loop-step : goal.decreases-loop-step
decreases-loop-step l = weights l.steps.items
