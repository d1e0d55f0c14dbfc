use Rattle.std.proofs.Common.{◌≡◌, ◌&&◌, ◌+◌, ◌≤◌}
use Rattle.tough_schema.specs.Comparing.{all_same, works}
use Rattle.tough_schema.specs.Below.{work}
use Rattle.tough_schema.specs.Equal.{same_roles}
use Rattle.tough_schema.proofs.equal.+is_same_roles.Given as goal

abbrev pub decreases-is_same_roles : goal.decreases-is_same_roles
decreases-is_same_roles l = work l.one.now

-- the roles at hand and the pairs that are left decide
abbrev pub invariant-loop-x : goal.invariant-loop-x
invariant-loop-x l = (same_roles l.fn.one l.fn.other ≡ (same_roles l.here.one.now l.here.other.now && all_same l.left.items)) × (work l.here.one.now + works l.left.items ≤ work l.fn.one)

abbrev pub decreases-loop-x : goal.decreases-loop-x
decreases-loop-x l = work l.here.one.now + works l.left.items
