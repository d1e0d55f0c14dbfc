use Rattle.std.proofs.Common.{map, take}
use Rattle.tough_schema.specs.Whole.{role_tree}
use Rattle.tough_signed.specs.Standing.{AllStanding}
use Rattle.tough_edit.proofs.sign.all_standing.Given as goal

abbrev pub invariant-loop-role : goal.invariant-loop-role
invariant-loop-role l = AllStanding (map role_tree (take l.role-index l.roles)) l.all.items
