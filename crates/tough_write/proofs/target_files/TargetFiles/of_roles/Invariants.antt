use Rattle.std.proofs.Common.{◌≡◌, [], take}
use Rattle.tough_schema.specs.Entries.{merged_into}
use Rattle.tough_schema.specs.Gather.{map_docs}
use Rattle.tough_write.specs.Listed.{listed_by}
use Rattle.tough_write.proofs.target_files.TargetFiles.of_roles.Given as goal

abbrev pub invariant-loop-role : goal.invariant-loop-role
invariant-loop-role l = map_docs l.targets.entries ≡ merged_into [] (listed_by (take l.role-index l.all))
