use Rattle.std.proofs.Common.{◌≡◌, take}
use Rattle.tough_schema.specs.Entries.{merged_into}
use Rattle.tough_schema.specs.Gather.{listed_docs, map_docs}
use Rattle.tough_write.proofs.target_files.add_listed.Given as goal

abbrev pub invariant-loop-entry : goal.invariant-loop-entry
invariant-loop-entry l = map_docs l.targets.entries ≡ merged_into (map_docs l.fn.targets.entries) (listed_docs (take l.entry-index l.entry-items))
