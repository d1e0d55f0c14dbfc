use Rattle.std.proofs.Common.{◌≡◌, ◌++◌, take}
use Rattle.tough_schema.specs.Whole.{listing_of, tree_doc}
use Rattle.tough_schema.specs.Entries.{listed_in}
use Rattle.tough_schema.specs.Gather.{listed_docs, shown}
use Rattle.tough_schema.proofs.targets.Targets.targets_iter.Given as goal

abbrev pub invariant-loop-role : goal.invariant-loop-role
invariant-loop-role l = listed_docs l.found.items ≡ listing_of (tree_doc l.self) ++ listed_in (shown (take l.role-index l.role-items))
