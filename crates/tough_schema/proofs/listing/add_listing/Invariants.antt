use Rattle.std.proofs.Common.{◌≡◌, ◌++◌}
use Rattle.tough_schema.specs.Targets.{listing_doc}
use Rattle.tough_schema.specs.Gather.{listed_docs}
use Rattle.tough_schema.proofs.listing.add_listing.Given as goal

abbrev pub invariant-loop-name : goal.invariant-loop-name
invariant-loop-name l = listed_docs l.found.items ++ listing_doc l.name-iterator ≡ listed_docs l.fn.found.items ++ listing_doc l.targets.entries
