use Rattle.std.proofs.Common.{◌≡◌, ◌++◌}
use Rattle.tough_schema.specs.Targets.{listing_doc}
use Rattle.tough_schema.specs.Strays.{strays_of, way, names_of}
use Rattle.tough_schema.proofs.strays.add_strays.Given as goal

abbrev pub invariant-loop-name : goal.invariant-loop-name
invariant-loop-name l = names_of l.found.items ++ strays_of (way l.is_open l.above) (listing_doc l.name-iterator) ≡ names_of l.fn.found.items ++ strays_of (way l.is_open l.above) (listing_doc l.targets.entries)
