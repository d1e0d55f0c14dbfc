use Rattle.tough_schema.specs.Fitting.{AreFit}
use Rattle.tough_schema.specs.Targets.{listing_doc}
use Rattle.tough_schema.proofs.fitting.are_fit.Given as goal

abbrev pub invariant-loop-target : goal.invariant-loop-target
invariant-loop-target l = AreFit (listing_doc l.target-iterator) → AreFit (listing_doc l.targets.entries)
