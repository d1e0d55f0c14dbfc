use Rattle.std.proofs.Common.{◌≡◌, not, drop}
use Rattle.std.specs.List.{find}
use Rattle.tough_schema.specs.Whole.{tree_doc}
use Rattle.tough_schema.specs.Entries.{is_found, first_missing}
use Rattle.tough_schema.specs.Strays.{names_of}
use Rattle.tough_schema.proofs.targets.Targets.validate.Given as goal

abbrev pub invariant-loop-name : goal.invariant-loop-name
invariant-loop-name l = find (λ name. not (is_found (tree_doc l.self) name)) (names_of (drop l.name-index l.name-items)) ≡ first_missing (tree_doc l.self)
