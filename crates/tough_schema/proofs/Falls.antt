-- The last role of a list is no deeper than the deepest.
use Rattle.std.proofs.Common.{◌≡◌, ◌≤◌, List, [], ◌∷◌, ◌++◌, ap, arith}
use denote.Param.Weighed.{most-append}
use Rattle.tough_schema.specs.declared.delegations.DelegatedRole.{DelegatedRole}
use Rattle.tough_schema.specs.Falling.{depth, deepest}

pub last-depth : (all rest : List DelegatedRole) (r : DelegatedRole) → all ≡ rest ++ r ∷ [] → depth r ≤ deepest all
last-depth all rest r h = omega (arith, ap deepest h, most-append depth rest (r ∷ []))
