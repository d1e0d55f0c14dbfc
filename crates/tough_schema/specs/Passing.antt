-- What is still to be gone through for the names that a search may not find: words of private clauses.
use Rattle.std.specs.Prelude.{ℕ, ◌+◌, ◌-◌, List, [], ◌∷◌, ◌++◌, length, take, Bool, String}
use Rattle.std.specs.Borrow.{Bor}
use Rattle.std.specs.BTreeSet.{BTreeSet}
use Rattle.std.specs.declared.alloc.Global.{Global}
use Rattle.tough_names.specs.Named.{Named}
use Rattle.tough_schema.specs.declared.delegations.DelegatedRole.{DelegatedRole}
use Rattle.tough_schema.specs.declared.strays.Step.{Step}
use Rattle.tough_schema.specs.declared.strays.Step.TheVariants.{Visit, Leave}
use Rattle.tough_schema.specs.Whole.{RoleTree, role_branches}
use Rattle.tough_schema.specs.Search.{Names}
use Rattle.tough_schema.specs.Visited.{names_in}
use Rattle.tough_schema.specs.Strays.{names_past, strays, names_at, strays_at, way, names_of}
use Rattle.tough_schema.specs.Below.{work}

-- the roles on the way, the names of the roles so far, and the names that were found
pub record Pass : Type 0 where
  pub above : List (Bor DelegatedRole)
  pub seen : Names
  pub found : List Named

abbrev pub pass : List (Bor DelegatedRole) → BTreeSet (String Global) → List (Bor Named) → Pass
pass above seen found = record { above = above; seen = names_in seen; found = names_of found }

-- after these roles
abbrev pub passed : List DelegatedRole → Bool → Pass → Pass
passed rs is_open p = record { above = p.above; seen = names_past p.seen (role_branches rs); found = p.found ++ strays p.seen (way is_open p.above) (role_branches rs) }

-- after a role
abbrev pub passed_at : RoleTree → Bool → Pass → Pass
passed_at r is_open p = record { above = p.above; seen = names_at p.seen r; found = p.found ++ strays_at p.seen (way is_open p.above) r }

abbrev pub but_last : List (Bor DelegatedRole) → List (Bor DelegatedRole)
but_last rs = take (length rs - 1) rs

-- after a step
abbrev pub stepped : Step → Pass → Pass
stepped (Visit roles is_open) p = passed roles.now is_open p
stepped Leave p = record { above = but_last p.above; seen = p.seen; found = p.found }

-- after these steps, the last of which is taken first
abbrev pub all_stepped : List Step → Pass → Pass
all_stepped [] p = p
all_stepped (s ∷ steps) p = stepped s (all_stepped steps p)

abbrev pub weight : Step → ℕ
weight (Visit roles is_open) = work roles.now
weight Leave = 1

abbrev pub weights : List Step → ℕ
weights [] = 0
weights (s ∷ steps) = weight s + weights steps
