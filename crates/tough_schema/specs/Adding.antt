-- What is still to be added to numbered nodes: words of private clauses.
use Rattle.std.specs.Prelude.{ℕ, ◌+◌, List, [], ◌∷◌, ◌++◌, length, slice_set}
use Rattle.tough_schema.specs.declared.delegations.DelegatedRole.{DelegatedRole}
use Rattle.tough_schema.specs.declared.nodes.Step.{Step}
use Rattle.tough_schema.specs.declared.nodes.Step.TheVariants.{Add, Close}
use Rattle.tough_schema.specs.Whole.{role_tree, role_branches}
use Rattle.tough_schema.specs.Preorder.{preorder}
use Rattle.tough_schema.specs.Numbered.{Span, spans}
use Rattle.tough_schema.specs.Below.{work}

-- the nodes with these roles behind them
abbrev pub added : List DelegatedRole → List Span → List Span
added rs found = found ++ spans (preorder (length found) (role_branches rs))

-- the nodes after a step
abbrev pub stepped : Step → List Span → List Span
stepped (Add roles) found = added roles.now found
stepped (Close role at) found = slice_set found at (role_tree role.now, length found)

-- the nodes after these steps, the last of which is taken first
abbrev pub all_stepped : List Step → List Span → List Span
all_stepped [] found = found
all_stepped (s ∷ steps) found = stepped s (all_stepped steps found)

abbrev pub weight : Step → ℕ
weight (Add roles) = work roles.now
weight (Close role at) = 1

abbrev pub weights : List Step → ℕ
weights [] = 0
weights (s ∷ steps) = weight s + weights steps
