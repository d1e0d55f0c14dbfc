-- The roles of a tree in preorder, each with the place at which its subtree ends.
use Rattle.std.specs.Prelude.{ℕ, ◌+◌, List, [], ◌∷◌, map, length, Option, Some, None}
use Rattle.tough_schema.specs.declared.nodes.Node.{Node}
use Rattle.tough_schema.specs.Whole.{HeldDoc, RoleTree, role_tree}
use Rattle.tough_schema.specs.Preorder.{Occurrence, stop, preorder_below}

-- a role, and the place at which its subtree ends
abbrev pub Span : Type 0
Span = RoleTree × ℕ

abbrev pub spans : List Occurrence → List Span
spans os = map (λ o. (o.role, stop o)) os

-- ---- words of private clauses

abbrev pub node_spans : List Node → List Span
node_spans ns = map (λ n. (role_tree n.role.now, n.end)) ns

-- what is below a role, from place k on
abbrev pub inside : ℕ → Option HeldDoc → List Occurrence
inside k None = []
inside k (Some h) = preorder_below k h.below

-- a role at place k, and what is below it
abbrev pub preorder_at : ℕ → RoleTree → List Occurrence
preorder_at k r = let below = inside (k + 1) r.1 in record { role = r; start = k; below = length below } ∷ below
