-- The roles as they are gathered: words of private clauses.
use Rattle.std.specs.Prelude.{List, [], ◌∷◌, map, Option, Some, None}
use Rattle.std.specs.Borrow.{Bor}
use Rattle.tough_names.specs.Named.{Named}
use Rattle.tough_schema.specs.declared.delegations.DelegatedRole.{DelegatedRole}
use Rattle.tough_schema.specs.declared.target.Target.{Target}
use Rattle.tough_schema.specs.Target.{target_doc}
use Rattle.tough_schema.specs.Tree.{Listing}
use Rattle.tough_schema.specs.Whole.{Branches, HeldDoc, RoleTree, role_tree}
use Rattle.tough_schema.specs.Preorder.{preorder}
use Rattle.tough_schema.specs.Entries.{entries}

abbrev pub roles_in : Branches → List RoleTree
roles_in bs = map (λ o. o.role) (preorder 0 bs)

abbrev pub roles_under : Option HeldDoc → List RoleTree
roles_under None = []
roles_under (Some h) = entries h.below

-- a role, and those below it
abbrev pub gathered : RoleTree → List RoleTree
gathered r = r ∷ roles_under r.1

abbrev pub shown : List (Bor DelegatedRole) → List RoleTree
shown rs = map (λ r. role_tree r.now) rs

abbrev pub listed_docs : List (Bor Named × Bor Target) → Listing
listed_docs es = map (λ e. (e.0.now, target_doc e.1.now)) es

abbrev pub map_docs : List (Named × Bor Target) → Listing
map_docs es = map (λ e. (e.0, target_doc e.1.now)) es
