-- Roles of two lists, one list after the other.
use Rattle.std.proofs.Common.{◌≡◌, List, [], ◌∷◌, ◌++◌, Some, None, refl, ap}
use Rattle.tough_schema.specs.Whole.{unloaded, loaded, RoleTree, branches_from}
use Rattle.tough_schema.specs.Joining.{and_then_branches}

pub branches_from-append : (xs ys : List RoleTree) → branches_from (xs ++ ys) ≡ and_then_branches (branches_from xs) (branches_from ys)
branches_from-append [] ys = refl
branches_from-append ((e, None) ∷ xs) ys = ap (unloaded e) (branches_from-append xs ys)
branches_from-append ((e, Some h) ∷ xs) ys = ap (loaded e h.name h.signatures h.below) (branches_from-append xs ys)
