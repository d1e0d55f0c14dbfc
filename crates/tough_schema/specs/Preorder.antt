-- The roles of a tree in preorder, each at its place (TUF specification 1.0, section 4.5).
use Rattle.std.specs.Prelude.{ℕ, ◌+◌, List, [], ◌∷◌, ◌++◌, length, Some, None}
use Rattle.tough_schema.specs.Whole.{TreeDoc, tree, Branches, no_branches, unloaded, loaded, RoleTree}

-- A role at its place, with how many roles are below it. Those stand directly after it.
pub record Occurrence : Type 0 where
  pub role : RoleTree
  pub start : ℕ
  pub below : ℕ

-- the place at which its subtree ends
abbrev pub stop : Occurrence → ℕ
stop o = o.start + 1 + o.below

-- the roles in preorder, where the first has the place k
abbrev mutual
  pub preorder : ℕ → Branches → List Occurrence
  preorder k no_branches = []
  preorder k (unloaded e bs) = record { role = (e, None); start = k; below = 0 } ∷ preorder (k + 1) bs
  preorder k (loaded e name signatures t bs) =
      let inside = preorder_below (k + 1) t in
      record { role = (e, Some (record { name = name; signatures = signatures; below = t })); start = k; below = length inside } ∷ (inside ++ preorder (k + 1 + length inside) bs)

  pub preorder_below : ℕ → TreeDoc → List Occurrence
  preorder_below k (tree o bs) = preorder k bs
