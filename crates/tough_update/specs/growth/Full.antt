-- Trees all of whose roles have their documents, and the order in which these are fetched (TUF specification 1.0, section 5.6.7).
use Rattle.std.specs.Prelude.{◌≡◌, ⊤, ℕ, List, [], ◌∷◌, ◌++◌}
use Rattle.tough_schema.specs.Whole.{TreeDoc, tree, Branches, no_branches, unloaded, loaded}

-- each role has a document, under its own name
abbrev mutual
  pub AreFull : Branches → Type 0
  AreFull no_branches = ⊤
  AreFull (unloaded e bs) = ⊥
  AreFull (loaded e name signatures t bs) = (name ≡ e.name) × IsFull t × AreFull bs

  pub IsFull : TreeDoc → Type 0
  IsFull (tree o bs) = AreFull bs

-- the names of a document's own roles
abbrev pub names_of : Branches → List (List ℕ)
names_of no_branches = []
names_of (unloaded e bs) = e.name ∷ names_of bs
names_of (loaded e name signatures t bs) = e.name ∷ names_of bs

-- the names of all roles, as their documents are fetched: those of a document's own roles, and then, one role after another, those below it
abbrev mutual
  pub fetch_order : TreeDoc → List (List ℕ)
  fetch_order (tree o bs) = names_of bs ++ inner_order bs

  pub inner_order : Branches → List (List ℕ)
  inner_order no_branches = []
  inner_order (unloaded e bs) = inner_order bs
  inner_order (loaded e name signatures t bs) = fetch_order t ++ inner_order bs
