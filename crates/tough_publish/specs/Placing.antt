-- A document is put in the place of the first role of a name, of those that a document lists itself (TUF specification 1.0, section 4.5).
use Rattle.std.specs.Prelude.{ℕ, List, [], ◌∷◌, Bool, true, false, Option, Some, None, if◌then◌else◌}
use Rattle.std.specs.Str.{bytes_eq}
use Rattle.tough_schema.specs.Whole.{TreeDoc, tree, Branches, no_branches, unloaded, loaded, HeldDoc, RoleTree, put_branch}

-- the first role of the name has the document; all else is as it was
abbrev pub with_first : List ℕ → HeldDoc → Branches → Branches
with_first name h no_branches = no_branches
with_first name h (unloaded e bs) = if bytes_eq e.name name then put_branch (e, Some h) bs else unloaded e (with_first name h bs)
with_first name h (loaded e n ss t bs) = if bytes_eq e.name name then put_branch (e, Some h) bs else loaded e n ss t (with_first name h bs)

abbrev pub with_first_in : List ℕ → HeldDoc → TreeDoc → TreeDoc
with_first_in name h (tree o bs) = tree o (with_first name h bs)

-- ---- words of private clauses

abbrev pub at_match : Bool → RoleTree → HeldDoc → RoleTree × Option HeldDoc
at_match true r h = ((r.0, Some h), None)
at_match false r h = (r, Some h)

-- a role, and the document if it has no place yet
abbrev pub first_at : List ℕ → HeldDoc → RoleTree → RoleTree × Option HeldDoc
first_at name h r = at_match (bytes_eq r.0.name name) r h

abbrev pub first_next : List ℕ → Option HeldDoc → RoleTree → RoleTree × Option HeldDoc
first_next name None r = (r, None)
first_next name (Some h) r = first_at name h r

-- the same of the roles of a list
abbrev pub all_first : List ℕ → Option HeldDoc → List RoleTree → List RoleTree
all_first name o [] = []
all_first name o (r ∷ rs) = (first_next name o r).0 ∷ all_first name (first_next name o r).1 rs
