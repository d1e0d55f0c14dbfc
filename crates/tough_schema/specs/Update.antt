-- The documents of roles that are taken over from an older tree (TUF specification 1.0, section 4.5).
use Rattle.std.specs.Prelude.{ℕ, List, [], ◌∷◌, ◌++◌, map, Option, Some, None, is_none, if◌then◌else◌}
use Rattle.tough_schema.specs.Tree.{Entry}
use Rattle.tough_schema.specs.Whole.{TreeDoc, tree, Branches, no_branches, unloaded, loaded, HeldDoc, RoleTree, put_branch, entries_in}
use Rattle.tough_schema.specs.Seek.{seek_in, document_of}

-- the document of the role that is sought by the name, if it has one
abbrev pub document_sought : List ℕ → TreeDoc → Option HeldDoc
document_sought name old = document_of (seek_in name old)

-- the role with that document, or else as it is
abbrev pub given : RoleTree → Option HeldDoc → RoleTree
given r None = r
given r (Some h) = (r.0, Some h)

-- each role of the list with the document that the old tree has for its name, where there is one
abbrev pub updated_in : TreeDoc → Branches → Branches
updated_in old no_branches = no_branches
updated_in old (unloaded e bs) = put_branch (given (e, None) (document_sought e.name old)) (updated_in old bs)
updated_in old (loaded e n signatures t bs) =
    put_branch (given (e, Some (record { name = n; signatures = signatures; below = t })) (document_sought e.name old)) (updated_in old bs)

-- the same of the new document's list; all else as it is
abbrev pub updated : TreeDoc → TreeDoc → TreeDoc
updated old (tree o bs) = tree o (updated_in old bs)

abbrev pub listed_roles : TreeDoc → List Entry
listed_roles (tree o bs) = entries_in bs

abbrev pub needed_at : TreeDoc → Entry → List (List ℕ)
needed_at old e = if is_none (document_sought e.name old) then e.name ∷ [] else []

-- the names of the roles for which the old tree has none
abbrev pub needed : TreeDoc → List Entry → List (List ℕ)
needed old [] = []
needed old (e ∷ es) = needed_at old e ++ needed old es

-- ---- words of private clauses

abbrev pub documents_for : TreeDoc → List RoleTree → List (Option HeldDoc)
documents_for old rs = map (λ r. document_sought r.0.name old) rs

abbrev pub all_given : List RoleTree → List (Option HeldDoc) → List RoleTree
all_given [] hs = []
all_given (r ∷ rs) [] = r ∷ all_given rs []
all_given (r ∷ rs) (h ∷ hs) = given r h ∷ all_given rs hs

-- each role of a list with the document at its place, if there is one
abbrev pub all_with : List (Option HeldDoc) → Branches → Branches
all_with [] bs = bs
all_with (h ∷ hs) no_branches = no_branches
all_with (h ∷ hs) (unloaded e bs) = put_branch (given (e, None) h) (all_with hs bs)
all_with (h ∷ hs) (loaded e n signatures t bs) = put_branch (given (e, Some (record { name = n; signatures = signatures; below = t })) h) (all_with hs bs)

abbrev pub with_documents : List (Option HeldDoc) → TreeDoc → TreeDoc
with_documents hs (tree o bs) = tree o (all_with hs bs)
