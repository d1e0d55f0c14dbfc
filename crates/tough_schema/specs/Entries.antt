-- The roles of a tree in preorder, and what the documents of the tree list (TUF specification 1.0, section 4.5).
use Rattle.std.specs.Prelude.{◌≡◌, ⊤, ℕ, List, [], ◌∷◌, ◌++◌, map, Option, Some, None, is_some, Bool, true, not}
use Rattle.std.specs.List.{AllByRecursion, filter_map, find}
use Rattle.std.specs.BTreeMap.{insert_entry}
use Rattle.tough_names.specs.Named.{Named, by_raw_then_resolved}
use Rattle.tough_roles.specs.declared.error.Error.{Error}
use Rattle.tough_roles.specs.declared.error.Error.TheVariants as errors
use Rattle.tough_schema.specs.Tree.{Listing}
use Rattle.tough_schema.specs.Whole.{TreeDoc, HeldDoc, RoleTree, listing_of}
use Rattle.tough_schema.specs.Preorder.{preorder_below}
use Rattle.tough_schema.specs.Search.{search}

-- each role, with its document if it has one
abbrev pub entries : TreeDoc → List RoleTree
entries t = map (λ o. o.role) (preorder_below 0 t)

-- the names of the roles
abbrev pub entry_names : TreeDoc → List (List ℕ)
entry_names t = map (λ r. r.0.name) (entries t)

-- the documents of these roles
abbrev pub documents_of : List RoleTree → List HeldDoc
documents_of rs = filter_map (λ r. r.1) rs

abbrev pub documents_below : TreeDoc → List HeldDoc
documents_below t = documents_of (entries t)

abbrev pub listed_of : Option HeldDoc → Listing
listed_of None = []
listed_of (Some h) = listing_of h.below

-- what the roles' documents list, one after another
abbrev pub listed_in : List RoleTree → Listing
listed_in [] = []
listed_in (r ∷ rs) = listed_of r.1 ++ listed_in rs

-- what the documents list: the top one before all, then those of the roles
abbrev pub all_listed : TreeDoc → Listing
all_listed t = listing_of t ++ listed_in (entries t)

-- a later listing takes the place of an earlier one
abbrev pub merged_into : Listing → Listing → Listing
merged_into found [] = found
merged_into found (e ∷ es) = merged_into (insert_entry by_raw_then_resolved found e.0 e.1) es

-- the listed names, in this order
abbrev pub listed_names : TreeDoc → List Named
listed_names t = map (λ e. e.0) (all_listed t)

-- the permissive search finds the name
abbrev pub is_found : TreeDoc → Named → Bool
is_found t name = is_some (search true name t)

-- each listed name is found
abbrev pub IsValid : TreeDoc → Type 0
IsValid t = AllByRecursion (λ name. is_found t name ≡ true) (listed_names t)

-- the first listed name that isn't found
abbrev pub first_missing : TreeDoc → Option Named
first_missing t = find (λ name. not (is_found t name)) (listed_names t)

-- Why a tree isn't valid. Want of memory says nothing.
abbrev pub IsInvalid : TreeDoc → Error → Type 0
IsInvalid t (errors.TargetNotFound name) = first_missing t ≡ Some name
IsInvalid t errors.Memory = ⊤
IsInvalid t _ = ⊥
