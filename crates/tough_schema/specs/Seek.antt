-- Delegated roles by name: list by list, and the delegations that an entry stands in (TUF specification 1.0, section
-- 4.5).
use Rattle.std.specs.Prelude.{◌≡◌, ⊤, ℕ, List, [], ◌∷◌, ◌++◌, Option, Some, None, option_and_then, if◌then◌else◌, string_bytes}
use Rattle.std.specs.Str.{bytes_eq}
use Rattle.std.specs.Map.{lookup}
use Rattle.tough_decoded.specs.Spelled.{Spelled}
use Rattle.tough_keys.specs.Key.{KeyDoc}
use Rattle.tough_roles.specs.declared.error.Error.{Error}
use Rattle.tough_roles.specs.declared.error.Error.TheVariants as errors
use Rattle.tough_schema.specs.Whole.{TreeDoc, tree, Branches, no_branches, unloaded, loaded, HeldDoc, RoleTree, DelegationsTree}

-- ---- the role of a name

pub data Sought : Type 0 where
  found : RoleTree → Sought
  missing : Sought
  undocumented : Sought
  undelegated : Sought

-- what was found below goes on where it is no role
abbrev pub if_found : Sought → Option Sought
if_found (found r) = Some (found r)
if_found _ = None

abbrev pub or_next : Option Sought → Sought → Sought
or_next (Some s) next = s
or_next None next = next

-- The roles of a list are taken in order. One of the name is the answer, else the role that is found below it. One of
-- another name that has no document ends the search.
abbrev mutual
  pub seek : List ℕ → Branches → Sought
  seek name no_branches = missing
  seek name (unloaded e bs) = if bytes_eq e.name name then found (e, None) else undocumented
  seek name (loaded e n signatures t bs) =
      if bytes_eq e.name name then found (e, Some (record { name = n; signatures = signatures; below = t }))
      else or_next (if_found (seek_in name t)) (seek name bs)

  pub seek_in : List ℕ → TreeDoc → Sought
  seek_in name (tree o bs) = seek name bs

abbrev pub if_delegated : {A : Type 0} → Option A → Sought → Sought
if_delegated None s = undelegated
if_delegated (Some a) s = s

abbrev pub sought : List ℕ → TreeDoc → Sought
sought name (tree o bs) = if_delegated o.keys (seek name bs)

-- the role that was found
abbrev pub role_of : Sought → Option RoleTree
role_of (found r) = Some r
role_of _ = None

-- the document of that role, if it has one
abbrev pub document_of : Sought → Option HeldDoc
document_of s = option_and_then (λ r. r.1) (role_of s)

-- why there is no role of the name; want of memory says nothing
abbrev pub IsUnsought : List ℕ → Sought → Error → Type 0
IsUnsought name s (errors.RoleNotFound role) = (string_bytes role ≡ name) × (s ≡ missing)
IsUnsought name s errors.NoTargets = s ≡ undocumented
IsUnsought name s errors.NoDelegations = s ≡ undelegated
IsUnsought name s errors.Memory = ⊤
IsUnsought name s _ = ⊥

-- the search ends at a role without a document
abbrev pub HasNone : Sought → Type 0
HasNone (found r) = r.1 ≡ None
HasNone undocumented = ⊤
HasNone _ = ⊥

-- why there is no document of a role of the name; want of memory says nothing
abbrev pub IsUnheld : List ℕ → Sought → Error → Type 0
IsUnheld name s (errors.RoleNotFound role) = (string_bytes role ≡ name) × (s ≡ missing)
IsUnheld name s errors.NoTargets = HasNone s
IsUnheld name s errors.NoDelegations = s ≡ undelegated
IsUnheld name s errors.Memory = ⊤
IsUnheld name s _ = ⊥

-- ---- where an entry stands

-- no keys where there are no delegations
abbrev pub keys_or_none : Option (List (Spelled × KeyDoc)) → List (Spelled × KeyDoc)
keys_or_none None = []
keys_or_none (Some ks) = ks

-- each entry's name, in preorder, and the delegations in which it stands
abbrev mutual
  pub standing : DelegationsTree → Branches → List (List ℕ × DelegationsTree)
  standing all no_branches = []
  standing all (unloaded e bs) = (e.name, all) ∷ standing all bs
  standing all (loaded e n signatures t bs) = (e.name, all) ∷ (standing_in t ++ standing all bs)

  pub standing_in : TreeDoc → List (List ℕ × DelegationsTree)
  standing_in (tree o bs) = standing (keys_or_none o.keys, bs) bs

abbrev pub first_named : List ℕ → List (List ℕ × DelegationsTree) → Option DelegationsTree
first_named name ps = lookup (λ n. bytes_eq n name) ps

-- the delegations in which the first entry of the name stands
abbrev pub parent : List ℕ → TreeDoc → Option DelegationsTree
parent name t = first_named name (standing_in t)

abbrev pub IsOrphan : List ℕ → Option DelegationsTree → Error → Type 0
IsOrphan name o (errors.RoleNotFound role) = (string_bytes role ≡ name) × (o ≡ None)
IsOrphan name o errors.Memory = ⊤
IsOrphan name o _ = ⊥
