-- The document that a search for a name ends at, by its number, and the roles whose path sets it compares with the name
-- (TUF specification 1.0, section 5.6.7).
use Rattle.std.specs.Prelude.{◌≡◌, ◌↔◌, ℕ, zero, suc, ◌+◌, List, [], ◌∷◌, filter, slice_get, Bool, true, false, if◌then◌else◌, Option, Some, None, is_some, option_map, option_and_then}
use Rattle.std.specs.Option.{option_or}
use Rattle.tough_names.specs.Named.{Named}
use Rattle.tough_schema.specs.Target.{TargetDoc}
use Rattle.tough_schema.specs.Tree.{Listing}
use Rattle.tough_schema.specs.Whole.{TreeDoc, HeldDoc, RoleTree, listing_of}
use Rattle.tough_schema.specs.Preorder.{Occurrence, preorder_below}
use Rattle.tough_schema.specs.Numbered.{Span, spans}
use Rattle.tough_schema.specs.Search.{Names, no_names, add, matches, reached, first_end, is_before, searched, listed, search}

abbrev pub lists_in : Named → Option Listing → Bool
lists_in name None = false
lists_in name (Some l) = is_some (listed name l)

-- the role has a document, and that lists the name
abbrev pub lists : Named → RoleTree → Bool
lists name r = lists_in name (option_map (λ h. listing_of h.below) r.1)

-- the number of the first document of these roles that lists the name
abbrev pub first_number : Named → List Occurrence → Option ℕ
first_number name [] = None
first_number name (o ∷ os) = if lists name o.role then Some (o.start + 1) else first_number name os

-- The number of the document that the search ends at: 0 is the top one's, and that of the role at place k is k + 1.
abbrev pub found_at : Bool → Named → TreeDoc → Option ℕ
found_at permissive name t = if is_some (listed name (listing_of t)) then Some 0 else first_number name (searched permissive (reached name t))

-- the role's document
abbrev pub document_of : RoleTree → Option TreeDoc
document_of r = option_map (λ (h : HeldDoc). h.below) r.1

-- the document of the number, among a document and roles
abbrev pub document_in : ℕ → TreeDoc × List Span → Option TreeDoc
document_in zero n = Some n.0
document_in (suc k) n = option_and_then (λ (s : Span). document_of s.0) (slice_get n.1 k)

-- what it lists under the name
abbrev pub listed_in : ℕ → Named → TreeDoc × List Span → Option TargetDoc
listed_in k name n = option_and_then (λ d. listed name (listing_of d)) (document_in k n)

-- what the document of the number lists in a tree
abbrev pub listed_at : ℕ → Named → TreeDoc → Option TargetDoc
listed_at k name t = listed_in k name (t, spans (preorder_below 0 t))

-- The entries whose parent is reached, and whose name no earlier reached entry has.
-- `seen` are the names reached so far; the next `skip` entries are below one that is not reached.
abbrev pub compared_from : Named → ℕ → Names → List Occurrence → List Occurrence
compared_from name skip seen [] = []
compared_from name (suc skip) seen (o ∷ os) = compared_from name skip seen os
compared_from name zero seen (o ∷ os) =
    if seen o.role.0.name then compared_from name o.below seen os
    else o ∷ (if matches name o.role.0 then compared_from name 0 (add o.role.0.name seen) os else compared_from name o.below seen os)

abbrev pub compared : Named → TreeDoc → List Occurrence
compared name t = compared_from name 0 no_names (preorder_below 0 t)

-- where a search ends that finds nothing
abbrev pub last_end : Bool → List Occurrence → Option ℕ
last_end true os = None
last_end false os = first_end os

-- the place before which all entries stand that the search comes to: behind the one whose document it ends at
abbrev pub end_of_search : Bool → Named → TreeDoc → Option ℕ
end_of_search permissive name t = option_or (found_at permissive name t) (last_end permissive (reached name t))

-- the entries whose path sets the search compares with the name
abbrev pub tested : Bool → Named → TreeDoc → List Occurrence
tested permissive name t = filter (is_before (end_of_search permissive name t)) (compared name t)

-- The search finds what the document of the number lists, and nothing where there is no number.
pub record FindsByNumber (permissive : Bool) (name : Named) (t : TreeDoc) : Type 0 where
  pub found : (k : ℕ) → found_at permissive name t ≡ Some k → search permissive name t ≡ listed_at k name t
  pub missing : (found_at permissive name t ≡ None) ↔ (search permissive name t ≡ None)
