-- Which entries a search for a name comes to, and what it finds (TUF specification 1.0, section 5.6.7).
use Rattle.std.specs.Prelude.{◌≡◌, ⊤, ℕ, zero, suc, List, [], ◌∷◌, filter, Bool, true, false, ◌||◌, ◌&&◌, not, nat_lt, min, if◌then◌else◌, Option, Some, None, option_map}
use Rattle.std.specs.List.{filter_map}
use Rattle.std.specs.Option.{option_or}
use Rattle.std.specs.Str.{bytes_eq}
use Rattle.std.specs.Map.{lookup}
use Rattle.std.specs.BTreeMap.{is_at}
use Rattle.tough_names.specs.Named.{Named, by_raw_then_resolved}
use Rattle.tough_schema.specs.Target.{TargetDoc}
use Rattle.tough_schema.specs.Matching.{paths_match}
use Rattle.tough_roles.specs.declared.error.Error.{Error}
use Rattle.tough_roles.specs.declared.error.Error.TheVariants as errors
use Rattle.tough_schema.specs.Tree.{Listing, Entry}
use Rattle.tough_schema.specs.Whole.{TreeDoc, listing_of}
use Rattle.tough_schema.specs.Preorder.{Occurrence, stop, preorder_below}

-- the entry's path set matches the resolved name
abbrev pub matches : Named → Entry → Bool
matches name e = paths_match name.resolved e.paths

-- A set of names, by its test.
abbrev pub Names : Type 0
Names = List ℕ → Bool

abbrev pub no_names : Names
no_names q = false

abbrev pub add : List ℕ → Names → Names
add n seen q = bytes_eq n q || seen q

abbrev pub is_new : Named → Names → Entry → Bool
is_new name seen e = matches name e && not (seen e.name)

-- The entries that are reached: the parent is, the paths match, and no earlier reached entry has the name.
-- `seen` are the names reached so far; the next `skip` entries are below one that is not reached.
abbrev pub reached_from : Named → ℕ → Names → List Occurrence → List Occurrence
reached_from name skip seen [] = []
reached_from name (suc skip) seen (o ∷ os) = reached_from name skip seen os
reached_from name zero seen (o ∷ os) =
    if is_new name seen o.role.0 then o ∷ reached_from name zero (add o.role.0.name seen) os else reached_from name o.below seen os

abbrev pub reached : Named → TreeDoc → List Occurrence
reached name t = reached_from name 0 no_names (preorder_below 0 t)

-- where the first subtree of a terminating entry ends
abbrev pub earlier : ℕ → Option ℕ → Option ℕ
earlier k None = Some k
earlier k (Some m) = Some (min k m)

abbrev pub first_end : List Occurrence → Option ℕ
first_end [] = None
first_end (o ∷ os) = if o.role.0.terminating then earlier (stop o) (first_end os) else first_end os

abbrev pub is_before : Option ℕ → Occurrence → Bool
is_before None o = true
is_before (Some k) o = nat_lt o.start k

-- The entries whose documents are searched: all that are reached, or, unless the search is permissive,
-- those before the first end of a terminating entry's subtree.
abbrev pub searched : Bool → List Occurrence → List Occurrence
searched true os = os
searched false os = filter (is_before (first_end os)) os

-- what the document lists under the name; a name's raw text says what it resolves to
abbrev pub listed : Named → Listing → Option TargetDoc
listed name l = lookup (is_at (by_raw_then_resolved name)) l

-- what the first of these documents that lists the name lists
abbrev pub first_listed : Named → List Listing → Option TargetDoc
first_listed name [] = None
first_listed name (l ∷ ls) = option_or (listed name l) (first_listed name ls)

-- what the role's document lists
abbrev pub listing_at : Occurrence → Option Listing
listing_at o = option_map (λ h. listing_of h.below) o.role.1

abbrev pub listings : List Occurrence → List Listing
listings os = filter_map listing_at os

abbrev pub search : Bool → Named → TreeDoc → Option TargetDoc
search permissive name t = first_listed name (listing_of t ∷ listings (searched permissive (reached name t)))

-- No document that the search comes to lists the name. Want of memory says nothing.
abbrev pub IsNotFound : Named → Option TargetDoc → Error → Type 0
IsNotFound asked answer (errors.TargetNotFound name) = (name ≡ asked) × (answer ≡ None)
IsNotFound asked answer errors.Memory = ⊤
IsNotFound asked answer _ = ⊥
