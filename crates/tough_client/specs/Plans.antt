-- What a cache consists of, in its order.
use Rattle.std.specs.Prelude.{◌≡◌, ℕ, ◌+◌, zero, suc, Bool, true, false, List, [], ◌∷◌, ◌++◌, map, Option, Some, None, bytes_eq, string_bytes, if◌then◌else◌, ⊤}
use Rattle.std.specs.Map.{keys_of}
use Rattle.tough_schema.specs.Entries.{all_listed, entry_names, merged_into}
use Rattle.tough_schema.specs.Whole.{TreeDoc}
use Rattle.tough_update.specs.Stages.{LoadedDoc, ReceivedDoc}
use Rattle.tough_client.specs.declared.plan.Plan.{Plan}
use Rattle.tough_client.specs.declared.plan.Served.TheVariants as served
use Rattle.tough_client.specs.declared.plan.Turn.{Turn}
use Rattle.tough_client.specs.declared.plan.Turn.TheVariants as turn

-- the roots from a version down to the first; none from 0 on
abbrev pub roots_down : ℕ → List Turn
roots_down zero = []
roots_down (suc n) = turn.File (served.Root (suc n)) ∷ roots_down n

-- the turns before the roots
abbrev pub turns_in : Plan → List Turn
turns_in p = p.turns.items

-- the version that the roots begin with
abbrev pub roots_in : Plan → ℕ
roots_in p = p.roots

-- all that is yet to be cached
abbrev pub left_in : Plan → List Turn
left_in p = turns_in p ++ roots_down (roots_in p)

-- the files of metadata that each repository has
abbrev pub files_first : List Turn
files_first = turn.File served.Snapshot ∷ turn.File served.Targets ∷ turn.File served.Timestamp ∷ []

-- where the document of a role stands among those that were received; of two of one role the later counts
abbrev pub place_from : ℕ → List ReceivedDoc → List ℕ → Option ℕ → Option ℕ
place_from place [] name found = found
place_from place (d ∷ ds) name found = place_from (place + 1) ds name (if bytes_eq d.0 name then Some place else found)

abbrev pub last_place : List ReceivedDoc → List ℕ → Option ℕ
last_place received name = place_from 0 received name None

abbrev pub with_role : Option ℕ → List Turn → List Turn
with_role None turns = turns
with_role (Some place) turns = turn.Role place ∷ turns

-- the documents of the roles of these names, as far as they were received
abbrev pub role_turns : List ReceivedDoc → List (List ℕ) → List Turn
role_turns received [] = []
role_turns received (name ∷ names) = with_role (last_place received name) (role_turns received names)

-- the metadata but for the root chain: that of each repository, and then the documents of delegated roles in preorder
abbrev pub metadata_turns : LoadedDoc → List Turn
metadata_turns l = files_first ++ role_turns l.received (entry_names l.targets.role)

-- all targets that are listed, in the order of their names
abbrev pub listed_turns : TreeDoc → List Turn
listed_turns t = map turn.Target (keys_of (merged_into [] (all_listed t)))

-- the version that the root chain begins with, where it is asked for
abbrev pub first_root : Bool → LoadedDoc → ℕ
first_root true l = l.known.root.role.head.version
first_root false l = 0

-- these texts, one a turn
abbrev pub AreNamed : List (List ℕ) → List Turn → Type 0
AreNamed [] [] = ⊤
AreNamed (text ∷ texts) (turn.Named t ∷ turns) = (string_bytes t ≡ text) × AreNamed texts turns
AreNamed _ _ = ⊥

abbrev pub AddsNamed : List (List ℕ) → List Turn → List Turn → Type 0
AddsNamed texts old new = (turns : List Turn) × AreNamed texts turns × (new ≡ old ++ turns)

-- the subset where one is given, else all that are listed
abbrev pub AddsTargets : TreeDoc → Option (List (List ℕ)) → List Turn → List Turn → Type 0
AddsTargets t None old new = new ≡ old ++ listed_turns t
AddsTargets t (Some texts) old new = AddsNamed texts old new
