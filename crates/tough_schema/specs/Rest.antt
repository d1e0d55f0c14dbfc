-- What a search that has come so far still finds, and how many path sets it still compares: words of private clauses.
use Rattle.std.specs.Prelude.{◌<◌, ◌≤◌, ℕ, zero, suc, ◌+◌, min, List, [], ◌∷◌, length, Bool, nat_lt, if◌then◌else◌, Option, Some, None}
use Rattle.tough_schema.specs.declared.nodes.Course.{Course}
use Rattle.tough_schema.specs.declared.nodes.Sight.{Sight}
use Rattle.tough_schema.specs.declared.nodes.Sight.TheVariants.{Known, Other, Lists, Open}
use Rattle.tough_names.specs.Named.{Named}
use Rattle.tough_schema.specs.Tree.{Entry}
use Rattle.tough_schema.specs.Whole.{TreeDoc, RoleTree}
use Rattle.tough_schema.specs.Preorder.{Occurrence, stop, preorder_below}
use Rattle.tough_schema.specs.Search.{Names, no_names, add, matches}
use Rattle.tough_schema.specs.Visited.{ends}
use Rattle.tough_schema.specs.Found.{lists}

pub record Rest : Type 0 where
  pub node : Option ℕ
  pub tests : ℕ

abbrev pub nothing : Rest
nothing = record { node = None; tests = 0 }

abbrev pub counted : Rest → Rest
counted r = record { node = r.node; tests = r.tests + 1 }

-- what a role is to a search that has reached these names
abbrev pub sight : Named → Names → RoleTree → Sight
sight name seen r = if seen r.0.name then Known else (if matches name r.0 then (if lists name r then Lists else Open) else Other)

-- the names reached then
abbrev pub names_then : Sight → RoleTree → Names → Names
names_then Known r seen = seen
names_then Other r seen = seen
names_then Lists r seen = add r.0.name seen
names_then Open r seen = add r.0.name seen

-- where a search ends that has reached the role, whose subtree ends at k
abbrev pub end_then : Bool → Entry → ℕ → ℕ → ℕ
end_then permissive e k end = if ends permissive e then min end k else end

-- how far it has come then: past the subtree that ends at k, or into it
abbrev pub past_to : ℕ → ℕ → Course → Course
past_to k tests c = record { at = k; end = c.end; tests = tests }

abbrev pub into_from : Bool → Entry → ℕ → Course → Course
into_from permissive e k c = record { at = c.at + 1; end = end_then permissive e k c.end; tests = c.tests + 1 }

abbrev pub course_then : Bool → Sight → Entry → ℕ → Course → Course
course_then permissive Known e k c = past_to k c.tests c
course_then permissive Other e k c = past_to k (c.tests + 1) c
course_then permissive Lists e k c = into_from permissive e k c
course_then permissive Open e k c = into_from permissive e k c

-- what is found from the entry on: by the search past its subtree, or by the one into it
abbrev pub after : Sight → Occurrence → Rest → Rest → Rest
after Known o past into = past
after Other o past into = counted past
after Lists o past into = record { node = Some (o.start + 1); tests = 1 }
after Open o past into = counted into

-- the search that ends before the place `end`; the next `skip` entries are below one that is not reached
abbrev pub rest : Bool → Named → ℕ → ℕ → Names → List Occurrence → Rest
rest permissive name end skip seen [] = nothing
rest permissive name end (suc skip) seen (o ∷ os) = rest permissive name end skip seen os
rest permissive name end zero seen (o ∷ os) =
    if nat_lt o.start end
    then after (sight name seen o.role) o (rest permissive name end o.below seen os) (rest permissive name (end_then permissive o.role.0 (stop o) end) 0 (add o.role.0.name seen) os)
    else nothing

-- the whole search below the top document
abbrev pub whole : Bool → Named → TreeDoc → Rest
whole permissive name t = rest permissive name (length (preorder_below 0 t)) 0 no_names (preorder_below 0 t)

-- an entry is at hand, whose subtree ends at k
abbrev pub IsOn : Course → ℕ → Type 0
IsOn c k = (c.at < k) × (c.tests ≤ c.at)
