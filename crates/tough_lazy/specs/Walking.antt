-- The search without recursion: words of private clauses.
use Rattle.std.specs.Prelude.{◌≡◌, ⊤, ℕ, suc, ◌+◌, List, [], ◌∷◌, map, length, Option, Some, None, option_map}
use Rattle.tough_names.specs.Named.{Named}
use Rattle.tough_schema.specs.Below.{work}
use Rattle.tough_schema.specs.Delegations.{DelegationsDoc, delegations_doc}
use Rattle.tough_schema.specs.Putting.{wide}
use Rattle.tough_schema.specs.Search.{Names}
use Rattle.tough_schema.specs.Target.{target_doc}
use Rattle.tough_schema.specs.Whole.{Branches, RoleTree, role_tree, role_branches}
use Rattle.tough_lazy.specs.Course.{Need, Course, found, needs, past, onward, course, Sought, listed_so, needed, unlisted}
use Rattle.tough_lazy.specs.declared.walk.Entered.{Entered}
use Rattle.tough_lazy.specs.declared.walk.Inside.{Inside}
use Rattle.tough_lazy.specs.declared.walk.Inside.TheVariants as inside
use Rattle.tough_lazy.specs.declared.walk.Look.{Look}
use Rattle.tough_lazy.specs.declared.walk.Look.TheVariants as look
use Rattle.tough_lazy.specs.declared.walk.RoleList.{RoleList}
use Rattle.tough_lazy.specs.declared.walk.Sight.{Sight}
use Rattle.tough_lazy.specs.declared.walk.Sight.TheVariants as sight
use Rattle.tough_lazy.specs.declared.walk.Wanted.{Wanted}

abbrev pub branches_in_list : RoleList → Branches
branches_in_list l = role_branches l.roles.now

abbrev pub delegations_of : RoleList → Option DelegationsDoc
delegations_of l = option_map (λ g. delegations_doc g.now) l.delegations

-- what a search comes to in this list
abbrev pub course_on : Named → Names → RoleList → Course
course_on name seen l = course name seen (delegations_of l) (branches_in_list l)

abbrev pub course_maybe : Named → Names → Option RoleList → Course
course_maybe name seen None = past seen
course_maybe name seen (Some l) = course_on name seen l

-- what a search comes to that entered these roles, the last one below the others, and came so far below them
abbrev pub through : Named → List Entered → Course → Course
through name [] c = c
through name (e ∷ es) c = onward (suc (length e.rest.roles.now)) (role_tree e.role.now).0 (through name es c) (λ more. course_on name more e.rest)

abbrev pub places : List Entered → List ℕ
places es = map (λ e. suc (length e.rest.roles.now)) es

-- how many steps there may be behind these roles
abbrev pub steps_behind : List Entered → ℕ
steps_behind [] = 0
steps_behind (e ∷ es) = work e.rest.roles.now + steps_behind es

abbrev pub steps_on : Option RoleList → ℕ
steps_on None = 0
steps_on (Some l) = work l.roles.now

abbrev pub need_of : Wanted → Need
need_of w = record { way = w.way.items; delegations = option_map (λ g. delegations_doc g.now) w.delegations; entry = (role_tree w.role.now).0 }

abbrev pub look_doc : Look → Sought
look_doc (look.Found t) = listed_so (target_doc t.now)
look_doc (look.Wanted w) = needed (need_of w)
look_doc look.Missing = unlisted

-- what a search comes to in a document, where it has reached these names
abbrev pub course_inside : Named → Names → Inside → Course
course_inside name seen (inside.Lists t) = found (target_doc t.now)
course_inside name seen (inside.Roles l) = course_on name seen l

-- what a search comes to at a role of these delegations that was looked at, where it has reached these names, with these roles behind it
abbrev pub at_sight : Named → Names → Option DelegationsDoc → RoleTree → Sight → Branches → Course
at_sight name seen g r sight.Passed bs = course name seen g bs
at_sight name seen g r sight.Bare bs = needs (record { way = suc (wide bs) ∷ []; delegations = g; entry = r.0 })
at_sight name seen g r (sight.Into i) bs = onward (suc (wide bs)) r.0 (course_inside name seen i) (λ more. course name more g bs)

-- the roles in a document that doesn't list the name are these
abbrev pub HasRoles : Branches → Inside → Type 0
HasRoles bs (inside.Lists t) = ⊤
HasRoles bs (inside.Roles l) = branches_in_list l ≡ bs

-- the same of a role's document
abbrev pub ShowsRoles : Branches → Sight → Type 0
ShowsRoles bs sight.Passed = ⊤
ShowsRoles bs sight.Bare = ⊤
ShowsRoles bs (sight.Into i) = HasRoles bs i
