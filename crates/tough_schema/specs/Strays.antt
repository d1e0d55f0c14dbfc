-- The listed names of which the way to their document doesn't tell that a search finds them: words of private clauses.
use Rattle.std.specs.Prelude.{List, [], ◌++◌, map, filter, Bool, true, ◌&&◌, not}
use Rattle.std.specs.Borrow.{Bor}
use Rattle.std.specs.List.{list_all}
use Rattle.tough_names.specs.Named.{Named}
use Rattle.tough_schema.specs.Tree.{Listing, Entry}
use Rattle.tough_schema.specs.Whole.{TreeDoc, tree, Branches, no_branches, unloaded, loaded, RoleTree, role_tree, put_branch}
use Rattle.tough_schema.specs.declared.delegations.DelegatedRole.{DelegatedRole}
use Rattle.tough_schema.specs.Search.{Names, add, matches}

-- which names may be listed in a document, as the roles above it say
abbrev pub Test : Type 0
Test = Named → Bool

abbrev pub any_name : Test
any_name name = true

-- a search comes to a role for a name that may be listed where it stands, if the role is the first of its name
abbrev pub narrowed : Names → Entry → Test → Test
narrowed seen e test name = not (seen e.name) && (matches name e && test name)

abbrev pub strays_of : Test → Listing → List Named
strays_of test l = filter (λ name. not (test name)) (map (λ e. e.0) l)

-- the names before, and those of the roles
abbrev mutual
  pub names_past : Names → Branches → Names
  names_past seen no_branches = seen
  names_past seen (unloaded e bs) = names_past (add e.name seen) bs
  names_past seen (loaded e n signatures t bs) = names_past (names_below (add e.name seen) t) bs

  pub names_below : Names → TreeDoc → Names
  names_below seen (tree o bs) = names_past seen bs

-- the listed names that don't pass the test of their document
abbrev mutual
  pub strays : Names → Test → Branches → List Named
  strays seen test no_branches = []
  strays seen test (unloaded e bs) = strays (add e.name seen) test bs
  strays seen test (loaded e n signatures t bs) = strays_below (add e.name seen) (narrowed seen e test) t ++ strays (names_below (add e.name seen) t) test bs

  pub strays_below : Names → Test → TreeDoc → List Named
  strays_below seen test (tree o bs) = strays_of test o.targets ++ strays seen test bs

-- one role with what is below it
abbrev pub names_at : Names → RoleTree → Names
names_at seen r = names_past seen (put_branch r no_branches)

abbrev pub strays_at : Names → Test → RoleTree → List Named
strays_at seen test r = strays seen test (put_branch r no_branches)

-- ---- as the code keeps them

-- the path sets of all roles match the name
abbrev pub all_match : List (Bor DelegatedRole) → Test
all_match above name = list_all (λ r. matches name (role_tree r.now).0) above

-- the way is open, and the path sets of all roles on it match
abbrev pub way : Bool → List (Bor DelegatedRole) → Test
way is_open above name = is_open && all_match above name

abbrev pub names_of : List (Bor Named) → List Named
names_of ns = map (λ n. n.now) ns
