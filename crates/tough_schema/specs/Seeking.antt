-- What the steps of seeking a role answer: words of private clauses.
use Rattle.std.specs.Prelude.{ℕ, ◌+◌, List, [], ◌∷◌, ◌++◌, Option, Some, None, if◌then◌else◌}
use Rattle.std.specs.Borrow.{Bor}
use Rattle.std.specs.Str.{bytes_eq}
use Rattle.tough_schema.specs.declared.seek.Seen.{Seen}
use Rattle.tough_schema.specs.declared.seek.Seen.TheVariants.{Found, Missing, Undocumented}
use Rattle.tough_schema.specs.declared.seek.Level.{Level}
use Rattle.tough_schema.specs.declared.delegations.DelegatedRole.{DelegatedRole}
use Rattle.tough_schema.specs.Whole.{HeldDoc, RoleTree, DelegationsTree, role_tree, role_branches, delegations_tree}
use Rattle.tough_schema.specs.Seek.{Sought, found, missing, undocumented, if_found, or_next, seek, seek_in, standing, standing_in}
use Rattle.tough_schema.specs.Below.{work}

abbrev pub seen_of : Seen → Sought
seen_of (Found r) = found (role_tree r.now)
seen_of Missing = missing
seen_of Undocumented = undocumented

abbrev pub below_at : List ℕ → Option HeldDoc → Option Sought
below_at name None = Some undocumented
below_at name (Some h) = if_found (seek_in name h.below)

-- what a role answers, if the list isn't gone on with
abbrev pub step_at : List ℕ → RoleTree → Option Sought
step_at name r = if bytes_eq r.0.name name then Some (found r) else below_at name r.1

abbrev pub standing_below : Option HeldDoc → List (List ℕ × DelegationsTree)
standing_below None = []
standing_below (Some h) = standing_in h.below

-- a role, and what stands below it
abbrev pub standing_at : DelegationsTree → RoleTree → List (List ℕ × DelegationsTree)
standing_at all r = (r.0.name, all) ∷ standing_below r.1

-- ---- without recursion

-- what was found, or else what the search that goes on finds
abbrev pub seen_or : Option Seen → Sought → Sought
seen_or None s = s
seen_or (Some x) s = seen_of x

-- what is found by a search that goes on with these lists, the last one first, where the list above ended like this
abbrev pub sought_through : List ℕ → List (Bor (List DelegatedRole)) → Sought → Sought
sought_through name [] s = s
sought_through name (l ∷ ls) s = or_next (if_found (sought_through name ls s)) (seek name (role_branches l.now))

abbrev pub list_work : List (Bor (List DelegatedRole)) → ℕ
list_work [] = 0
list_work (l ∷ ls) = work l.now + list_work ls

-- each entry of these roles, and the delegations in which it stands
abbrev pub level_standing : Level → List (List ℕ × DelegationsTree)
level_standing l = standing (delegations_tree l.all.now) (role_branches l.roles.now)

-- those of all levels, the last one first
abbrev pub all_standing : List Level → List (List ℕ × DelegationsTree)
all_standing [] = []
all_standing (l ∷ ls) = all_standing ls ++ level_standing l

abbrev pub level_work : List Level → ℕ
level_work [] = 0
level_work (l ∷ ls) = work l.roles.now + level_work ls
