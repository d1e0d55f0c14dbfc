-- The way to a role, and another document at its end: words of private clauses.
use Rattle.std.specs.Prelude.{◌≡◌, ⊤, ℕ, suc, ◌+◌, eqb, List, [], ◌∷◌, map, length, Bool, true, false, Option, Some, None, option_map, if◌then◌else◌}
use Rattle.std.specs.Borrow.{Bor}
use Rattle.std.specs.Option.{option_or}
use Rattle.std.specs.Str.{bytes_eq}
use Rattle.tough_schema.specs.Whole.{TreeDoc, tree, Branches, no_branches, unloaded, loaded, HeldDoc, RoleTree, put_branch, role_tree, role_branches}
use Rattle.tough_schema.specs.Below.{branches_in, work}
use Rattle.tough_schema.specs.declared.delegations.DelegatedRole.{DelegatedRole}

-- how many roles a list has; the place of a role is the number of those from it to the end
abbrev pub wide : Branches → ℕ
wide no_branches = 0
wide (unloaded e bs) = suc (wide bs)
wide (loaded e n signatures t bs) = suc (wide bs)

-- the list has such a place
abbrev pub has : ℕ → Branches → Bool
has p no_branches = false
has p (unloaded e bs) = if eqb p (suc (wide bs)) then true else has p bs
has p (loaded e n signatures t bs) = if eqb p (suc (wide bs)) then true else has p bs

-- the document of the role at a place
abbrev pub slot : ℕ → Branches → Option HeldDoc
slot p no_branches = None
slot p (unloaded e bs) = if eqb p (suc (wide bs)) then None else slot p bs
slot p (loaded e n signatures t bs) = if eqb p (suc (wide bs)) then Some (record { name = n; signatures = signatures; below = t }) else slot p bs

-- that role with another document, or without one
abbrev pub filled : ℕ → Option HeldDoc → Branches → Branches
filled p o no_branches = no_branches
filled p o (unloaded e bs) = if eqb p (suc (wide bs)) then put_branch (e, o) bs else unloaded e (filled p o bs)
filled p o (loaded e n signatures t bs) = if eqb p (suc (wide bs)) then put_branch (e, o) bs else loaded e n signatures t (filled p o bs)

-- the role at a place
abbrev pub role_on : ℕ → Branches → Option RoleTree
role_on p no_branches = None
role_on p (unloaded e bs) = if eqb p (suc (wide bs)) then Some (e, None) else role_on p bs
role_on p (loaded e n signatures t bs) = if eqb p (suc (wide bs)) then Some (e, Some (record { name = n; signatures = signatures; below = t })) else role_on p bs

abbrev pub slot_in : ℕ → TreeDoc → Option HeldDoc
slot_in p t = slot p (branches_in t)

abbrev pub filled_in : ℕ → Option HeldDoc → TreeDoc → TreeDoc
filled_in p o (tree d bs) = tree d (filled p o bs)

abbrev pub held_filled : ℕ → Option HeldDoc → HeldDoc → HeldDoc
held_filled p o h = record h { below = filled_in p o h.below }

-- ---- the way

-- the places on the way to the role that is sought by the name
abbrev mutual
  pub way : List ℕ → Branches → Option (List ℕ)
  way name no_branches = None
  way name (unloaded e bs) = if bytes_eq e.name name then Some (suc (wide bs) ∷ []) else None
  way name (loaded e n signatures t bs) =
      if bytes_eq e.name name then Some (suc (wide bs) ∷ []) else option_or (option_map (λ ps. suc (wide bs) ∷ ps) (way_in name t)) (way name bs)

  pub way_in : List ℕ → TreeDoc → Option (List ℕ)
  way_in name (tree o bs) = way name bs

-- the role at the end of a way, from a document, and from a role
abbrev pub role_after : List ℕ → (TreeDoc → Option RoleTree) → Option RoleTree → Option RoleTree
role_after [] next o = o
role_after (p ∷ ps) next None = None
role_after (p ∷ ps) next (Some (e, None)) = None
role_after (p ∷ ps) next (Some (e, Some d)) = next d.below

abbrev pub role_along : List ℕ → TreeDoc → Option RoleTree
role_along [] t = None
role_along (p ∷ ps) t = role_after ps (λ below. role_along ps below) (role_on p (branches_in t))

abbrev pub role_below : List ℕ → Option RoleTree → Option RoleTree
role_below ps o = role_after ps (λ below. role_along ps below) o

-- the way that is found in these roles, below the first ones of the lists that it came through, the last of them the nearest
abbrev pub rest_of : List DelegatedRole → List DelegatedRole
rest_of [] = []
rest_of (r ∷ rs) = rs

abbrev pub way_of : List ℕ → Option (Bor (List DelegatedRole)) → Option (List ℕ)
way_of name None = None
way_of name (Some l) = way name (role_branches l.now)

-- the first of these roles has the name
abbrev pub is_first : List ℕ → List DelegatedRole → Bool
is_first name [] = false
is_first name (r ∷ rs) = bytes_eq (role_tree r).0.name name

abbrev pub way_through : List ℕ → List (Bor (List DelegatedRole)) → Option (List ℕ) → Option (List ℕ)
way_through name [] o = o
way_through name (l ∷ ls) o = option_or (option_map (λ ps. length l.now ∷ ps) (way_through name ls o)) (way name (role_branches (rest_of l.now)))

abbrev pub places : List (Bor (List DelegatedRole)) → List ℕ
places ls = map (λ l. length l.now) ls

abbrev pub rest_work : List (Bor (List DelegatedRole)) → ℕ
rest_work [] = 0
rest_work (l ∷ ls) = work (rest_of l.now) + rest_work ls

-- ---- another document at the end of a way

abbrev pub held_along : List ℕ → HeldDoc → Option HeldDoc → Option HeldDoc
held_along [] h o = Some h
held_along (p ∷ ps) h None = None
held_along (p ∷ ps) h (Some d) = Some (held_filled p (held_along ps h (slot_in p d.below)) d)

abbrev pub along : List ℕ → HeldDoc → TreeDoc → TreeDoc
along [] h t = t
along (p ∷ ps) h t = filled_in p (held_along ps h (slot_in p t)) t

-- each place of the way is one of its list
abbrev pub IsOpen : List ℕ → Option HeldDoc → Type 0
IsOpen [] o = ⊤
IsOpen (p ∷ ps) None = ⊥
IsOpen (p ∷ ps) (Some d) = (has p (branches_in d.below) ≡ true) × IsOpen ps (slot_in p d.below)

abbrev pub IsOpenIn : List ℕ → TreeDoc → Type 0
IsOpenIn [] t = ⊤
IsOpenIn (p ∷ ps) t = (has p (branches_in t) ≡ true) × IsOpen ps (slot_in p t)

-- Documents that are turned around: each has, at the place of the one below it, the one above it. What they are with this
-- one below the last, turned back.
abbrev pub turned_back : List ℕ → Option HeldDoc → Option HeldDoc → Option HeldDoc
turned_back [] above here = here
turned_back (p ∷ ps) None here = None
turned_back (p ∷ ps) (Some a) here = turned_back ps (slot_in p a.below) (Some (held_filled p here a))
