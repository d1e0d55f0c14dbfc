-- Documents with what their roles have (TUF specification 1.0, section 4.5).
use Rattle.std.specs.Prelude.{ℕ, suc, ◌==◌, List, map, Option, Some, None, is_some, if◌then◌else◌}
use Rattle.tough_roles.specs.declared.signed.Signed.{Signed}
use Rattle.tough_schema.specs.declared.targets.DelegatedTargets.{DelegatedTargets, out-DelegatedTargets}
use Rattle.tough_schema.specs.declared.delegations.DelegatedRole.{DelegatedRole}
use Rattle.tough_schema.specs.Tree.{Entry}
use Rattle.tough_schema.specs.Whole.{TreeDoc, tree, Branches, no_branches, unloaded, loaded, HeldDoc, put_branch, role_tree}
use Rattle.tough_schema.specs.Below.{roles_within}
use Rattle.tough_schema.specs.Update.{given}

-- the roles that a document lists
abbrev pub listed_in : Signed DelegatedTargets → List DelegatedRole
listed_in s = roles_within (out-DelegatedTargets s.signed).targets

abbrev pub entries_of : List DelegatedRole → List Entry
entries_of rs = map (λ r. (role_tree r).0) rs

-- the roles from this place on, each with what it has
abbrev pub dressed_from : (ℕ → Option HeldDoc) → ℕ → Branches → Branches
dressed_from has place no_branches = no_branches
dressed_from has place (unloaded e bs) = put_branch (given (e, None) (has place)) (dressed_from has (suc place) bs)
dressed_from has place (loaded e name signatures t bs) =
    put_branch (given (e, Some (record { name = name; signatures = signatures; below = t })) (has place)) (dressed_from has (suc place) bs)

abbrev pub dressed_tree : (ℕ → Option HeldDoc) → TreeDoc → TreeDoc
dressed_tree has (tree o bs) = tree o (if is_some o.keys then dressed_from has 0 bs else bs)

-- the document with what its roles have
abbrev pub dressed : (ℕ → Option HeldDoc) → HeldDoc → HeldDoc
dressed has h = record h { below = dressed_tree has h.below }

-- a document for one role
abbrev pub only : ℕ → HeldDoc → ℕ → Option HeldDoc
only at h place = if place == at then Some h else None
