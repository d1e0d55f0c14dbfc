-- The roles below a document, and below a role: words of private clauses.
use Rattle.std.specs.Prelude.{ℕ, ◌+◌, ◌*◌, List, [], Option, Some, None}
use Rattle.tough_schema.specs.Whole.{TreeDoc, tree, Branches, no_branches, unloaded, loaded, HeldDoc, role_branches}
use Rattle.tough_roles.specs.declared.signed.Signed.{Signed}
use Rattle.tough_schema.specs.declared.delegations.DelegatedRole.{DelegatedRole, out-DelegatedRole}
use Rattle.tough_schema.specs.declared.delegations.Delegations.{Delegations, out-Delegations}
use Rattle.tough_schema.specs.declared.targets.DelegatedTargets.{DelegatedTargets, out-DelegatedTargets}
use Rattle.tough_schema.specs.declared.targets.Targets.{Targets, out-Targets}

abbrev pub branches_in : TreeDoc → Branches
branches_in (tree o bs) = bs

abbrev pub branches_under : Option HeldDoc → Branches
branches_under None = no_branches
branches_under (Some h) = branches_in h.below

abbrev pub roles_at : Option Delegations → List DelegatedRole
roles_at None = []
roles_at (Some g) = (out-Delegations g).roles.items

abbrev pub roles_within : Targets → List DelegatedRole
roles_within t = roles_at (out-Targets t).delegations

abbrev pub roles_held : Option (Signed DelegatedTargets) → List DelegatedRole
roles_held None = []
roles_held (Some s) = roles_within (out-DelegatedTargets s.signed).targets

abbrev pub roles_beneath : DelegatedRole → List DelegatedRole
roles_beneath r = roles_held (out-DelegatedRole r).targets

-- how many roles there are, with all below them
abbrev mutual
  pub count : Branches → ℕ
  count no_branches = 0
  count (unloaded e bs) = 1 + count bs
  count (loaded e n signatures t bs) = 1 + (count_in t + count bs)

  pub count_in : TreeDoc → ℕ
  count_in (tree o bs) = count bs

-- how many steps there may be for roles
abbrev pub work : List DelegatedRole → ℕ
work rs = 1 + 3 * count (role_branches rs)
