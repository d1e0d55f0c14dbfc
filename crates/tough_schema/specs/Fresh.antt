-- Documents as they are read: the document of a delegated role is no member of the role (TUF specification 1.0,
-- section 4.5), so none of the roles has one.
use Rattle.std.specs.Prelude.{◌≡◌, ℕ, List, [], ◌∷◌, ◌++◌, Option, Some, None}
use Rattle.std.specs.List.{AllByRecursion}
use Rattle.tough_schema.specs.declared.delegations.DelegatedRole.{DelegatedRole, out-DelegatedRole}
use Rattle.tough_schema.specs.declared.delegations.Delegations.{Delegations, out-Delegations}
use Rattle.tough_schema.specs.declared.targets.DelegatedTargets.{DelegatedTargets}
use Rattle.tough_schema.specs.declared.targets.Targets.{Targets}
use Rattle.tough_schema.specs.Whole.{TreeDoc, tree, Branches, no_branches, unloaded, loaded, tree_doc, named_tree}

-- the names of the roles that have a document, in preorder
abbrev mutual
  pub carriers : Branches → List (List ℕ)
  carriers no_branches = []
  carriers (unloaded e bs) = carriers bs
  carriers (loaded e name signatures t bs) = e.name ∷ (carriers_below t ++ carriers bs)

  pub carriers_below : TreeDoc → List (List ℕ)
  carriers_below (tree o bs) = carriers bs

-- no role has a document
abbrev pub IsUnloaded : TreeDoc → Type 0
IsUnloaded t = carriers_below t ≡ []

abbrev pub IsFresh : Targets → Type 0
IsFresh x = IsUnloaded (tree_doc x)

-- nor has the document the name of its role
abbrev pub IsFreshDelegated : DelegatedTargets → Type 0
IsFreshDelegated x = IsUnloaded (named_tree x).1 × ((named_tree x).0 ≡ [])

-- ---- words of private clauses

abbrev pub HasNoDocument : DelegatedRole → Type 0
HasNoDocument r = (out-DelegatedRole r).targets ≡ None

abbrev pub AreUnloaded : List DelegatedRole → Type 0
AreUnloaded rs = AllByRecursion HasNoDocument rs

abbrev pub DelegateUnloaded : Delegations → Type 0
DelegateUnloaded g = AreUnloaded (out-Delegations g).roles.items

abbrev pub MayDelegateUnloaded : Option Delegations → Type 0
MayDelegateUnloaded None = Unit {0}
MayDelegateUnloaded (Some g) = DelegateUnloaded g
