-- Documents that were read have no documents below them.
use Rattle.std.proofs.Common.{◌≡◌, List, [], ◌∷◌, ◌++◌, map, Option, Some, None, option_map, string_bytes, refl, ap, ◌∙◌}
use Rattle.tough_schema.specs.declared.delegations.DelegatedRole.{DelegatedRole, out-DelegatedRole}
use Rattle.tough_schema.specs.declared.delegations.Delegations.{Delegations, out-Delegations}
use Rattle.tough_schema.specs.declared.targets.DelegatedTargets.{DelegatedTargets, roll-DelegatedTargets}
use Rattle.tough_schema.specs.declared.targets.Targets.{Targets, roll-Targets}
use Rattle.tough_schema.specs.declared.delegations.DelegatedRole.TheOpen.{DelegatedTargets-F}
use Rattle.tough_schema.specs.Delegations.{delegated_role_doc}
use Rattle.tough_schema.specs.Whole.{Branches, HeldDoc, RoleTree, NamedTree, DelegationsTree, put_branch, branches_from, branches_of, delegations_tree, role_tree, held_doc}
use Rattle.tough_schema.specs.Fresh.{carriers, carriers_below, IsFresh, IsFreshDelegated, AreUnloaded, MayDelegateUnloaded}
use Rattle.tough_schema.proofs.lemmas.Wholes.{TargetsFields, tree-roll, delegations-out, role-out, named-roll}

-- one more role
pub unloaded-last : (rs : List DelegatedRole) (r : DelegatedRole) → AreUnloaded rs → (out-DelegatedRole r).targets ≡ None → AreUnloaded (rs ++ r ∷ [])
unloaded-last [] r h e = (e, tt)
unloaded-last (x ∷ xs) r h e = (h.0, unloaded-last xs r h.1 e)

-- a role without a document in front
put-unloaded : (r : DelegatedRole) (bs : Branches) → (out-DelegatedRole r).targets ≡ None → carriers (put_branch (role_tree r) bs) ≡ carriers bs
put-unloaded r bs h =
    ap (λ (x : RoleTree). carriers (put_branch x bs)) (role-out r) ∙ ap (λ (o : Option HeldDoc). let x : RoleTree = (delegated_role_doc r, o) in carriers (put_branch x bs)) (ap (option_map held_doc) h)

roles-unloaded : (rs : List DelegatedRole) → AreUnloaded rs → carriers (branches_from (map role_tree rs)) ≡ []
roles-unloaded [] h = refl
roles-unloaded (r ∷ rs) h = put-unloaded r (branches_from (map role_tree rs)) h.0 ∙ roles-unloaded rs h.1

delegations-unloaded : (o : Option Delegations) → MayDelegateUnloaded o → carriers (branches_of (option_map delegations_tree o)) ≡ []
delegations-unloaded None h = refl
delegations-unloaded (Some g) h = ap (λ (d : DelegationsTree). carriers d.1) (delegations-out g) ∙ roles-unloaded (out-Delegations g).roles.items h

-- of a document that is made
pub fresh-rolled : (x : TargetsFields) → MayDelegateUnloaded x.delegations → IsFresh (roll-Targets x)
fresh-rolled x h = ap carriers_below (tree-roll x) ∙ delegations-unloaded x.delegations h

pub fresh-named : (x : DelegatedTargets-F DelegatedRole Delegations DelegatedTargets Targets) → IsFresh x.targets → string_bytes x.name ≡ [] → IsFreshDelegated (roll-DelegatedTargets x)
fresh-named x h n = (ap (λ (y : NamedTree). carriers_below y.1) (named-roll x) ∙ h, ap (λ (y : NamedTree). y.0) (named-roll x) ∙ n)
