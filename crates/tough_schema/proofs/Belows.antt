-- The roles below a document, and below a role.
use Rattle.std.proofs.Common.{◌≡◌, ℕ, ◌+◌, List, [], ◌∷◌, ◌++◌, Option, Some, None, option_map, refl, ap, ◌∙◌, arith}
use Rattle.tough_roles.specs.declared.signed.Signed.{Signed}
use Rattle.tough_schema.specs.declared.delegations.DelegatedRole.{DelegatedRole, out-DelegatedRole}
use Rattle.tough_schema.specs.declared.targets.DelegatedTargets.{DelegatedTargets, out-DelegatedTargets}
use Rattle.tough_schema.specs.Whole.{TreeDoc, tree, Branches, no_branches, HeldDoc, RoleTree, put_branch, tree_doc, role_tree, role_branches, held_doc}
use Rattle.tough_schema.specs.Preorder.{preorder, preorder_below}
use Rattle.tough_schema.specs.Numbered.{inside}
use Rattle.tough_schema.specs.Below.{branches_in, branches_under, count, count_in}
use Rattle.tough_schema.proofs.lemmas.Wholes.{role-held, held-below}

pub under-some : (r : DelegatedRole) (s : Signed DelegatedTargets) → (out-DelegatedRole r).targets ≡ Some s → branches_under (role_tree r).1 ≡ branches_in (tree_doc (out-DelegatedTargets s.signed).targets)
under-some r s h = ap branches_under (role-held r ∙ ap (option_map held_doc) h) ∙ ap branches_in (held-below s)

-- ---- their places, and how many they are

pub below-in : (k : ℕ) (t : TreeDoc) → preorder_below k t ≡ preorder k (branches_in t)
below-in k (tree o bs) = refl

pub inside-under : (k : ℕ) (o : Option HeldDoc) → inside k o ≡ preorder k (branches_under o)
inside-under k None = refl
inside-under k (Some h) = below-in k h.below

count-in : (t : TreeDoc) → count_in t ≡ count (branches_in t)
count-in (tree o bs) = refl

pub count-put : (r : RoleTree) (bs : Branches) → count (put_branch r bs) ≡ 1 + (count (branches_under r.1) + count bs)
count-put (e, None) bs = omega arith
count-put (e, Some h) bs = ap (λ (n : ℕ). 1 + (n + count bs)) (count-in h.below)

-- with a role behind the others
pub put-last : (rs : List DelegatedRole) (r : DelegatedRole) → count (role_branches (rs ++ r ∷ [])) ≡ 1 + (count (branches_under (role_tree r).1) + count (role_branches rs))
put-last [] r = count-put (role_tree r) no_branches
put-last (x ∷ rs) r = omega (arith, count-put (role_tree x) (role_branches (rs ++ r ∷ [])), put-last rs r, count-put (role_tree x) (role_branches rs))
