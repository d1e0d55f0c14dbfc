-- Copies of documents and roles: words of private clauses.
use Rattle.std.specs.Prelude.{ℕ, ◌+◌, List, [], ◌∷◌, ◌++◌, map, take, drop, length, reverse, Option, option_map}
use Rattle.tough_roles.specs.Root.{keys_doc}
use Rattle.tough_roles.specs.Signature.{signatures_doc}
use Rattle.tough_roles.specs.declared.signed.Signed.{Signed}
use Rattle.tough_schema.specs.declared.copy.Step.{Step}
use Rattle.tough_schema.specs.declared.copy.Step.TheVariants.{Copy, Make}
use Rattle.tough_schema.specs.declared.delegations.DelegatedRole.{DelegatedRole, out-DelegatedRole}
use Rattle.tough_schema.specs.declared.delegations.Delegations.{Delegations, out-Delegations}
use Rattle.tough_schema.specs.declared.targets.DelegatedTargets.{DelegatedTargets, out-DelegatedTargets}
use Rattle.tough_schema.specs.declared.targets.Targets.{Targets, out-Targets}
use Rattle.tough_schema.specs.Whole.{TreeDoc, tree, DelegationsTree, HeldDoc, RoleTree, branches_from, branches_of, tree_doc, named_tree, role_tree}
use Rattle.tough_schema.specs.Below.{roles_beneath, work}

-- a document with other delegations
abbrev pub regrown : Option DelegationsTree → TreeDoc → TreeDoc
regrown g (tree o bs) = tree (record o { keys = option_map (λ d. d.0) g }) (branches_of g)

-- delegations, a document and a role with other roles below them
abbrev pub delegations_over : List RoleTree → Delegations → DelegationsTree
delegations_over rs g = (keys_doc (out-Delegations g).keys.entries, branches_from rs)

abbrev pub document_over : List RoleTree → Targets → TreeDoc
document_over rs t = regrown (option_map (delegations_over rs) (out-Targets t).delegations) (tree_doc t)

abbrev pub held_over : List RoleTree → Signed DelegatedTargets → HeldDoc
held_over rs s = record { name = (named_tree s.signed).0; signatures = signatures_doc s.signatures.items; below = document_over rs (out-DelegatedTargets s.signed).targets }

abbrev pub rebuilt : DelegatedRole → List RoleTree → RoleTree
rebuilt r rs = ((role_tree r).0, option_map (held_over rs) (out-DelegatedRole r).targets)

-- ---- the copies, of which the last ones are taken first

abbrev pub stack : List DelegatedRole → List RoleTree
stack rs = reverse (map role_tree rs)

-- a role in the place of those below it
abbrev pub made : DelegatedRole → List RoleTree → List RoleTree
made r copies = let n = length (roles_beneath r) in rebuilt r (take n copies) ∷ drop n copies

-- the copies after a step
abbrev pub stepped : Step → List RoleTree → List RoleTree
stepped (Copy roles) copies = map role_tree roles.now ++ copies
stepped (Make role) copies = made role.now copies

-- the copies after these steps, the last of which is taken first
abbrev pub all_stepped : List Step → List RoleTree → List RoleTree
all_stepped [] copies = copies
all_stepped (s ∷ steps) copies = stepped s (all_stepped steps copies)

abbrev pub weight : Step → ℕ
weight (Copy roles) = work roles.now
weight (Make role) = 1

abbrev pub weights : List Step → ℕ
weights [] = 0
weights (s ∷ steps) = weight s + weights steps
