-- An editor that is opened over a document.
use Rattle.std.proofs.Common.{◌≡◌, List, [], map, Option, Some, None, option_map, ap, ap₂, sym, ◌∙◌, ℕ}
use Rattle.serde_json.specs.View.{members_view}
use Rattle.tough_schema.specs.Targets.{listing_doc}
use Rattle.tough_schema.specs.Whole.{RoleTree, DelegationsTree, branches_of, tree_doc, role_tree, delegations_tree}
use Rattle.tough_schema.specs.declared.targets.Targets.{Targets, out-Targets}
use Rattle.tough_schema.proofs.lemmas.Wholes.{tree-out, delegations-out}
use Rattle.tough_roles.specs.Root.{keys_doc}
use Rattle.tough_schema.specs.declared.delegations.Delegations.{Delegations, out-Delegations}
use Rattle.tough_sign.specs.Making.{Known}
use Rattle.tough_signed.specs.Holders.{HolderDoc}
use Rattle.tough_edit.specs.Edits.{EditsDoc, roles_in, opened}
use Rattle.tough_edit.proofs.Lists.{in_from}

pub opened_is : (name : List ℕ) (holder : Option HolderDoc) (t : Targets) (known : Option Known) (roles : List RoleTree) → known ≡ option_map (λ (g : DelegationsTree). g.0) (option_map delegations_tree (out-Targets t).delegations)
    → roles ≡ roles_in (branches_of (option_map delegations_tree (out-Targets t).delegations))
    → record { name = name; holder = holder; keys = known; old_roles = roles; new_roles = []; old_targets = listing_doc (out-Targets t).targets.entries; new_targets = []; version = None; expires = None; extra = members_view (out-Targets t)._extra.entries } ≡ opened name holder (tree_doc t)
opened_is name holder t known roles p q =
    let shown : Option Known → List RoleTree → EditsDoc = λ k rs. record { name = name; holder = holder; keys = k; old_roles = rs; new_roles = []; old_targets = listing_doc (out-Targets t).targets.entries; new_targets = []; version = None; expires = None; extra = members_view (out-Targets t)._extra.entries } in
    ap₂ shown p q ∙ ap (opened name holder) (sym (tree-out t))

pub split_keys : (g : Delegations) → Some (keys_doc (out-Delegations g).keys.entries) ≡ option_map (λ (d : DelegationsTree). d.0) (Some (delegations_tree g))
split_keys g = ap (λ (d : DelegationsTree). Some d.0) (sym (delegations-out g))

pub split_roles : (g : Delegations) → map role_tree (out-Delegations g).roles.items ≡ roles_in (delegations_tree g).1
split_roles g = sym (ap (λ (d : DelegationsTree). roles_in d.1) (delegations-out g) ∙ in_from (map role_tree (out-Delegations g).roles.items))
