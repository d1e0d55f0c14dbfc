-- A role of a document gets a document.
use Rattle.std.proofs.Common.{◌≡◌, ℕ, ◌<◌, ◌≤◌, List, map, length, get_or, set, Some, string_bytes, ap, sym, ◌∙◌, arith}
use Rattle.std.proofs.lemmas.List.{map-set, length-map, get_or-map}
use Rattle.std.specs.Vec.{with_item}
use Rattle.tough_roles.specs.Root.{keys_doc}
use Rattle.tough_roles.specs.Signature.{signatures_doc}
use Rattle.tough_roles.specs.declared.signed.Signed.{Signed}
use Rattle.tough_schema.specs.declared.delegations.DelegatedRole.{DelegatedRole, out-DelegatedRole, roll-DelegatedRole, fold-roll-DelegatedRole}
use Rattle.tough_schema.specs.declared.delegations.Delegations.{Delegations, out-Delegations, roll-Delegations}
use Rattle.tough_schema.specs.declared.targets.DelegatedTargets.{DelegatedTargets, out-DelegatedTargets, roll-DelegatedTargets}
use Rattle.tough_schema.specs.declared.targets.Targets.{Targets, out-Targets, roll-Targets}
use Rattle.tough_schema.specs.Whole.{TreeDoc, tree, Branches, HeldDoc, RoleTree, NamedTree, DelegationsTree, branches_from, role_level, delegations_level, delegated_level, targets_level, tree_doc, role_tree, held_doc, entries_in}
use Rattle.tough_schema.proofs.lemmas.Wholes.{own, tree-roll, tree-inner, delegations-roll, role-out, named-out, named-roll}
use Rattle.tough_trust.specs.delegations.Dressed.{dressed_from, dressed_tree, dressed, only}
use Rattle.tough_trust.proofs.lemmas.Dressing.{Has, dress-at, dress-none, only-other, entries-from}

-- the role with this document
pub role-set : (r : DelegatedRole) (s : Signed DelegatedTargets) → role_tree (roll-DelegatedRole (record (out-DelegatedRole r) { targets = Some s })) ≡ ((role_tree r).0, Some (held_doc s))
role-set r s =
    fold-roll-DelegatedRole RoleTree DelegationsTree NamedTree TreeDoc role_level delegations_level delegated_level targets_level (record (out-DelegatedRole r) { targets = Some s })
    ∙ sym (ap (λ (x : RoleTree). let y : RoleTree = (x.0, Some (held_doc s)) in y) (role-out r))

module _ (t : Targets) (g : Delegations) (k : ℕ) (h : HeldDoc) (under : (out-Targets t).delegations ≡ Some g) where
  abbrev roles : List DelegatedRole
  roles = (out-Delegations g).roles.items

  branches-set : (r w : DelegatedRole) → k < length roles → r ≡ get_or roles k r → role_tree w ≡ ((role_tree r).0, Some h)
      → branches_from (map role_tree (set roles k w)) ≡ dressed_from (only k h) 0 (branches_from (map role_tree roles))
  branches-set r w lt is new =
      let rs = map role_tree roles in
      let at : get_or rs k (role_tree r) ≡ role_tree r = get_or-map role_tree roles k r (role_tree r) lt ∙ ap role_tree (sym is) in
      let long : length rs ≡ length roles = length-map roles role_tree in
      let given : role_tree w ≡ ((get_or rs k (role_tree r)).0, Some h) = new ∙ ap (λ (x : RoleTree). let y : RoleTree = (x.0, Some h) in y) (sym at) in
      ap branches_from (map-set role_tree roles k w ∙ ap (set rs k) given) ∙ sym (dress-at rs 0 k k h (role_tree r) (omega arith) (omega arith))

  pub tree-set : (r w : DelegatedRole) → k < length roles → r ≡ get_or roles k r → role_tree w ≡ ((role_tree r).0, Some h)
      → tree_doc (roll-Targets (record (out-Targets t) { delegations = Some (roll-Delegations (record (out-Delegations g) { roles = with_item (out-Delegations g).roles k w })) })) ≡ dressed_tree (only k h) (tree_doc t)
  tree-set r w lt is new =
      let after = roll-Delegations (record (out-Delegations g) { roles = with_item (out-Delegations g).roles k w }) in
      let shown : DelegationsTree → TreeDoc = λ d. tree (own (out-Targets t) (Some d)) d.1 in
      let with : Branches → DelegationsTree = λ bs. (keys_doc (out-Delegations g).keys.entries, bs) in
      tree-roll (record (out-Targets t) { delegations = Some after })
      ∙ ap shown (delegations-roll (record (out-Delegations g) { roles = with_item (out-Delegations g).roles k w }) ∙ ap with (branches-set r w lt is new))
      ∙ sym (ap (dressed_tree (only k h)) (tree-inner t g under))

  -- past the end
  pub tree-past : length roles ≤ k → tree_doc (roll-Targets (record (out-Targets t) { delegations = Some (roll-Delegations (out-Delegations g)) })) ≡ dressed_tree (only k h) (tree_doc t)
  tree-past le =
      let shown : DelegationsTree → TreeDoc = λ d. tree (own (out-Targets t) (Some d)) d.1 in
      let bs = branches_from (map role_tree roles) in
      let long : length (entries_in bs) ≡ length roles = ap length (entries-from roles) ∙ length-map roles (λ r. (role_tree r).0) in
      tree-roll (record (out-Targets t) { delegations = Some (roll-Delegations (out-Delegations g)) }) ∙ ap shown (delegations-roll (out-Delegations g))
      ∙ ap (λ (cs : Branches). shown (keys_doc (out-Delegations g).keys.entries, cs)) (sym (dress-none (only k h) 0 bs (λ j a b. only-other k h j (λ same. omega arith))))
      ∙ sym (ap (dressed_tree (only k h)) (tree-inner t g under))

pub held-set : (s : Signed DelegatedTargets) (u : Targets) (has : Has) → tree_doc u ≡ dressed_tree has (tree_doc (out-DelegatedTargets s.signed).targets)
    → held_doc (record s { signed = roll-DelegatedTargets (record (out-DelegatedTargets s.signed) { targets = u }) }) ≡ dressed has (held_doc s)
held-set s u has e =
    let shown : NamedTree → HeldDoc = λ x. record { name = x.0; signatures = signatures_doc s.signatures.items; below = x.1 } in
    let name = string_bytes (out-DelegatedTargets s.signed).name in
    ap shown (named-roll (record (out-DelegatedTargets s.signed) { targets = u }) ∙ ap (λ (x : TreeDoc). let y : NamedTree = (name, x) in y) e)
    ∙ sym (ap (λ (x : NamedTree). dressed has (shown x)) (named-out s.signed))
