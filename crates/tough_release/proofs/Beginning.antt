-- An editor over targets that list nothing.
use Rattle.std.proofs.Common.{◌≡◌, ℕ, List, [], Option, Some, None, option_map, Result, Ok, Err, IfOk, refl, ap, ap₂, sym, ◌∙◌}
use Rattle.serde_json.specs.Data.{Members}
use Rattle.tough_roles.specs.Head.{Head}
use Rattle.tough_schema.specs.Delegations.{DelegationsDoc, no_delegations}
use Rattle.tough_roles.specs.Root.{RootDoc}
use Rattle.tough_schema.specs.Targets.{TargetsDoc, targets_doc, bare_targets}
use Rattle.tough_schema.specs.Tree.{Listing}
use Rattle.tough_schema.specs.Whole.{TreeDoc, tree, Branches, no_branches, unloaded, loaded, RoleTree, tree_doc, top_doc, entries_in}
use Rattle.tough_schema.specs.declared.targets.Targets.{Targets}
use Rattle.tough_schema.proofs.lemmas.Wholes.{top-tells}
use Rattle.tough_sign.specs.Making.{Known}
use Rattle.tough_signed.specs.Holders.{HolderDoc, by_root}
use Rattle.tough_edit.specs.Edits.{EditsDoc, edits_doc, fresh, opened, roles_in}
use Rattle.tough_edit.specs.declared.edits.TargetEdits.{TargetEdits}
use Rattle.tough_release.specs.Edits.{begun_editor}
use Rattle.tough_release.specs.Holding.{top_name}
use Rattle.std.specs.declared.alloc.AllocError.{AllocError}

roles_none : (bs : Branches) → entries_in bs ≡ [] → roles_in bs ≡ []
roles_none no_branches h = refl
roles_none (unloaded e bs) h = cc
roles_none (loaded e n ss t bs) h = cc

delegated : (keys : Option Known) (bs : Branches) → option_map (λ ks. let g : DelegationsDoc = record { keys = ks; roles = entries_in bs } in g) keys ≡ Some no_delegations → (keys ≡ Some []) × (roles_in bs ≡ [])
delegated None bs h = cc
delegated (Some ks) bs h =
    let g : DelegationsDoc = record { keys = ks; roles = entries_in bs } in
    let same : g ≡ no_delegations = cc in
    (ap (λ (x : DelegationsDoc). Some x.keys) same, roles_none bs (ap (λ (x : DelegationsDoc). x.roles) same))

pub opened_bare : (name : List ℕ) (holder : HolderDoc) (t : TreeDoc) (head : Head) → top_doc t ≡ bare_targets head → opened name (Some holder) t ≡ record (fresh name) { holder = Some holder }
opened_bare name holder (tree o bs) head e =
    let shown : Option Known → List RoleTree → Listing → Members → EditsDoc = λ keys rs targets extra. record (fresh name) { holder = Some holder; keys = keys; old_roles = rs; old_targets = targets; extra = extra } in
    let d = delegated o.keys bs (ap (λ (x : TargetsDoc). x.delegations) e) in
    ap₂ (λ keys rs. shown keys rs o.targets o.extra) d.0 d.1 ∙ ap₂ (shown (Some []) []) (ap (λ (x : TargetsDoc). x.targets) e) (ap (λ (x : TargetsDoc). x.extra) e)

-- the editor of new targets
pub begun_is : (r : Result TargetEdits AllocError) (root shown : RootDoc) (t : Targets) (head : Head) → targets_doc t ≡ bare_targets head → shown ≡ root → IfOk r (λ e. edits_doc e ≡ opened top_name (Some (by_root shown)) (tree_doc t)) → IfOk r (λ e. edits_doc e ≡ begun_editor root)
begun_is (Ok e) root shown t head bare same h =
    h ∙ (opened_bare top_name (by_root shown) (tree_doc t) head (sym (top-tells t) ∙ bare) ∙ ap (λ (x : RootDoc). record (fresh top_name) { holder = Some (by_root x) }) same)
begun_is (Err error) root shown t head bare same h = h
