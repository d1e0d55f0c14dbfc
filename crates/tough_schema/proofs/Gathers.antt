-- The roles in preorder, as they are gathered.
use Rattle.std.proofs.Common.{◌≡◌, ℕ, ◌+◌, ◌<◌, List, [], ◌∷◌, ◌++◌, map, take, length, get_or, Some, None, Bor, refl, sym, ap, ◌∙◌}
use Rattle.std.proofs.lemmas.List.{map-append, take_more}
use Rattle.std.proofs.lemmas.List.Elements.{filter_map-append}
use Rattle.tough_schema.specs.declared.delegations.DelegatedRole.{DelegatedRole}
use Rattle.tough_schema.specs.declared.nodes.Node.{Node}
use Rattle.tough_schema.specs.Whole.{TreeDoc, tree, Branches, no_branches, unloaded, loaded, RoleTree, put_branch, role_tree}
use Rattle.tough_schema.specs.Preorder.{Occurrence, preorder, preorder_below}
use Rattle.tough_schema.specs.Numbered.{Span, spans, node_spans}
use Rattle.tough_schema.specs.Entries.{entries, documents_of}
use Rattle.tough_schema.specs.Gather.{roles_in, gathered, shown}

abbrev roles : List Occurrence → List RoleTree
roles os = map (λ o. o.role) os

-- the roles don't depend on the places
mutual
  same_roles : (j k : ℕ) (bs : Branches) → roles (preorder j bs) ≡ roles (preorder k bs)
  same_roles j k no_branches = refl
  same_roles j k (unloaded e bs) = ap (λ (l : List RoleTree). (e, None) ∷ l) (same_roles (j + 1) (k + 1) bs)
  same_roles j k (loaded e n signatures t bs) =
      let first = preorder_below (j + 1) t in
      let second = preorder_below (k + 1) t in
      let rest : ℕ → List Occurrence = λ i. preorder i bs in
      let role : Occurrence → RoleTree = λ o. o.role in
      ap (λ (l : List RoleTree). (e, Some (record { name = n; signatures = signatures; below = t })) ∷ l)
      (map-append role first (rest (j + 1 + length first)) ∙ ap (λ l. l ++ roles (rest (j + 1 + length first))) (same_below (j + 1) (k + 1) t)
      ∙ ap (λ l. roles second ++ l) (same_roles (j + 1 + length first) (k + 1 + length second) bs) ∙ sym (map-append role second (rest (k + 1 + length second))))

  same_below : (j k : ℕ) (t : TreeDoc) → roles (preorder_below j t) ≡ roles (preorder_below k t)
  same_below j k (tree o bs) = same_roles j k bs

pub roles-put : (r : RoleTree) (bs : Branches) → roles_in (put_branch r bs) ≡ gathered r ++ roles_in bs
roles-put (e, None) bs = ap (λ (l : List RoleTree). (e, None) ∷ l) (same_roles 1 0 bs)
roles-put (e, Some h) bs =
    let inside = preorder_below 1 h.below in
    let role : Occurrence → RoleTree = λ o. o.role in
    ap (λ (l : List RoleTree). (e, Some h) ∷ l)
    (map-append role inside (preorder (1 + length inside) bs) ∙ ap (λ l. l ++ roles (preorder (1 + length inside) bs)) (same_below 1 0 h.below) ∙ ap (λ l. entries h.below ++ l) (same_roles (1 + length inside) 0 bs))

-- ---- the roles of numbered nodes

pub spans-roles : (os : List Occurrence) → map (λ (s : Span). s.0) (spans os) ≡ roles os
spans-roles [] = refl
spans-roles (o ∷ os) = ap (λ (l : List RoleTree). o.role ∷ l) (spans-roles os)

pub nodes-roles : (ns : List Node) (t : TreeDoc) → node_spans ns ≡ spans (preorder_below 0 t) → map (λ (s : Span). s.0) (node_spans ns) ≡ entries t
nodes-roles ns t h = ap (map (λ (s : Span). s.0)) h ∙ spans-roles (preorder_below 0 t)

-- ---- their documents

-- those of the entries up to i, and that of the one at i
pub documents-more : (rs : List (Bor DelegatedRole)) (i : ℕ) (r : Bor DelegatedRole) → i < length rs → r ≡ get_or rs i r
    → documents_of (shown (take (i + 1) rs)) ≡ documents_of (shown (take i rs)) ++ documents_of (role_tree r.now ∷ [])
documents-more rs i r h e =
    let show : Bor DelegatedRole → RoleTree = λ x. role_tree x.now in
    let here : take (i + 1) rs ≡ take i rs ++ r ∷ [] = take_more rs i r h ∙ ap (λ x. take i rs ++ x ∷ []) (sym e) in
    ap (λ (l : List (Bor DelegatedRole)). documents_of (shown l)) here ∙ ap documents_of (map-append show (take i rs) (r ∷ [])) ∙ filter_map-append (λ (x : RoleTree). x.1) (shown (take i rs)) (role_tree r.now ∷ [])
