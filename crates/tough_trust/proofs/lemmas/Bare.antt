-- A document that was read is the bare tree of what it says for itself.
use Rattle.std.proofs.Common.{◌≡◌, List, [], ◌∷◌, Option, Some, None, refl, ap, sym, ◌∙◌}
use Rattle.tough_decoded.specs.Spelled.{Spelled}
use Rattle.tough_keys.specs.Key.{KeyDoc}
use Rattle.serde_json.specs.Data.{Members}
use Rattle.tough_roles.specs.Head.{Head}
use Rattle.tough_roles.specs.Signature.{SignedDoc, signed_doc}
use Rattle.tough_roles.specs.declared.signed.Signed.{Signed}
use Rattle.tough_schema.specs.Delegations.{DelegationsDoc}
use Rattle.tough_schema.specs.Targets.{TargetsDoc, targets_doc}
use Rattle.tough_schema.specs.Tree.{Listing, Entry}
use Rattle.tough_schema.specs.Fresh.{carriers, carriers_below, IsFresh}
use Rattle.tough_schema.specs.Whole.{TreeDoc, tree, Branches, no_branches, unloaded, loaded, entries_in, top_doc, tree_doc}
use Rattle.tough_schema.specs.declared.delegations.Delegations.{Delegations}
use Rattle.tough_schema.specs.declared.targets.Targets.{Targets, out-Targets}
use Rattle.tough_schema.proofs.lemmas.Wholes.{tree-leaf, tree-inner, top-tells}
use Rattle.tough_trust.specs.delegations.Bare.{all_unloaded, roles_of, bare_tree, bare, top_page}

unloaded-again : (bs : Branches) → carriers bs ≡ [] → all_unloaded (entries_in bs) ≡ bs
unloaded-again no_branches h = refl
unloaded-again (unloaded e bs) h = ap (unloaded e) (unloaded-again bs h)
unloaded-again (loaded e n s t bs) h = absurd (cc)

abbrev IsBareTree : TreeDoc → Type 0
IsBareTree t = t ≡ bare_tree (top_doc t)

leaf-bare : (h : Head) (l : Listing) (x : Members) → IsBareTree (tree (record { head = h; targets = l; keys = None; extra = x }) no_branches)
leaf-bare h l x = refl

inner-bare : (h : Head) (l : Listing) (ks : List (Spelled × KeyDoc)) (x : Members) (bs : Branches) → carriers bs ≡ []
    → IsBareTree (tree (record { head = h; targets = l; keys = Some ks; extra = x }) bs)
inner-bare h l ks x bs c = ap (tree (record { head = h; targets = l; keys = Some ks; extra = x })) (sym (unloaded-again bs c))

-- by the document's delegations
told-bare : (t : Targets) (u : TreeDoc) → tree_doc t ≡ u → IsBareTree u → tree_doc t ≡ bare_tree (targets_doc t)
told-bare t u is b = is ∙ b ∙ ap (λ x. bare_tree (top_doc x)) (sym is) ∙ ap bare_tree (sym (top-tells t))

fresh-at : (t : Targets) (o : Option Delegations) → (out-Targets t).delegations ≡ o → IsFresh t → tree_doc t ≡ bare_tree (targets_doc t)
fresh-at t None is f = told-bare t _ (tree-leaf t is) (leaf-bare _ _ _)
fresh-at t (Some g) is f = told-bare t _ (tree-inner t g is) (inner-bare _ _ _ _ _ (sym (ap carriers_below (tree-inner t g is)) ∙ f))

pub fresh-bare : (t : Targets) → IsFresh t → tree_doc t ≡ bare_tree (targets_doc t)
fresh-bare t f = fresh-at t (out-Targets t).delegations refl f

pub signed-bare : (s : Signed Targets) → IsFresh s.signed → signed_doc tree_doc s ≡ bare (signed_doc targets_doc s)
signed-bare s f = ap (λ t. let d : SignedDoc TreeDoc = record { role = t; signatures = (signed_doc targets_doc s).signatures } in d) (fresh-bare s.signed f)

-- ---- what such a tree says for itself

pub entries-unloaded : (es : List Entry) → entries_in (all_unloaded es) ≡ es
entries-unloaded [] = refl
entries-unloaded (e ∷ es) = ap (λ l. e ∷ l) (entries-unloaded es)

top-at : (h : Head) (l : Listing) (x : Members) (o : Option DelegationsDoc) → top_doc (bare_tree (record { head = h; targets = l; delegations = o; extra = x })) ≡ record { head = h; targets = l; delegations = o; extra = x }
top-at h l x None = refl
top-at h l x (Some g) = ap (λ es. let d : TargetsDoc = record { head = h; targets = l; delegations = Some (record { keys = g.keys; roles = es }); extra = x } in d) (entries-unloaded g.roles)

pub top-bare : (d : SignedDoc TargetsDoc) → top_page (bare d) ≡ d
top-bare d = ap (λ r. let s : SignedDoc TargetsDoc = record { role = r; signatures = d.signatures } in s) (top-at d.role.head d.role.targets d.role.extra d.role.delegations)

unloaded-none : (es : List Entry) → carriers (all_unloaded es) ≡ []
unloaded-none [] = refl
unloaded-none (e ∷ es) = unloaded-none es

pub bare-none : (d : SignedDoc TargetsDoc) → carriers_below (bare d).role ≡ []
bare-none d = unloaded-none (roles_of d.role.delegations)

-- what the tree of a program says for itself
pub page-tells : (s : Signed Targets) → signed_doc targets_doc s ≡ top_page (signed_doc tree_doc s)
page-tells s = ap (λ r. let d : SignedDoc TargetsDoc = record { role = r; signatures = (signed_doc targets_doc s).signatures } in d) (top-tells s.signed)
