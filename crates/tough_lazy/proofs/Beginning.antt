-- The documents that a search begins with, and those that are added to them.
use Rattle.std.proofs.Common.{◌≡◌, ℕ, List, [], ◌∷◌, Option, Some, None, option_map, refl, sym, ap, subst}
use Rattle.tough_keys.specs.Same.{Verifies}
use Rattle.tough_roles.specs.Signature.{SignedDoc, signed_doc}
use Rattle.tough_roles.specs.declared.signed.Signed.{Signed}
use Rattle.tough_schema.specs.Delegations.{DelegationsDoc}
use Rattle.tough_schema.specs.Putting.{slot_in, held_along, along}
use Rattle.tough_schema.specs.Targets.{TargetsDoc}
use Rattle.tough_schema.specs.Tree.{Entry}
use Rattle.tough_schema.specs.Whole.{TreeDoc, tree, Branches, no_branches, unloaded, loaded, HeldDoc, OwnDoc, entries_in, top_doc, tree_doc}
use Rattle.tough_schema.specs.declared.delegations.Delegations.{Delegations}
use Rattle.tough_schema.specs.declared.targets.Targets.{Targets, out-Targets}
use Rattle.tough_schema.proofs.lemmas.Wholes.{tree-leaf, tree-inner}
use Rattle.tough_trust.specs.delegations.Bare.{all_unloaded, roles_of, bare_tree, bare, top_page, held_as}
use Rattle.tough_update.specs.Loadable.{Files, IsServedUnder, Loadable}
use Rattle.tough_update.specs.Stages.{KnownDoc, LoadedDoc, SettingDoc}
use Rattle.tough_update.specs.growth.Full.{AreFull, IsFull}
use Rattle.tough_update.specs.growth.Under.{Relation, Under, Below}
use Rattle.tough_lazy.specs.Documents.{AddedDoc, with_document}
use Rattle.tough_lazy.specs.Extending.{Extends, ExtendsIn, KeepsItsKeys}
use Rattle.tough_lazy.proofs.Standing.{top-filled}

-- ---- what the targets say for themselves

page-along : (ps : List ℕ) (h : HeldDoc) (t : TreeDoc) → top_doc (along ps h t) ≡ top_doc t
page-along [] h t = refl
page-along (p ∷ ps) h t = top-filled p (held_along ps h (slot_in p t)) t

pub page-stays : (l : LoadedDoc) (a : AddedDoc) → top_page (with_document a l).targets ≡ top_page l.targets
page-stays l a =
    ap (λ (d : TargetsDoc). let s : SignedDoc TargetsDoc = record { role = d; signatures = l.targets.signatures } in s)
    (page-along a.need.way (held_as a.need.entry.name a.document) l.targets.role)

-- ---- a document alone

unloaded-more : (bs : Branches) → ExtendsIn (all_unloaded (entries_in bs)) bs
unloaded-more no_branches = tt
unloaded-more (unloaded e bs) = (refl, unloaded-more bs)
unloaded-more (loaded e n ss t bs) = (refl, unloaded-more bs)

none-more : (bs : Branches) → bs ≡ no_branches → ExtendsIn no_branches bs
none-more bs h = subst (ExtendsIn no_branches) (sym h) tt

map-back : {A B : Type 0} (k : Option A) (g : A → B) (f : B → A) → ((x : A) → f (g x) ≡ x) → option_map f (option_map g k) ≡ k
map-back None g f h = refl
map-back (Some x) g f h = ap (λ y. Some y) (h x)

roles_more : {A : Type 0} (k : Option A) (g : A → DelegationsDoc) (bs : Branches) → ((x : A) → (g x).roles ≡ entries_in bs) → (k ≡ None → bs ≡ no_branches) → ExtendsIn (all_unloaded (roles_of (option_map g k))) bs
roles_more None g bs h keeps = none-more bs (keeps refl)
roles_more (Some x) g bs h keeps = subst (λ (es : List Entry). ExtendsIn (all_unloaded es) bs) (sym (h x)) (unloaded-more bs)

pub bare-extends : (t : TreeDoc) → KeepsItsKeys t → Extends (bare_tree (top_doc t)) t
bare-extends (tree o bs) keeps = (
  ap (λ ks. let d : OwnDoc = record { head = o.head; targets = o.targets; keys = ks; extra = o.extra } in d)
      (map-back o.keys (λ ks. let g : DelegationsDoc = record { keys = ks; roles = entries_in bs } in g) (λ (g : DelegationsDoc). g.keys) (λ x. refl)),
  roles_more o.keys (λ ks. let g : DelegationsDoc = record { keys = ks; roles = entries_in bs } in g) bs (λ x. refl) keeps,
)

-- ---- trees that have roles only where they have their keys

keeps_own : (t : Targets) (o : Option Delegations) → (out-Targets t).delegations ≡ o → KeepsItsKeys (tree_doc t)
keeps_own t None is = subst KeepsItsKeys (sym (tree-leaf t is)) (λ none. refl)
keeps_own t (Some g) is = subst KeepsItsKeys (sym (tree-inner t g is)) (λ none. absurd (cc))

pub keeps-keys : (t : Targets) → KeepsItsKeys (tree_doc t)
keeps-keys t = keeps_own t (out-Targets t).delegations refl

-- where nothing stands under no delegations, and each role has a document
none_under : (U : Relation) (bs : Branches) → ((name : List ℕ) (page : SignedDoc TargetsDoc) → U None name page → ⊥) → AreFull bs → Under U None bs → bs ≡ no_branches
none_under U no_branches never full under = refl
none_under U (unloaded e bs) never full under = absurd full
none_under U (loaded e n ss t bs) never full under = absurd (never e.name (record { role = top_doc t; signatures = ss }) under.0)

full_keys : {A : Type 0} (U : Relation) (k : Option A) (g : A → DelegationsDoc) (bs : Branches) → ((name : List ℕ) (page : SignedDoc TargetsDoc) → U None name page → ⊥) → AreFull bs → Under U (option_map g k) bs → k ≡ None → bs ≡ no_branches
full_keys U None g bs never full under none = none_under U bs never full under
full_keys U (Some x) g bs never full under none = cc

pub full-keys : (U : Relation) (t : TreeDoc) → ((name : List ℕ) (page : SignedDoc TargetsDoc) → U None name page → ⊥) → IsFull t → Below U t → KeepsItsKeys t
full-keys U (tree o bs) never full under = full_keys U o.keys (λ ks. let g : DelegationsDoc = record { keys = ks; roles = entries_in bs } in g) bs never full under

pub served-never : (verifies : Verifies) (files : Files) (s : SettingDoc) (k : KnownDoc) (name : List ℕ) (page : SignedDoc TargetsDoc) → IsServedUnder verifies files s k None name page → ⊥
served-never verifies files s k name page h = h

-- ---- the targets alone

pub seen-begins : (s : Signed Targets) → Extends (bare (top_page (signed_doc tree_doc s))).role (tree_doc s.signed)
seen-begins s = bare-extends (tree_doc s.signed) (keeps-keys s.signed)

pub loadable-begins : (verifies : Verifies) (files : Files) (s : SettingDoc) (w : LoadedDoc) → Loadable verifies files s w → Extends (bare (top_page w.targets)).role w.targets.role
loadable-begins verifies files s w load =
    bare-extends w.targets.role (full-keys (IsServedUnder verifies files s w.known) w.targets.role (served-never verifies files s w.known) load.full load.delegated)
