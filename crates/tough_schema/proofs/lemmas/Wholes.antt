-- A document with those of its roles, level by level.
use Rattle.std.proofs.Common.{◌≡◌, ℕ, ◌+◌, ◌<◌, List, [], ◌∷◌, ◌++◌, map, take, drop, length, Bor, get_or, slice_set, Bool, true, false, cond, Option, Some, None, option_map, Ordering, string_bytes, refl, ap, sym, ◌∙◌}
use Rattle.std.proofs.lemmas.List.{take_more_set, take_more, drop_more, map-append, length-map, with_items_is}
use Rattle.std.specs.Ordering.{match_ordering}
use Rattle.std.specs.declared.cmp.Ordering.TheVariants.{Less, Equal, Greater}
use Rattle.std.specs.Int.NonZero.{non_zero_u64_get}
use Rattle.std.specs.Map.{lookup, remove_entry}
use Rattle.std.specs.BTreeMap.{BTreeMap, insert_entry}
use Rattle.std.specs.Vec.{with_items}
use Rattle.serde_json.specs.View.{members_view}
use Rattle.tough_names.specs.Named.{Named, by_raw_then_resolved}
use Rattle.tough_roles.specs.Root.{keys_doc}
use Rattle.tough_schema.specs.Target.{TargetDoc, target_doc}
use Rattle.tough_schema.specs.Targets.{TargetsDoc, listing_doc, targets_doc}
use Rattle.tough_schema.specs.Tree.{Listing}
use Rattle.tough_schema.specs.Whole.{OwnDoc, TreeDoc, tree, Branches, no_branches, HeldDoc, RoleTree, NamedTree, DelegationsTree, put_branch, branches_from, branches_of, role_level, delegations_level, delegated_level, targets_level, tree_doc, delegations_tree, named_tree, role_tree, role_branches, with_listing, cleared, all_cleared, role_cleared, held_doc, held_docs, entries_in, top_doc}
use Rattle.tough_schema.specs.Delegations.{DelegationsDoc, delegated_role_doc, delegations_doc}
use Rattle.tough_roles.specs.Signature.{signatures_doc}
use Rattle.tough_roles.specs.declared.signed.Signed.{Signed}
use Rattle.tough_schema.specs.declared.target.Target.{Target}
use Rattle.tough_schema.specs.declared.delegations.DelegatedRole.TheOpen.{DelegatedTargets-F, Delegations-F, Targets-F}
use Rattle.tough_schema.specs.declared.delegations.DelegatedRole.TheShapes.{former-DelegatedRole-targets, former-Targets-delegations}
use Rattle.tough_schema.specs.declared.delegations.DelegatedRole.{DelegatedRole, out-DelegatedRole, fold_out-DelegatedRole}
use Rattle.tough_schema.specs.declared.targets.DelegatedTargets.{DelegatedTargets, out-DelegatedTargets, roll-DelegatedTargets, fold-roll-DelegatedTargets, fold_out-DelegatedTargets}
use Rattle.tough_schema.specs.declared.delegations.Delegations.{Delegations, out-Delegations, roll-Delegations, fold-roll-Delegations, fold_out-Delegations}
use Rattle.tough_schema.specs.declared.targets.Targets.{Targets, out-Targets, roll-Targets, fold-roll-Targets, fold_out-Targets}

-- ---- a document

abbrev pub TargetsFields : Type 0
TargetsFields = Targets-F DelegatedRole Delegations DelegatedTargets Targets

seen_delegations : (o : Option Delegations) → former-Targets-delegations.map Delegations DelegationsTree delegations_tree o ≡ option_map delegations_tree o
seen_delegations None = refl
seen_delegations (Some g) = refl

abbrev pub own : TargetsFields → Option DelegationsTree → OwnDoc
own x o = record {
  head = record { spec_version = string_bytes x.spec_version; version = non_zero_u64_get x.version; expires = x.expires.nanosecond };
  targets = listing_doc x.targets.entries;
  keys = option_map (λ g. g.0) o;
  extra = members_view x._extra.entries;
}

abbrev pub level : TargetsFields → TreeDoc
level x = let o = option_map delegations_tree x.delegations in tree (own x o) (branches_of o)

level-is : (x : TargetsFields) (o : Option DelegationsTree) → o ≡ option_map delegations_tree x.delegations → tree (own x o) (branches_of o) ≡ level x
level-is x o h = ap (λ (p : Option DelegationsTree). tree (own x p) (branches_of p)) h

pub tree-roll : (x : TargetsFields) → tree_doc (roll-Targets x) ≡ level x
tree-roll x = fold-roll-Targets RoleTree DelegationsTree NamedTree TreeDoc role_level delegations_level delegated_level targets_level x ∙ level-is x _ (seen_delegations x.delegations)

pub tree-out : (t : Targets) → tree_doc t ≡ level (out-Targets t)
tree-out t = fold_out-Targets RoleTree DelegationsTree NamedTree TreeDoc role_level delegations_level delegated_level targets_level t ∙ level-is (out-Targets t) _ (seen_delegations (out-Targets t).delegations)

-- ---- another listing

insert_at : (o : Ordering) (e : Named × Target) (es rest : List (Named × Target)) (name : Named) (t : Target) (docs : Listing) → listing_doc rest ≡ docs
    → listing_doc (match_ordering o ((name, t) ∷ e ∷ es) ((e.0, t) ∷ es) (e ∷ rest)) ≡ match_ordering o ((name, target_doc t) ∷ listing_doc (e ∷ es)) ((e.0, target_doc t) ∷ listing_doc es) ((e.0, target_doc e.1) ∷ docs)
insert_at Less e es rest name t docs h = refl
insert_at Equal e es rest name t docs h = refl
insert_at Greater e es rest name t docs h = ap (λ l. (e.0, target_doc e.1) ∷ l) h

pub insert-listing : (es : List (Named × Target)) (name : Named) (t : Target) → listing_doc (insert_entry by_raw_then_resolved es name t) ≡ insert_entry by_raw_then_resolved (listing_doc es) name (target_doc t)
insert-listing [] name t = refl
insert-listing (e ∷ es) name t = insert_at (by_raw_then_resolved name e.0) e es (insert_entry by_raw_then_resolved es name t) name t (insert_entry by_raw_then_resolved (listing_doc es) name (target_doc t)) (insert-listing es name t)

remove_at : (b : Bool) (e : Named × Target) (es rest : List (Named × Target)) (docs : Listing) → listing_doc rest ≡ docs → listing_doc (cond b es (e ∷ rest)) ≡ cond b (listing_doc es) ((e.0, target_doc e.1) ∷ docs)
remove_at true e es rest docs h = refl
remove_at false e es rest docs h = ap (λ l. (e.0, target_doc e.1) ∷ l) h

pub remove-listing : (test : Named → Bool) (es : List (Named × Target)) → listing_doc (remove_entry test es) ≡ remove_entry test (listing_doc es)
remove-listing test [] = refl
remove-listing test (e ∷ es) = remove_at (test e.0) e es (remove_entry test es) (remove_entry test (listing_doc es)) (remove-listing test es)

lookup_at : (b : Bool) (t : Target) (o : Option Target) (docs : Option TargetDoc) → option_map target_doc o ≡ docs → option_map target_doc (cond b (Some t) o) ≡ cond b (Some (target_doc t)) docs
lookup_at true t o docs h = refl
lookup_at false t o docs h = h

pub lookup-listing : (test : Named → Bool) (es : List (Named × Target)) → option_map target_doc (lookup test es) ≡ lookup test (listing_doc es)
lookup-listing test [] = refl
lookup-listing test (e ∷ es) = lookup_at (test e.0) e.1 (lookup test es) (lookup test (listing_doc es)) (lookup-listing test es)

pub listed-as : (t : Targets) (m : BTreeMap Named Target) (change : Listing → Listing) → listing_doc m.entries ≡ change (listing_doc (out-Targets t).targets.entries)
    → tree_doc (roll-Targets (record (out-Targets t) { targets = m })) ≡ with_listing change (tree_doc t)
listed-as t m change h =
    let o = option_map delegations_tree (out-Targets t).delegations in
    tree-roll (record (out-Targets t) { targets = m }) ∙ ap (λ (l : Listing). tree (record (own (out-Targets t) o) { targets = l }) (branches_of o)) h ∙ ap (with_listing change) (sym (tree-out t))

-- ---- the roles

abbrev pub DelegationsFields : Type 0
DelegationsFields = Delegations-F DelegatedRole Delegations DelegatedTargets Targets

abbrev pub delegations_shown : DelegationsFields → DelegationsTree
delegations_shown x = (keys_doc x.keys.entries, branches_from (map role_tree x.roles.items))

pub delegations-roll : (x : DelegationsFields) → delegations_tree (roll-Delegations x) ≡ delegations_shown x
delegations-roll x = fold-roll-Delegations RoleTree DelegationsTree NamedTree TreeDoc role_level delegations_level delegated_level targets_level x

pub delegations-out : (g : Delegations) → delegations_tree g ≡ delegations_shown (out-Delegations g)
delegations-out g = fold_out-Delegations RoleTree DelegationsTree NamedTree TreeDoc role_level delegations_level delegated_level targets_level g

-- ---- no listing

put-cleared : (r : RoleTree) (bs : Branches) → put_branch (role_cleared r) (all_cleared bs) ≡ all_cleared (put_branch r bs)
put-cleared (e, None) bs = refl
put-cleared (e, Some h) bs = refl

from-cleared : (rs : List RoleTree) → branches_from (map role_cleared rs) ≡ all_cleared (branches_from rs)
from-cleared [] = refl
from-cleared (r ∷ rs) = ap (put_branch (role_cleared r)) (from-cleared rs) ∙ put-cleared r (branches_from rs)

same-length : (old new : List DelegatedRole) → map role_tree new ≡ map role_cleared (map role_tree old) → length new ≡ length old
same-length old new h = sym (length-map new role_tree) ∙ ap length h ∙ length-map (map role_tree old) role_cleared ∙ length-map old role_tree

-- the delegations of which the roles' documents are cleared
cleared-in : (g : Delegations) (new : List DelegatedRole) → map role_tree new ≡ map role_cleared (map role_tree (out-Delegations g).roles.items)
    → delegations_tree (roll-Delegations (record (out-Delegations g) { roles = with_items (out-Delegations g).roles new })) ≡ ((delegations_tree g).0, all_cleared (delegations_tree g).1)
cleared-in g new h =
    let v = (out-Delegations g).roles in
    let shown : Branches → DelegationsTree = λ bs. (keys_doc (out-Delegations g).keys.entries, bs) in
    let items : (with_items v new).items ≡ new = with_items_is v new (same-length v.items new h ∙ sym v.ok.0) in
    delegations-roll (record (out-Delegations g) { roles = with_items v new }) ∙ ap (λ rs. shown (branches_from (map role_tree rs))) items ∙ ap (λ rs. shown (branches_from rs)) h
    ∙ ap shown (from-cleared (map role_tree v.items)) ∙ ap (λ (d : DelegationsTree). let e : DelegationsTree = (d.0, all_cleared d.1) in e) (sym (delegations-out g))

pub cleared-under : (t : Targets) (x : TargetsFields) (m : BTreeMap Named Target) (g : Delegations) (new : List DelegatedRole) → x ≡ record (out-Targets t) { targets = m } → m.entries ≡ [] → x.delegations ≡ Some g
    → map role_tree new ≡ map role_cleared (map role_tree (out-Delegations g).roles.items)
    → tree_doc (roll-Targets (record x { delegations = Some (roll-Delegations (record (out-Delegations g) { roles = with_items (out-Delegations g).roles new })) })) ≡ cleared (tree_doc t)
cleared-under t x m g new same none held h =
    let after = roll-Delegations (record (out-Delegations g) { roles = with_items (out-Delegations g).roles new }) in
    let bare : TargetsFields = record (out-Targets t) { targets = m; delegations = Some after } in
    let under : (out-Targets t).delegations ≡ Some g = sym (ap (λ (y : TargetsFields). y.delegations) same) ∙ held in
    let shown : Listing → DelegationsTree → TreeDoc = λ l d. tree (record (own (out-Targets t) (Some d)) { targets = l }) d.1 in
    ap (λ (y : TargetsFields). tree_doc (roll-Targets (record y { delegations = Some after }))) same ∙ tree-roll bare
    ∙ ap (λ l. shown l (delegations_tree after)) (ap listing_doc none) ∙ ap (shown []) (cleared-in g new h)
    ∙ sym (ap cleared (tree-out t ∙ ap (λ (o : Option Delegations). let p = option_map delegations_tree o in tree (own (out-Targets t) p) (branches_of p)) under))

pub visited-more : {A B : Type 0} (f : A → B) (g : B → B) (xs ys : List A) (i : ℕ) (w r : A) → i < length xs → i < length ys → r ≡ get_or ys i r → f w ≡ g (f r)
    → map f (take i xs) ≡ map g (map f (take i ys)) → map f (take (i + 1) (slice_set xs i w)) ≡ map g (map f (take (i + 1) ys))
visited-more f g xs ys i w r h k is same done =
    let new : take (i + 1) (slice_set xs i w) ≡ take i xs ++ w ∷ [] = take_more_set xs i w h in
    let old : take (i + 1) ys ≡ take i ys ++ r ∷ [] = take_more ys i r k ∙ ap (λ y. take i ys ++ y ∷ []) (sym is) in
    ap (map f) new ∙ map-append f (take i xs) (w ∷ []) ∙ ap (λ l. l ++ f w ∷ []) done ∙ ap (λ y. map g (map f (take i ys)) ++ y ∷ []) same
    ∙ sym (map-append g (map f (take i ys)) (f r ∷ [])) ∙ ap (map g) (sym (map-append f (take i ys) (r ∷ []))) ∙ ap (λ l. map g (map f l)) (sym old)

-- ---- a role

seen_document : (o : Option (Signed DelegatedTargets)) → option_map (λ s. record { name = s.signed.0; signatures = signatures_doc s.signatures.items; below = s.signed.1 }) (former-DelegatedRole-targets.map DelegatedTargets NamedTree named_tree o) ≡ option_map held_doc o
seen_document None = refl
seen_document (Some s) = refl

pub role-out : (r : DelegatedRole) → role_tree r ≡ (delegated_role_doc r, option_map held_doc (out-DelegatedRole r).targets)
role-out r = fold_out-DelegatedRole RoleTree DelegationsTree NamedTree TreeDoc role_level delegations_level delegated_level targets_level r ∙ ap (λ (o : Option HeldDoc). let x : RoleTree = (delegated_role_doc r, o) in x) (seen_document (out-DelegatedRole r).targets)

pub named-out : (d : DelegatedTargets) → named_tree d ≡ (string_bytes (out-DelegatedTargets d).name, tree_doc (out-DelegatedTargets d).targets)
named-out d = fold_out-DelegatedTargets RoleTree DelegationsTree NamedTree TreeDoc role_level delegations_level delegated_level targets_level d

-- what a role's document is, with all below it
pub held-below : (s : Signed DelegatedTargets) → (held_doc s).below ≡ tree_doc (out-DelegatedTargets s.signed).targets
held-below s = ap (λ (x : NamedTree). x.1) (named-out s.signed)

pub role-named : (r : DelegatedRole) → (role_tree r).0.name ≡ string_bytes (out-DelegatedRole r).name
role-named r = ap (λ (x : RoleTree). x.0.name) (role-out r)

pub role-held : (r : DelegatedRole) → (role_tree r).1 ≡ option_map held_doc (out-DelegatedRole r).targets
role-held r = ap (λ (x : RoleTree). x.1) (role-out r)

-- the roles from i on
pub branches-drop : (rs : List DelegatedRole) (i : ℕ) (r : DelegatedRole) → i < length rs → r ≡ get_or rs i r → role_branches (drop i rs) ≡ put_branch (role_tree r) (role_branches (drop (i + 1) rs))
branches-drop rs i r h e = ap role_branches (drop_more rs i r h ∙ ap (λ y. y ∷ drop (i + 1) rs) (sym e))

-- ---- a document by its delegations

pub tree-under : (t : Targets) (o : Option Delegations) → (out-Targets t).delegations ≡ o → tree_doc t ≡ tree (own (out-Targets t) (option_map delegations_tree o)) (branches_of (option_map delegations_tree o))
tree-under t o h = tree-out t ∙ ap (λ (x : Option Delegations). let p = option_map delegations_tree x in tree (own (out-Targets t) p) (branches_of p)) h

pub tree-leaf : (t : Targets) → (out-Targets t).delegations ≡ None → tree_doc t ≡ tree (own (out-Targets t) None) no_branches
tree-leaf t h = tree-under t None h

pub tree-inner : (t : Targets) (g : Delegations) → (out-Targets t).delegations ≡ Some g → tree_doc t ≡ tree (own (out-Targets t) (Some (delegations_shown (out-Delegations g)))) (role_branches (out-Delegations g).roles.items)
tree-inner t g h = tree-under t (Some g) h ∙ ap (λ (d : DelegationsTree). tree (own (out-Targets t) (Some d)) d.1) (delegations-out g)

-- ---- the documents of roles

pub held-push : (old new : List (Bor (Signed DelegatedTargets))) (s : Bor (Signed DelegatedTargets)) → new ≡ old ++ s ∷ [] → held_docs new ≡ held_docs old ++ held_doc s.now ∷ []
held-push old new s h = ap held_docs h ∙ map-append (λ (x : Bor (Signed DelegatedTargets)). held_doc x.now) old (s ∷ [])

-- ---- what a document says for itself

pub entries-put : (r : RoleTree) (bs : Branches) → entries_in (put_branch r bs) ≡ r.0 ∷ entries_in bs
entries-put (e, None) bs = refl
entries-put (e, Some h) bs = refl

entries-from : (rs : List DelegatedRole) → entries_in (branches_from (map role_tree rs)) ≡ map delegated_role_doc rs
entries-from [] = refl
entries-from (r ∷ rs) =
    entries-put (role_tree r) (branches_from (map role_tree rs)) ∙ ap (λ (x : RoleTree). x.0 ∷ entries_in (branches_from (map role_tree rs))) (role-out r) ∙ ap (λ l. delegated_role_doc r ∷ l) (entries-from rs)

pub delegations-top : (o : Option Delegations) → option_map delegations_doc o ≡ option_map (λ ks. record { keys = ks; roles = entries_in (branches_of (option_map delegations_tree o)) }) (option_map (λ (d : DelegationsTree). d.0) (option_map delegations_tree o))
delegations-top None = refl
delegations-top (Some g) = ap Some (sym (ap (λ (d : DelegationsTree). let x : DelegationsDoc = record { keys = d.0; roles = entries_in d.1 } in x) (delegations-out g) ∙ ap (λ es. let x : DelegationsDoc = record { keys = keys_doc (out-Delegations g).keys.entries; roles = es } in x) (entries-from (out-Delegations g).roles.items)))

pub top-tells : (t : Targets) → targets_doc t ≡ top_doc (tree_doc t)
top-tells t = ap (λ (o : Option DelegationsDoc). let x : TargetsDoc = record (targets_doc t) { delegations = o } in x) (delegations-top (out-Targets t).delegations) ∙ sym (ap top_doc (tree-out t))

pub named-roll : (x : DelegatedTargets-F DelegatedRole Delegations DelegatedTargets Targets) → named_tree (roll-DelegatedTargets x) ≡ (string_bytes x.name, tree_doc x.targets)
named-roll x = fold-roll-DelegatedTargets RoleTree DelegationsTree NamedTree TreeDoc role_level delegations_level delegated_level targets_level x
