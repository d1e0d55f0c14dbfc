-- What the documents of a tree list, one after another.
use Rattle.std.proofs.Common.{◌≡◌, ℕ, ◌+◌, ◌<◌, List, [], ◌∷◌, ◌++◌, take, length, get_or, Some, None, option_map, Bor, Ordering, Less, Equal, Greater, refl, sym, ap, ◌∙◌, append_assoc, append-nil}
use Rattle.std.proofs.lemmas.List.{map-append, take_more}
use Rattle.std.specs.BTreeMap.{insert_entry}
use Rattle.std.specs.Ordering.{match_ordering}
use Rattle.tough_names.specs.Named.{Named, by_raw_then_resolved}
use Rattle.tough_roles.specs.declared.signed.Signed.{Signed}
use Rattle.tough_schema.specs.declared.delegations.DelegatedRole.{DelegatedRole, out-DelegatedRole}
use Rattle.tough_schema.specs.declared.target.Target.{Target}
use Rattle.tough_schema.specs.declared.targets.DelegatedTargets.{DelegatedTargets, out-DelegatedTargets}
use Rattle.tough_schema.specs.declared.targets.Targets.{Targets, out-Targets}
use Rattle.tough_schema.specs.Target.{TargetDoc, target_doc}
use Rattle.tough_schema.specs.Targets.{listing_doc}
use Rattle.tough_schema.specs.Tree.{Listing}
use Rattle.tough_schema.specs.Whole.{RoleTree, listing_of, tree_doc, role_tree, held_doc}
use Rattle.tough_schema.specs.Entries.{listed_of, listed_in, merged_into}
use Rattle.tough_schema.specs.Gather.{shown, listed_docs, map_docs}
use Rattle.tough_schema.proofs.lemmas.Wholes.{tree-out, role-held, held-below}

pub listing-tree : (t : Targets) → listing_of (tree_doc t) ≡ listing_doc (out-Targets t).targets.entries
listing-tree t = ap listing_of (tree-out t)

-- what the document of a role lists
pub listed-none : (r : DelegatedRole) → (out-DelegatedRole r).targets ≡ None → listed_of (role_tree r).1 ≡ []
listed-none r h = ap listed_of (role-held r ∙ ap (option_map held_doc) h)

pub listed-some : (r : DelegatedRole) (s : Signed DelegatedTargets) → (out-DelegatedRole r).targets ≡ Some s → listed_of (role_tree r).1 ≡ listing_doc (out-Targets (out-DelegatedTargets s.signed).targets).targets.entries
listed-some r s h = ap listed_of (role-held r ∙ ap (option_map held_doc) h) ∙ ap listing_of (held-below s) ∙ listing-tree (out-DelegatedTargets s.signed).targets

pub listed_in-append : (xs ys : List RoleTree) → listed_in (xs ++ ys) ≡ listed_in xs ++ listed_in ys
listed_in-append [] ys = refl
listed_in-append (x ∷ xs) ys = ap (λ l. listed_of x.1 ++ l) (listed_in-append xs ys) ∙ sym (append_assoc (listed_of x.1) (listed_in xs) (listed_in ys))

-- the entries up to i, and the one at i
pub listed_in-more : (rs : List (Bor DelegatedRole)) (i : ℕ) (r : Bor DelegatedRole) → i < length rs → r ≡ get_or rs i r
    → listed_in (shown (take (i + 1) rs)) ≡ listed_in (shown (take i rs)) ++ listed_of (role_tree r.now).1
listed_in-more rs i r h e =
    let here : take (i + 1) rs ≡ take i rs ++ r ∷ [] = take_more rs i r h ∙ ap (λ y. take i rs ++ y ∷ []) (sym e) in
    ap (λ l. listed_in (shown l)) here ∙ ap listed_in (map-append (λ (x : Bor DelegatedRole). role_tree x.now) (take i rs) (r ∷ [])) ∙ listed_in-append (shown (take i rs)) (role_tree r.now ∷ [])
    ∙ ap (λ l. listed_in (shown (take i rs)) ++ l) (append-nil (listed_of (role_tree r.now).1))

-- ---- a map

insert_at : (o : Ordering) (e : Named × Bor Target) (es rest : List (Named × Bor Target)) (name : Named) (t : Bor Target) (docs : Listing) → map_docs rest ≡ docs
    → map_docs (match_ordering o ((name, t) ∷ e ∷ es) ((e.0, t) ∷ es) (e ∷ rest)) ≡ match_ordering o ((name, target_doc t.now) ∷ map_docs (e ∷ es)) ((e.0, target_doc t.now) ∷ map_docs es) ((e.0, target_doc e.1.now) ∷ docs)
insert_at Less e es rest name t docs h = refl
insert_at Equal e es rest name t docs h = refl
insert_at Greater e es rest name t docs h = ap (λ l. (e.0, target_doc e.1.now) ∷ l) h

pub insert-map_docs : (es : List (Named × Bor Target)) (name : Named) (t : Bor Target) → map_docs (insert_entry by_raw_then_resolved es name t) ≡ insert_entry by_raw_then_resolved (map_docs es) name (target_doc t.now)
insert-map_docs [] name t = refl
insert-map_docs (e ∷ es) name t = insert_at (by_raw_then_resolved name e.0) e es (insert_entry by_raw_then_resolved es name t) name t (insert_entry by_raw_then_resolved (map_docs es) name (target_doc t.now)) (insert-map_docs es name t)

merged-last : (found xs : Listing) (e : Named × TargetDoc) → merged_into found (xs ++ e ∷ []) ≡ insert_entry by_raw_then_resolved (merged_into found xs) e.0 e.1
merged-last found [] e = refl
merged-last found (x ∷ xs) e = merged-last (insert_entry by_raw_then_resolved found x.0 x.1) xs e

docs-more : (es : List (Bor Named × Bor Target)) (i : ℕ) (e : Bor Named × Bor Target) → i < length es → e ≡ get_or es i e → listed_docs (take (i + 1) es) ≡ listed_docs (take i es) ++ (e.0.now, target_doc e.1.now) ∷ []
docs-more es i e h is =
    let here : take (i + 1) es ≡ take i es ++ e ∷ [] = take_more es i e h ∙ ap (λ y. take i es ++ y ∷ []) (sym is) in
    ap listed_docs here ∙ map-append (λ (x : Bor Named × Bor Target). (x.0.now, target_doc x.1.now)) (take i es) (e ∷ [])

pub merged-more : (found : Listing) (es : List (Bor Named × Bor Target)) (i : ℕ) (e : Bor Named × Bor Target) → i < length es → e ≡ get_or es i e
    → merged_into found (listed_docs (take (i + 1) es)) ≡ insert_entry by_raw_then_resolved (merged_into found (listed_docs (take i es))) e.0.now (target_doc e.1.now)
merged-more found es i e h is = ap (merged_into found) (docs-more es i e h is) ∙ merged-last found (listed_docs (take i es)) (e.0.now, target_doc e.1.now)
