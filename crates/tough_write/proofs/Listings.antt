-- What documents list, one after another.
use Rattle.std.proofs.Common.{◌≡◌, ℕ, ◌+◌, ◌<◌, List, [], ◌∷◌, ◌++◌, take, length, get_or, option_map, Bor, Ordering, Less, Equal, Greater, refl, sym, ap, ◌∙◌, append-nil}
use Rattle.std.proofs.lemmas.List.{map-append, take_more}
use Rattle.std.specs.BTreeMap.{insert_entry, is_at}
use Rattle.std.specs.Map.{lookup}
use Rattle.std.specs.Ordering.{match_ordering}
use Rattle.tough_names.specs.Named.{Named, by_raw_then_resolved}
use Rattle.tough_schema.specs.declared.target.Target.{Target}
use Rattle.tough_schema.specs.declared.targets.DelegatedTargets.{DelegatedTargets}
use Rattle.tough_schema.specs.Entries.{merged_into}
use Rattle.tough_schema.specs.Gather.{listed_docs, map_docs}
use Rattle.tough_schema.specs.Search.{listed}
use Rattle.tough_schema.specs.Target.{TargetDoc, target_doc}
use Rattle.tough_schema.specs.Tree.{Listing}
use Rattle.tough_signed.specs.declared.signed_role.SignedRole.{SignedRole}
use Rattle.tough_write.specs.Listed.{listed_by, listed_in_role}

-- ---- a map

insert_at : (o : Ordering) (e : Named × Bor Target) (es rest : List (Named × Bor Target)) (name : Named) (t : Bor Target) (docs : Listing) → map_docs rest ≡ docs
    → map_docs (match_ordering o ((name, t) ∷ e ∷ es) ((e.0, t) ∷ es) (e ∷ rest)) ≡ match_ordering o ((name, target_doc t.now) ∷ map_docs (e ∷ es)) ((e.0, target_doc t.now) ∷ map_docs es) ((e.0, target_doc e.1.now) ∷ docs)
insert_at Less e es rest name t docs h = refl
insert_at Equal e es rest name t docs h = refl
insert_at Greater e es rest name t docs h = ap (λ l. (e.0, target_doc e.1.now) ∷ l) h

pub insert-map_docs : (es : List (Named × Bor Target)) (name : Named) (t : Bor Target) → map_docs (insert_entry by_raw_then_resolved es name t) ≡ insert_entry by_raw_then_resolved (map_docs es) name (target_doc t.now)
insert-map_docs [] name t = refl
insert-map_docs (e ∷ es) name t = insert_at (by_raw_then_resolved name e.0) e es (insert_entry by_raw_then_resolved es name t) name t (insert_entry by_raw_then_resolved (map_docs es) name (target_doc t.now)) (insert-map_docs es name t)

get_at : (o : Ordering) (e : Named × Bor Target) (es : List (Named × Bor Target)) (name : Named) → listed name (map_docs es) ≡ option_map (λ (t : Bor Target). target_doc t.now) (lookup (is_at (by_raw_then_resolved name)) es)
    → by_raw_then_resolved name e.0 ≡ o → listed name (map_docs (e ∷ es)) ≡ option_map (λ (t : Bor Target). target_doc t.now) (lookup (is_at (by_raw_then_resolved name)) (e ∷ es))
get_at Less e es name h is = rw is h
get_at Equal e es name h is = rw is refl
get_at Greater e es name h is = rw is h

-- what is listed under a name
pub get-map_docs : (name : Named) (es : List (Named × Bor Target)) → listed name (map_docs es) ≡ option_map (λ (t : Bor Target). target_doc t.now) (lookup (is_at (by_raw_then_resolved name)) es)
get-map_docs name [] = refl
get-map_docs name (e ∷ es) = get_at (by_raw_then_resolved name e.0) e es name (get-map_docs name es) refl

-- ---- listings

merged-last : (found xs : Listing) (e : Named × TargetDoc) → merged_into found (xs ++ e ∷ []) ≡ insert_entry by_raw_then_resolved (merged_into found xs) e.0 e.1
merged-last found [] e = refl
merged-last found (x ∷ xs) e = merged-last (insert_entry by_raw_then_resolved found x.0 x.1) xs e

docs-more : (es : List (Bor Named × Bor Target)) (i : ℕ) (e : Bor Named × Bor Target) → i < length es → e ≡ get_or es i e → listed_docs (take (i + 1) es) ≡ listed_docs (take i es) ++ (e.0.now, target_doc e.1.now) ∷ []
docs-more es i e h is =
    let here : take (i + 1) es ≡ take i es ++ e ∷ [] = take_more es i e h ∙ ap (λ y. take i es ++ y ∷ []) (sym is) in
    ap listed_docs here ∙ map-append (λ (x : Bor Named × Bor Target). (x.0.now, target_doc x.1.now)) (take i es) (e ∷ [])

-- one more of a list is merged
pub merged-more : (found : Listing) (es : List (Bor Named × Bor Target)) (i : ℕ) (e : Bor Named × Bor Target) → i < length es → e ≡ get_or es i e
    → merged_into found (listed_docs (take (i + 1) es)) ≡ insert_entry by_raw_then_resolved (merged_into found (listed_docs (take i es))) e.0.now (target_doc e.1.now)
merged-more found es i e h is = ap (merged_into found) (docs-more es i e h is) ∙ merged-last found (listed_docs (take i es)) (e.0.now, target_doc e.1.now)

merged-append : (found xs ys : Listing) → merged_into found (xs ++ ys) ≡ merged_into (merged_into found xs) ys
merged-append found [] ys = refl
merged-append found (x ∷ xs) ys = merged-append (insert_entry by_raw_then_resolved found x.0 x.1) xs ys

merged-role : (found : Listing) (xs : List (SignedRole DelegatedTargets)) (r : SignedRole DelegatedTargets)
    → merged_into found (listed_by (xs ++ r ∷ [])) ≡ merged_into (merged_into found (listed_by xs)) (listed_in_role r)
merged-role found [] r = ap (merged_into found) (append-nil (listed_in_role r))
merged-role found (x ∷ xs) r =
    merged-append found (listed_in_role x) (listed_by (xs ++ r ∷ [])) ∙ merged-role (merged_into found (listed_in_role x)) xs r
    ∙ ap (λ f. merged_into f (listed_in_role r)) (sym (merged-append found (listed_in_role x) (listed_by xs)))

-- one more document is merged
pub merged-next : (rs : List (SignedRole DelegatedTargets)) (i : ℕ) (r : SignedRole DelegatedTargets) → i < length rs → r ≡ get_or rs i r
    → merged_into [] (listed_by (take (i + 1) rs)) ≡ merged_into (merged_into [] (listed_by (take i rs))) (listed_in_role r)
merged-next rs i r h is =
    let here : take (i + 1) rs ≡ take i rs ++ r ∷ [] = take_more rs i r h ∙ ap (λ y. take i rs ++ y ∷ []) (sym is) in
    ap (λ xs. merged_into [] (listed_by xs)) here ∙ merged-role [] (take i rs) r
