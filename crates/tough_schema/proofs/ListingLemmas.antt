-- Targets that are read and written one after another.
use Rattle.std.proofs.Common.{◌≡◌, ℕ, List, [], ◌∷◌, ◌++◌, true, Option, Some, None, Result, Ok, Err, Ordering, Less, Equal, Greater, if◌then◌else◌, refl, ap}
use Rattle.std.specs.BTreeMap.{insert_entry}
use Rattle.std.specs.Ordering.{match_ordering}
use Rattle.std.proofs.lemmas.Slice.Eq.{bytes_eq-Decides}
use Rattle.serde_json.specs.Data.{Data, Members, no_members, member, Items, item}
use Rattle.tough_names.specs.Named.{Named, clean, by_raw_then_resolved}
use Rattle.tough_names.specs.declared.name.NameError.{NameError}
use Rattle.tough_json.specs.Reading.{◌>>=◌}
use Rattle.tough_json.specs.Writing.{with, all_json}
use Rattle.tough_roles.specs.Table.{table_from, table_json}
use Rattle.tough_schema.specs.declared.target.Target.{Target}
use Rattle.tough_schema.specs.Target.{TargetDoc, target_doc, target_json}
use Rattle.tough_schema.specs.Targets.{listing_doc, entry_at, listing_from, listing_json, resolves_to, raw_name}

-- ---- reading

insert_at : (o : Ordering) (e : Named × Target) (es rest : List (Named × Target)) (name : Named) (t : Target) (docs : List (Named × TargetDoc)) → listing_doc rest ≡ docs
    → listing_doc (match_ordering o ((name, t) ∷ e ∷ es) ((e.0, t) ∷ es) (e ∷ rest)) ≡ match_ordering o ((name, target_doc t) ∷ listing_doc (e ∷ es)) ((e.0, target_doc t) ∷ listing_doc es) ((e.0, target_doc e.1) ∷ docs)
insert_at Less e es rest name t docs h = refl
insert_at Equal e es rest name t docs h = refl
insert_at Greater e es rest name t docs h = ap (λ l. (e.0, target_doc e.1) ∷ l) h

pub insert-listing_doc : (es : List (Named × Target)) (name : Named) (t : Target) → listing_doc (insert_entry by_raw_then_resolved es name t) ≡ insert_entry by_raw_then_resolved (listing_doc es) name (target_doc t)
insert-listing_doc [] name t = refl
insert-listing_doc (e ∷ es) name t = insert_at (by_raw_then_resolved name e.0) e es (insert_entry by_raw_then_resolved es name t) name t (insert_entry by_raw_then_resolved (listing_doc es) name (target_doc t)) (insert-listing_doc es name t)

pub listing-more : (found : List (Named × TargetDoc)) (name : List ℕ) (d : Data) (ms : Members) (e : Named × TargetDoc) → entry_at name d ≡ Some e
    → listing_from found (member name d ms) ≡ listing_from (insert_entry by_raw_then_resolved found e.0 e.1) ms
unfolding table_from
listing-more found name d ms e h = rw h refl

pub listing-refused : (found : List (Named × TargetDoc)) (name : List ℕ) (d : Data) (ms : Members) → entry_at name d ≡ None → listing_from found (member name d ms) ≡ None
unfolding table_from
listing-refused found name d ms h = rw h refl

pub listing-done : (found : List (Named × TargetDoc)) → listing_from found no_members ≡ Some found
unfolding table_from
listing-done found = refl

-- ---- writing

resolves : (n : Named) (o : Result (List ℕ) NameError) → o ≡ Ok n.resolved → resolves_to o n.resolved ≡ true
resolves n (Ok r) h = let same : r ≡ n.resolved = cc in (bytes_eq-Decides r n.resolved).1 same
resolves n (Err e) h = cc

pub raw_name-is : (n : Named) → clean n.raw ≡ Ok n.resolved → raw_name n ≡ Some n.raw
raw_name-is n h = ap (λ b. if b then Some n.raw else None) (resolves n (clean n.raw) h)

pub listing_json-refused : (e : Named × TargetDoc) (es : List (Named × TargetDoc)) (found : Members) → target_json e.1 ≡ None → listing_json (e ∷ es) found ≡ None
unfolding table_json
listing_json-refused e es found h = rw h refl

pub listing_json-taken : (e : Named × TargetDoc) (es : List (Named × TargetDoc)) (found : Members) (d : Data) → target_json e.1 ≡ Some d → clean e.0.raw ≡ Ok e.0.resolved → with e.0.raw d found ≡ None → listing_json (e ∷ es) found ≡ None
unfolding table_json
listing_json-taken e es found d h s w = rw (h, raw_name-is e.0 s, w) refl

pub listing_json-more : (e : Named × TargetDoc) (es : List (Named × TargetDoc)) (found more : Members) (d : Data) → target_json e.1 ≡ Some d → clean e.0.raw ≡ Ok e.0.resolved → with e.0.raw d found ≡ Some more → listing_json (e ∷ es) found ≡ listing_json es more
unfolding table_json
listing_json-more e es found more d h s w = rw (h, raw_name-is e.0 s, w) refl

pub listing_json-done : (found : Members) → listing_json [] found ≡ Some found
unfolding table_json
listing_json-done found = refl

none2 : (o : Option Data) (q : Option Items) → q ≡ None → (o >>= λ d. q >>= λ rest. Some (item d rest)) ≡ None
none2 None q h = refl
none2 (Some d) q h = rw h refl

-- a value that isn't written
pub all_json-refused : {A : Type 0} (g : A → Option Data) (xs : List A) (a : A) (left : List A) → g a ≡ None → all_json g (xs ++ a ∷ left) ≡ None
unfolding all_json
all_json-refused g [] a left h = rw h refl
all_json-refused g (x ∷ xs) a left h = none2 (g x) (all_json g (xs ++ a ∷ left)) (all_json-refused g xs a left h)
