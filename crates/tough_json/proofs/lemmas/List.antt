-- Lists of items, read and written one after another.
use Rattle.std.proofs.Common.{◌≡◌, List, [], ◌∷◌, ◌++◌, Option, Some, None, option_map, refl, sym, ap, ◌∙◌, append_assoc, append-nil}
use Rattle.serde_json.specs.declared.value.Value.{Value}
use Rattle.serde_json.specs.Data.{Data, Items, no_items, item}
use Rattle.serde_json.specs.View.{view, items_view}
use Rattle.tough_json.specs.Reading.{◌>>=◌, all_at}
use Rattle.tough_json.specs.Writing.{all_json}
use Rattle.tough_json.proofs.lemmas.Write.{bind_ok, some-inj}

-- what was read, and then what is read of the rest
abbrev pub after : {A : Type 0} → List A → Option (List A) → Option (List A)
after done rest = option_map (λ r. done ++ r) rest

pub all-start : {A : Type 0} (o : Option (List A)) → o ≡ after [] o
all-start (Some xs) = refl
all-start None = refl

more-at : {A : Type 0} (done : List A) (a : A) (o : Option (List A)) → after done (o >>= λ rest. Some (a ∷ rest)) ≡ after (done ++ a ∷ []) o
more-at done a (Some xs) = ap Some (sym (append_assoc done (a ∷ []) xs))
more-at done a None = refl

pub all-more : {A : Type 0} (f : Data → Option A) (done : List A) (d : Data) (ds : Items) (a : A) → f d ≡ Some a → after done (all_at f (item d ds)) ≡ after (done ++ a ∷ []) (all_at f ds)
unfolding all_at
all-more f done d ds a h = rw h (more-at done a (all_at f ds))

pub all-refused : {A : Type 0} (f : Data → Option A) (done : List A) (d : Data) (ds : Items) → f d ≡ None → after done (all_at f (item d ds)) ≡ None
unfolding all_at
all-refused f done d ds h = rw h refl

pub all-done : {A : Type 0} (f : Data → Option A) (done : List A) → after done (all_at f no_items) ≡ Some done
unfolding all_at
all-done f done = ap Some (append-nil done)

-- one more item at the end
abbrev pub snoc_item : Items → Data → Items
snoc_item no_items d = item d no_items
snoc_item (item e ds) d = item e (snoc_item ds d)

pub items_view-snoc : (vs : List Value) (v : Value) → items_view (vs ++ v ∷ []) ≡ snoc_item (items_view vs) (view v)
items_view-snoc [] v = refl
items_view-snoc (x ∷ vs) v = ap (item (view x)) (items_view-snoc vs v)

item2 : (o : Option Data) (q : Option Items) (x : Data) (r : Items) → o ≡ Some x → q ≡ Some r → (o >>= λ d. q >>= λ rest. Some (item d rest)) ≡ Some (item x r)
item2 o q x r h w = rw (h, w) refl

pub all_json-snoc : {A : Type 0} (g : A → Option Data) (xs : List A) (a : A) (ds : Items) (d : Data) → all_json g xs ≡ Some ds → g a ≡ Some d → all_json g (xs ++ a ∷ []) ≡ Some (snoc_item ds d)
unfolding all_json
all_json-snoc g [] a ds d h w = rw (w, ← some-inj h) refl
all_json-snoc g (x ∷ xs) a ds d h w =
    let first = bind_ok (g x) (λ y. all_json g xs >>= λ rest. Some (item y rest)) ds h in
    let others = bind_ok (all_json g xs) (λ rest. Some (item first.0 rest)) ds first.2 in
    item2 (g x) (all_json g (xs ++ a ∷ [])) first.0 (snoc_item others.0 d) first.1 (all_json-snoc g xs a others.0 d others.1 w) ∙ ap (λ (m : Items). Some (snoc_item m d)) (some-inj others.2)
