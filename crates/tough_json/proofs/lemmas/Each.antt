-- An object whose members are read one after another into a map.
use Rattle.std.proofs.Common.{◌≡◌, ℕ, List, [], ◌∷◌, ◌++◌, map, Option, Some, None, String, Global, string_bytes, string_cmp, Less, Greater, refl, sym, ap, subst, ◌∙◌}
use Rattle.std.specs.String.{string_cmp_total}
use Rattle.std.specs.BTreeMap.{insert_entry}
use Rattle.std.specs.List.{AllByRecursion}
use Rattle.std.specs.List.Sorted.{IsStrictlySortedBy}
use Rattle.std.specs.Map.{keys_of}
use Rattle.std.specs.Ordering.{ordering_reverse}
use Rattle.serde_json.specs.Data.{Data}
use Rattle.serde_json.specs.View.{view, members_view}
use Rattle.serde_json.proofs.Views.{Entry}
use Rattle.tough_json.specs.declared.error.ReadError.{ReadError}
use Rattle.tough_json.specs.declared.error.ReadError.TheVariants as errors
use Rattle.tough_json.specs.Results.{Refuses}
use Rattle.tough_json.specs.Reading.{◌>>=◌, each}

-- two runs of members
abbrev both : {A : Type 0} → Option (List (List ℕ × A)) → Option (List (List ℕ × A)) → Option (List (List ℕ × A))
both (Some xs) (Some ys) = Some (xs ++ ys)
both (Some xs) None = None
both None r = None

both-more : {A : Type 0} (k : List ℕ) (a : A) (p q : Option (List (List ℕ × A))) → (both p q >>= λ rest. Some ((k, a) ∷ rest)) ≡ both (p >>= λ rest. Some ((k, a) ∷ rest)) q
both-more k a (Some xs) (Some ys) = refl
both-more k a (Some xs) None = refl
both-more k a None q = refl

both-first : {A : Type 0} (q : Option (List (List ℕ × A))) → both (Some []) q ≡ q
both-first (Some ys) = refl
both-first None = refl

each-append-at : {A : Type 0} (k : List ℕ) (o : Option A) (p q r : Option (List (List ℕ × A))) → r ≡ both p q → (o >>= λ a. r >>= λ rest. Some ((k, a) ∷ rest)) ≡ both (o >>= λ a. p >>= λ rest. Some ((k, a) ∷ rest)) q
each-append-at k (Some a) p q r h = ap (λ s. s >>= λ rest. Some ((k, a) ∷ rest)) h ∙ both-more k a p q
each-append-at k None p q r h = refl

pub each-append : {A : Type 0} (f : Data → Option A) (xs ys : List Entry) → each f (members_view (xs ++ ys)) ≡ both (each f (members_view xs)) (each f (members_view ys))
unfolding each
each-append f [] ys = sym (both-first (each f (members_view ys)))
each-append f (x ∷ xs) ys = each-append-at (string_bytes x.0) (f (view x.1)) (each f (members_view xs)) (each f (members_view ys)) (each f (members_view (xs ++ ys))) (each-append f xs ys)

-- a member that is read
pub each-more : {A : Type 0} (f : Data → Option A) (done : List Entry) (e : Entry) (xs : List (List ℕ × A)) (a : A) → each f (members_view done) ≡ Some xs → f (view e.1) ≡ Some a
    → each f (members_view (done ++ e ∷ [])) ≡ Some (xs ++ (string_bytes e.0, a) ∷ [])
unfolding each
each-more f done e xs a h g = each-append f done (e ∷ []) ∙ rw (h, g) refl

-- one that is refused
pub each-refused : {A : Type 0} (f : Data → Option A) (done : List Entry) (e : Entry) (left : List Entry) (xs : List (List ℕ × A)) → each f (members_view done) ≡ Some xs → f (view e.1) ≡ None
    → each f (members_view (done ++ e ∷ left)) ≡ None
unfolding each
each-refused f done e left xs h g = each-append f done (e ∷ left) ∙ rw (h, g) refl

pub below_middle : (first : String Global) (es : List (String Global)) (e : String Global) (more : List (String Global)) → AllByRecursion (λ y. string_cmp first y ≡ Less) (es ++ e ∷ more) → string_cmp first e ≡ Less
below_middle first [] e more h = h.0
below_middle first (x ∷ es) e more h = below_middle first es e more h.1

-- a key above all others goes last
pub insert_entry-last : {X : Type 0} (es : List (String Global × X)) (k : String Global) (v : X) (more : List (String Global)) → IsStrictlySortedBy string_cmp (keys_of es ++ k ∷ more) → insert_entry string_cmp es k v ≡ es ++ (k, v) ∷ []
unfolding IsStrictlySortedBy
insert_entry-last [] k v more h = refl
insert_entry-last (e ∷ es) k v more h =
    let above : string_cmp k e.0 ≡ Greater = string_cmp_total.antisymm k e.0 ∙ ap ordering_reverse (below_middle e.0 (keys_of es) k more h.0) in
    rw above (ap (λ l. e ∷ l) (insert_entry-last es k v more h.1))

pub keys_of-append : {X : Type 0} (xs ys : List (String Global × X)) → keys_of (xs ++ ys) ≡ keys_of xs ++ keys_of ys
keys_of-append [] ys = refl
keys_of-append (x ∷ xs) ys = ap (λ l. x.0 ∷ l) (keys_of-append xs ys)

-- the same where the keys are those of the members so far
pub insert_entry-next : {X : Type 0} (es : List (String Global × X)) (done : List Entry) (e : Entry) (left : List Entry) (v : X) → keys_of es ≡ keys_of done → IsStrictlySortedBy string_cmp (keys_of (done ++ e ∷ left)) → insert_entry string_cmp es e.0 v ≡ es ++ (e.0, v) ∷ []
insert_entry-next es done e left v same h =
    insert_entry-last es e.0 v (keys_of left) (subst (λ ks. IsStrictlySortedBy string_cmp (ks ++ e.0 ∷ keys_of left)) (sym same) (subst (IsStrictlySortedBy string_cmp) (keys_of-append done (e ∷ left)) h))

-- a refusal of a part refuses the whole
pub refuses-map : {X Y : Type 0} (part : Option X) (whole : Option Y) (e : ReadError) → (part ≡ None → whole ≡ None) → Refuses e part → Refuses e whole
refuses-map part whole (errors.Json place) h r = r
refuses-map part whole (errors.Shape s) h r = h r
refuses-map part whole errors.Memory h r = r

pub map-append : {A B : Type 0} (f : A → B) (xs ys : List A) → map f (xs ++ ys) ≡ map f xs ++ map f ys
map-append f [] ys = refl
map-append f (x ∷ xs) ys = ap (λ l. f x ∷ l) (map-append f xs ys)
