-- Entries that are put into a map one after another.
use Rattle.std.proofs.Common.{◌≡◌, ℕ, List, [], ◌∷◌, map, Option, Some, None, true, Ordering, Less, Equal, Greater, refl, ap}
use Rattle.std.specs.BTreeMap.{insert_entry}
use Rattle.std.specs.Ordering.{match_ordering}
use Rattle.serde_json.specs.Data.{Data, Members, no_members, member}
use Rattle.tough_json.specs.Table.{table_from}

abbrev pub docs : {K X Y : Type 0} → (X → Y) → List (K × X) → List (K × Y)
docs f es = map (λ e. (e.0, f e.1)) es

insert-at : {K X Y : Type 0} (f : X → Y) (o : Ordering) (e : K × X) (es rest : List (K × X)) (k : K) (x : X) (ds : List (K × Y)) → docs f rest ≡ ds
    → docs f (match_ordering o ((k, x) ∷ e ∷ es) ((e.0, x) ∷ es) (e ∷ rest)) ≡ match_ordering o ((k, f x) ∷ docs f (e ∷ es)) ((e.0, f x) ∷ docs f es) ((e.0, f e.1) ∷ ds)
insert-at f Less e es rest k x ds h = refl
insert-at f Equal e es rest k x ds h = refl
insert-at f Greater e es rest k x ds h = ap (λ l. (e.0, f e.1) ∷ l) h

pub insert-docs : {K X Y : Type 0} (cmp : K → K → Ordering) (f : X → Y) (es : List (K × X)) (k : K) (x : X) → docs f (insert_entry cmp es k x) ≡ insert_entry cmp (docs f es) k (f x)
insert-docs cmp f [] k x = refl
insert-docs cmp f (e ∷ es) k x = insert-at f (cmp k e.0) e es (insert_entry cmp es k x) k x (insert_entry cmp (docs f es) k (f x)) (insert-docs cmp f es k x)

pub table-more : {K Y : Type 0} (cmp : K → K → Ordering) (entry : List ℕ → Data → Option (K × Y)) (found : List (K × Y)) (name : List ℕ) (d : Data) (ms : Members) (r : K × Y) → entry name d ≡ Some r
    → table_from (λ there. true) cmp entry found (member name d ms) ≡ table_from (λ there. true) cmp entry (insert_entry cmp found r.0 r.1) ms
unfolding table_from
table-more cmp entry found name d ms r h = rw h refl

pub table-refused : {K Y : Type 0} (cmp : K → K → Ordering) (entry : List ℕ → Data → Option (K × Y)) (found : List (K × Y)) (name : List ℕ) (d : Data) (ms : Members) → entry name d ≡ None
    → table_from (λ there. true) cmp entry found (member name d ms) ≡ None
unfolding table_from
table-refused cmp entry found name d ms h = rw h refl

pub table-done : {K Y : Type 0} (cmp : K → K → Ordering) (entry : List ℕ → Data → Option (K × Y)) (found : List (K × Y)) → table_from (λ there. true) cmp entry found no_members ≡ Some found
unfolding table_from
table-done cmp entry found = refl
