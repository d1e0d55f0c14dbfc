-- What is written for a map is read as it, in whatever order the names stand.
use Rattle.std.proofs.Common.{◌≡◌, ℕ, List, [], ◌∷◌, ◌++◌, Bool, true, false, cond, Option, Some, None, option_map, Ordering, Less, Equal, Greater, is_eq, nat_cmp, refl, sym, ap, subst, ◌∙◌, append_assoc, append-nil}
use Rattle.std.specs.Cmp.{IsTotalOrder}
use Rattle.std.specs.Cmp.Lexicographic.{slice_cmp}
use Rattle.std.specs.BTreeMap.{insert_entry, is_at}
use Rattle.std.specs.Map.{lookup, keys_of}
use Rattle.std.specs.List.{AllByRecursion}
use Rattle.std.specs.List.Sorted.{IsStrictlySortedBy}
use Rattle.std.specs.Ordering.{ordering_reverse}
use Rattle.serde_json.specs.Data.{Data, Members, no_members, member, put}
use Rattle.serde_json.specs.Find.{get_member}
use Rattle.tough_json.specs.Reading.{◌>>=◌}
use Rattle.tough_json.specs.Writing.{with, if_free}
use Rattle.tough_json.proofs.lemmas.Write.{bind_ok, some-inj}
use Rattle.tough_roles.specs.Table.{with_entry, table_from, table_json}

-- ---- an entry that is put into a list

reverse_is : {K : Type 0} {R : K → K → Ordering} (o : IsTotalOrder R) (a b : K) (t : Ordering) → R a b ≡ t → R b a ≡ ordering_reverse t
reverse_is o a b t h = o.antisymm b a ∙ ap ordering_reverse h

-- tied keys compare alike
tied_right : {K : Type 0} {R : K → K → Ordering} (o : IsTotalOrder R) (q a b : K) → R a b ≡ Equal → R q a ≡ R q b
tied_right o q a b h = o.antisymm q a ∙ ap ordering_reverse (o.congr a b q h) ∙ sym (o.antisymm q b)

both_tied : {K : Type 0} {R : K → K → Ordering} (o : IsTotalOrder R) (a b e : K) → R a e ≡ Equal → R b e ≡ Equal → R a b ≡ Equal
both_tied o a b e h k = o.congr a e b h ∙ reverse_is o b e Equal k

eq_is : (t : Ordering) → is_eq t ≡ true → t ≡ Equal
eq_is Less h = cc
eq_is Equal h = refl
eq_is Greater h = cc

not_eq : (t : Ordering) → (t ≡ Equal → ⊥) → is_eq t ≡ false
not_eq Less h = refl
not_eq Equal h = absurd (h refl)
not_eq Greater h = refl

twice_cond : {A : Type 0} (b : Bool) (v w : A) → cond b v w ≡ cond b v (cond b w w)
twice_cond true v w = refl
twice_cond false v w = refl

replaced : {A : Type 0} (b : Bool) (v u l : A) → cond b v l ≡ cond b v (cond b u l)
replaced true v u l = refl
replaced false v u l = refl

swapped : {A : Type 0} (b c : Bool) (u v l : A) → (b ≡ true → c ≡ true → ⊥) → cond b u (cond c v l) ≡ cond c v (cond b u l)
swapped true true u v l h = absurd (h refl refl)
swapped true false u v l h = refl
swapped false true u v l h = refl
swapped false false u v l h = refl

lookup_at : {K X : Type 0} {R : K → K → Ordering} (o : IsTotalOrder R) (e : K × X) (es : List (K × X)) (k : K) (v : X) (q : K) (t : Ordering) → R k e.0 ≡ t
    → lookup (is_at (R q)) (insert_entry R es k v) ≡ cond (is_eq (R q k)) (Some v) (lookup (is_at (R q)) es)
    → lookup (is_at (R q)) (insert_entry R (e ∷ es) k v) ≡ cond (is_eq (R q k)) (Some v) (lookup (is_at (R q)) (e ∷ es))
lookup_at o e es k v q Less h later = rw h refl
lookup_at {R = R} o e es k v q Equal h later =
    rw (h, tied_right o q k e.0 h) (replaced (is_eq (R q e.0)) (Some v) (Some e.1) (lookup (is_at (R q)) es))
lookup_at {R = R} o e es k v q Greater h later =
    rw (h, later) (swapped (is_eq (R q e.0)) (is_eq (R q k)) (Some e.1) (Some v) (lookup (is_at (R q)) es)
    (λ b c. let same : R k e.0 ≡ Equal = both_tied o k e.0 q (reverse_is o q k Equal (eq_is (R q k) c)) (reverse_is o q e.0 Equal (eq_is (R q e.0) b)) in let clash : Greater ≡ Equal = sym h ∙ same in cc))

pub lookup-insert : {K X : Type 0} {R : K → K → Ordering} (o : IsTotalOrder R) (es : List (K × X)) (k : K) (v : X) (q : K)
    → lookup (is_at (R q)) (insert_entry R es k v) ≡ cond (is_eq (R q k)) (Some v) (lookup (is_at (R q)) es)
lookup-insert o [] k v q = refl
lookup-insert {R = R} o (e ∷ es) k v q = lookup_at o e es k v q (R k e.0) refl (lookup-insert o es k v q)

-- ---- two entries of different keys are put in either order

first_less : {K X : Type 0} (R : K → K → Ordering) (e : K × X) (es : List (K × X)) (k : K) (v : X) → R k e.0 ≡ Less → insert_entry R (e ∷ es) k v ≡ (k, v) ∷ e ∷ es
first_less R e es k v h = rw h refl

first_equal : {K X : Type 0} (R : K → K → Ordering) (e : K × X) (es : List (K × X)) (k : K) (v : X) → R k e.0 ≡ Equal → insert_entry R (e ∷ es) k v ≡ (e.0, v) ∷ es
first_equal R e es k v h = rw h refl

first_greater : {K X : Type 0} (R : K → K → Ordering) (e : K × X) (es : List (K × X)) (k : K) (v : X) → R k e.0 ≡ Greater → insert_entry R (e ∷ es) k v ≡ e ∷ insert_entry R es k v
first_greater R e es k v h = rw h refl

-- one goes before the first, the other replaces it, or goes after it
less_equal : {K X : Type 0} {R : K → K → Ordering} (o : IsTotalOrder R) (e : K × X) (es : List (K × X)) (a : K) (x : X) (b : K) (y : X) → R a e.0 ≡ Less → R b e.0 ≡ Equal
    → insert_entry R (insert_entry R (e ∷ es) a x) b y ≡ insert_entry R (insert_entry R (e ∷ es) b y) a x
less_equal {R = R} o e es a x b y p q =
    let above : R b a ≡ Greater = o.congr b e.0 a q ∙ reverse_is o a e.0 Less p in
    ap (λ l. insert_entry R l b y) (first_less R e es a x p) ∙ first_greater R (a, x) (e ∷ es) b y above ∙ ap (λ l. (a, x) ∷ l) (first_equal R e es b y q)
    ∙ sym (ap (λ l. insert_entry R l a x) (first_equal R e es b y q) ∙ first_less R (e.0, y) es a x p)

less_greater : {K X : Type 0} {R : K → K → Ordering} (o : IsTotalOrder R) (e : K × X) (es : List (K × X)) (a : K) (x : X) (b : K) (y : X) → R a e.0 ≡ Less → R b e.0 ≡ Greater
    → insert_entry R (insert_entry R (e ∷ es) a x) b y ≡ insert_entry R (insert_entry R (e ∷ es) b y) a x
less_greater {R = R} o e es a x b y p q =
    let above : R b a ≡ Greater = reverse_is o a b Less (o.trans a e.0 b p (reverse_is o b e.0 Greater q)) in
    ap (λ l. insert_entry R l b y) (first_less R e es a x p) ∙ first_greater R (a, x) (e ∷ es) b y above ∙ ap (λ l. (a, x) ∷ l) (first_greater R e es b y q)
    ∙ sym (ap (λ l. insert_entry R l a x) (first_greater R e es b y q) ∙ first_less R e (insert_entry R es b y) a x p)

equal_greater : {K X : Type 0} (R : K → K → Ordering) (e : K × X) (es : List (K × X)) (a : K) (x : X) (b : K) (y : X) → R a e.0 ≡ Equal → R b e.0 ≡ Greater
    → insert_entry R (insert_entry R (e ∷ es) a x) b y ≡ insert_entry R (insert_entry R (e ∷ es) b y) a x
equal_greater R e es a x b y p q =
    ap (λ l. insert_entry R l b y) (first_equal R e es a x p) ∙ first_greater R (e.0, x) es b y q
    ∙ sym (ap (λ l. insert_entry R l a x) (first_greater R e es b y q) ∙ first_equal R e (insert_entry R es b y) a x p)

less_less : {K X : Type 0} {R : K → K → Ordering} (o : IsTotalOrder R) (e : K × X) (es : List (K × X)) (a : K) (x : X) (b : K) (y : X) (t : Ordering) → R a e.0 ≡ Less → R b e.0 ≡ Less → R a b ≡ t → (R a b ≡ Equal → ⊥)
    → insert_entry R ((a, x) ∷ e ∷ es) b y ≡ insert_entry R ((b, y) ∷ e ∷ es) a x
less_less o e es a x b y Less p q r apart = rw (reverse_is o a b Less r, r, q) refl
less_less o e es a x b y Equal p q r apart = absurd (apart r)
less_less o e es a x b y Greater p q r apart = rw (reverse_is o a b Greater r, r, p) refl

comm_empty : {K X : Type 0} {R : K → K → Ordering} (o : IsTotalOrder R) (a : K) (x : X) (b : K) (y : X) (t : Ordering) → R a b ≡ t → (R a b ≡ Equal → ⊥)
    → insert_entry R ((a, x) ∷ []) b y ≡ insert_entry R ((b, y) ∷ []) a x
comm_empty o a x b y Less r apart = rw (reverse_is o a b Less r, r) refl
comm_empty o a x b y Equal r apart = absurd (apart r)
comm_empty o a x b y Greater r apart = rw (reverse_is o a b Greater r, r) refl

comm_at : {K X : Type 0} {R : K → K → Ordering} (o : IsTotalOrder R) (e : K × X) (es : List (K × X)) (a : K) (x : X) (b : K) (y : X) (s t : Ordering) → R a e.0 ≡ s → R b e.0 ≡ t → (R a b ≡ Equal → ⊥)
    → insert_entry R (insert_entry R es a x) b y ≡ insert_entry R (insert_entry R es b y) a x
    → insert_entry R (insert_entry R (e ∷ es) a x) b y ≡ insert_entry R (insert_entry R (e ∷ es) b y) a x
comm_at {R = R} o e es a x b y Less Less p q apart later =
    ap (λ l. insert_entry R l b y) (first_less R e es a x p) ∙ less_less o e es a x b y (R a b) p q refl apart ∙ sym (ap (λ l. insert_entry R l a x) (first_less R e es b y q))
comm_at o e es a x b y Less Equal p q apart later = less_equal o e es a x b y p q
comm_at o e es a x b y Less Greater p q apart later = less_greater o e es a x b y p q
comm_at o e es a x b y Equal Less p q apart later = sym (less_equal o e es b y a x q p)
comm_at {R = R} o e es a x b y Equal Equal p q apart later = absurd (apart (both_tied o a b e.0 p q))
comm_at {R = R} o e es a x b y Equal Greater p q apart later = equal_greater R e es a x b y p q
comm_at o e es a x b y Greater Less p q apart later = sym (less_greater o e es b y a x q p)
comm_at {R = R} o e es a x b y Greater Equal p q apart later = sym (equal_greater R e es b y a x q p)
comm_at {R = R} o e es a x b y Greater Greater p q apart later =
    ap (λ l. insert_entry R l b y) (first_greater R e es a x p) ∙ first_greater R e (insert_entry R es a x) b y q ∙ ap (λ l. e ∷ l) later
    ∙ sym (ap (λ l. insert_entry R l a x) (first_greater R e es b y q) ∙ first_greater R e (insert_entry R es b y) a x p)

pub insert-comm : {K X : Type 0} {R : K → K → Ordering} (o : IsTotalOrder R) (es : List (K × X)) (a : K) (x : X) (b : K) (y : X) → (R a b ≡ Equal → ⊥)
    → insert_entry R (insert_entry R es a x) b y ≡ insert_entry R (insert_entry R es b y) a x
insert-comm {R = R} o [] a x b y apart = comm_empty o a x b y (R a b) refl apart
insert-comm {R = R} o (e ∷ es) a x b y apart = comm_at o e es a x b y (R a e.0) (R b e.0) refl refl apart (insert-comm o es a x b y apart)

-- ---- a member that is put in anywhere

put_less : (k : List ℕ) (d : Data) (l : List ℕ) (c : Data) (ms : Members) → slice_cmp nat_cmp k l ≡ Less → put k d (member l c ms) ≡ member k d (member l c ms)
put_less k d l c ms h = rw h refl

put_greater : (k : List ℕ) (d : Data) (l : List ℕ) (c : Data) (ms : Members) → slice_cmp nat_cmp k l ≡ Greater → put k d (member l c ms) ≡ member l c (put k d ms)
put_greater k d l c ms h = rw h refl

-- no member is an entry of that key
abbrev pub IsFree : {K X : Type 0} → (K → K → Ordering) → (List ℕ → Data → Option (K × X)) → K → Members → Type 0
IsFree R entry id no_members = Unit {0}
IsFree R entry id (member l d ms) = ((e : _) → entry l d ≡ Some e → R id e.0 ≡ Equal → ⊥) × IsFree R entry id ms

may_same : {K X : Type 0} {R : K → K → Ordering} (o : IsTotalOrder R) (may : Option X → Bool) (fs : List (K × X)) (id : K) (x : X) (e : K × X) → (R id e.0 ≡ Equal → ⊥)
    → may (lookup (is_at (R e.0)) (insert_entry R fs id x)) ≡ may (lookup (is_at (R e.0)) fs)
may_same {R = R} o may fs id x e apart =
    let other : is_eq (R e.0 id) ≡ false = not_eq (R e.0 id) (λ same. apart (reverse_is o e.0 id Equal same)) in
    ap may (lookup-insert o fs id x e.0 ∙ ap (λ b. cond b (Some x) (lookup (is_at (R e.0)) fs)) other)

first_with : {K X : Type 0} {R : K → K → Ordering} (o : IsTotalOrder R) (may : Option X → Bool) (rest : List (K × X) → Option (List (K × X))) (fs : List (K × X)) (id : K) (x : X) (e : K × X) (b : Bool) → may (lookup (is_at (R e.0)) fs) ≡ b → (R id e.0 ≡ Equal → ⊥)
    → rest (insert_entry R (insert_entry R fs e.0 e.1) id x) ≡ option_map (λ es. insert_entry R es id x) (rest (insert_entry R fs e.0 e.1))
    → (with_entry may R (insert_entry R fs id x) e >>= rest) ≡ option_map (λ es. insert_entry R es id x) (with_entry may R fs e >>= rest)
first_with {R = R} o may rest fs id x e true h apart later =
    rw (may_same o may fs id x e apart, h) (ap rest (insert-comm o fs id x e.0 e.1 apart) ∙ later)
first_with {R = R} o may rest fs id x e false h apart later = rw (may_same o may fs id x e apart, h) refl

first_at : {K X : Type 0} {R : K → K → Ordering} (o : IsTotalOrder R) (may : Option X → Bool) (rest : List (K × X) → Option (List (K × X))) (fs : List (K × X)) (id : K) (x : X) (oe : Option (K × X)) → ((e : K × X) → oe ≡ Some e → R id e.0 ≡ Equal → ⊥)
    → ((e : K × X) → oe ≡ Some e → rest (insert_entry R (insert_entry R fs e.0 e.1) id x) ≡ option_map (λ es. insert_entry R es id x) (rest (insert_entry R fs e.0 e.1)))
    → (oe >>= λ e. with_entry may R (insert_entry R fs id x) e >>= rest) ≡ option_map (λ es. insert_entry R es id x) (oe >>= λ e. with_entry may R fs e >>= rest)
first_at o may rest fs id x None apart later = refl
first_at {R = R} o may rest fs id x (Some e) apart later = first_with o may rest fs id x e (may (lookup (is_at (R e.0)) fs)) refl (apart e refl) (later e refl)

-- an entry put in first might as well be put in last
pub put-first : {K X : Type 0} {R : K → K → Ordering} (o : IsTotalOrder R) (may : Option X → Bool) (entry : List ℕ → Data → Option (K × X)) (id : K) (x : X) (ms : Members) (fs : List (K × X)) → IsFree R entry id ms
    → table_from may R entry (insert_entry R fs id x) ms ≡ option_map (λ es. insert_entry R es id x) (table_from may R entry fs ms)
unfolding table_from
put-first o may entry id x no_members fs free = refl
put-first {R = R} o may entry id x (member l d ms) fs free =
    first_at o may (λ more. table_from may R entry more ms) fs id x (entry l d) free.0 (λ e is. put-first o may entry id x ms (insert_entry R fs e.0 e.1) free.1)

put_with : {K X : Type 0} {R : K → K → Ordering} (o : IsTotalOrder R) (may : Option X → Bool) (rest new : List (K × X) → Option (List (K × X))) (fs : List (K × X)) (id : K) (x : X) (e : K × X) (b : Bool) → may (lookup (is_at (R e.0)) fs) ≡ b
    → new (insert_entry R fs e.0 e.1) ≡ option_map (λ es. insert_entry R es id x) (rest (insert_entry R fs e.0 e.1))
    → (with_entry may R fs e >>= new) ≡ option_map (λ es. insert_entry R es id x) (with_entry may R fs e >>= rest)
put_with o may rest new fs id x e true h later = rw h later
put_with o may rest new fs id x e false h later = rw h refl

put_some : {K X : Type 0} {R : K → K → Ordering} (o : IsTotalOrder R) (may : Option X → Bool) (rest new : List (K × X) → Option (List (K × X))) (fs : List (K × X)) (id : K) (x : X) (oe : Option (K × X))
    → ((e : K × X) → oe ≡ Some e → new (insert_entry R fs e.0 e.1) ≡ option_map (λ es. insert_entry R es id x) (rest (insert_entry R fs e.0 e.1)))
    → (oe >>= λ e. with_entry may R fs e >>= new) ≡ option_map (λ es. insert_entry R es id x) (oe >>= λ e. with_entry may R fs e >>= rest)
put_some o may rest new fs id x None later = refl
put_some {R = R} o may rest new fs id x (Some e) later = put_with o may rest new fs id x e (may (lookup (is_at (R e.0)) fs)) refl (later e refl)

front : {K X : Type 0} (R : K → K → Ordering) (may : Option X → Bool) (entry : List ℕ → Data → Option (K × X)) (id : K) (x : X) (k : List ℕ) (d : Data) (ms : Members) (fs : List (K × X)) → entry k d ≡ Some (id, x) → may (lookup (is_at (R id)) fs) ≡ true
    → table_from may R entry fs (member k d ms) ≡ table_from may R entry (insert_entry R fs id x) ms
unfolding table_from
front R may entry id x k d ms fs e h = rw (e, h) refl

may_after : {K X : Type 0} {R : K → K → Ordering} (o : IsTotalOrder R) (may : Option X → Bool) (fs : List (K × X)) (id : K) (e : K × X) → (R id e.0 ≡ Equal → ⊥) → may (lookup (is_at (R id)) fs) ≡ true → may (lookup (is_at (R id)) (insert_entry R fs e.0 e.1)) ≡ true
may_after {R = R} o may fs id e apart h =
    ap may (lookup-insert o fs e.0 e.1 id ∙ ap (λ b. cond b (Some e.1) (lookup (is_at (R id)) fs)) (not_eq (R id e.0) apart)) ∙ h

put_at : {K X : Type 0} {R : K → K → Ordering} (o : IsTotalOrder R) (may : Option X → Bool) (entry : List ℕ → Data → Option (K × X)) (id : K) (x : X) (k : List ℕ) (d : Data) (l : List ℕ) (c : Data) (ms : Members) (fs : List (K × X)) (t : Ordering) → slice_cmp nat_cmp k l ≡ t
    → get_member k (member l c ms) ≡ None → entry k d ≡ Some (id, x) → IsFree R entry id (member l c ms) → may (lookup (is_at (R id)) fs) ≡ true
    → ((gs : List (K × X)) → get_member k ms ≡ None → may (lookup (is_at (R id)) gs) ≡ true → table_from may R entry gs (put k d ms) ≡ option_map (λ es. insert_entry R es id x) (table_from may R entry gs ms))
    → table_from may R entry fs (put k d (member l c ms)) ≡ option_map (λ es. insert_entry R es id x) (table_from may R entry fs (member l c ms))
unfolding table_from
put_at {R = R} o may entry id x k d l c ms fs Less is none e free h later =
    ap (table_from may R entry fs) (put_less k d l c ms is) ∙ front R may entry id x k d (member l c ms) fs e h ∙ put-first o may entry id x (member l c ms) fs free
put_at o may entry id x k d l c ms fs Equal is none e free h later = let found = rw is at none in cc
put_at {R = R} o may entry id x k d l c ms fs Greater is none e free h later =
    let below = rw is at none in
    ap (table_from may R entry fs) (put_greater k d l c ms is)
    ∙ put_some o may (λ more. table_from may R entry more ms) (λ more. table_from may R entry more (put k d ms)) fs id x (entry l c) (λ a there. later (insert_entry R fs a.0 a.1) below (may_after o may fs id a (free.0 a there) h))

-- a member put in under a free name adds its entry
pub put-table : {K X : Type 0} {R : K → K → Ordering} (o : IsTotalOrder R) (may : Option X → Bool) (entry : List ℕ → Data → Option (K × X)) (id : K) (x : X) (k : List ℕ) (d : Data) (ms : Members) (fs : List (K × X)) → get_member k ms ≡ None → entry k d ≡ Some (id, x)
    → IsFree R entry id ms → may (lookup (is_at (R id)) fs) ≡ true
    → table_from may R entry fs (put k d ms) ≡ option_map (λ es. insert_entry R es id x) (table_from may R entry fs ms)
put-table {R = R} o may entry id x k d no_members fs none e free h = front R may entry id x k d no_members fs e h ∙ put-first o may entry id x no_members fs free
put-table o may entry id x k d (member l c ms) fs none e free h =
    put_at o may entry id x k d l c ms fs (slice_cmp nat_cmp k l) refl none e free h (λ gs below ok. put-table o may entry id x k d ms gs below e free.1 ok)

-- ---- what was found, and what is free

found_with : {K X : Type 0} (R : K → K → Ordering) (may : Option X → Bool) (fs : List (K × X)) (e : K × X) (more : List (K × X)) (b : Bool) → may (lookup (is_at (R e.0)) fs) ≡ b → with_entry may R fs e ≡ Some more → insert_entry R fs e.0 e.1 ≡ more
found_with R may fs e more true h w = let some = rw h at w in some-inj some
found_with R may fs e more false h w = let none = rw h at w in cc

free_of : {X : Type 0} (b : Bool) (v : X) (l : Option X) → cond b (Some v) l ≡ None → (b ≡ false) × (l ≡ None)
free_of true v l h = cc
free_of false v l h = (refl, h)

true_eq : (t : Ordering) → t ≡ Equal → is_eq t ≡ true
true_eq Less h = cc
true_eq Equal h = refl
true_eq Greater h = cc

-- no member has the key of an entry that isn't found
pub free-from : {K X : Type 0} {R : K → K → Ordering} (o : IsTotalOrder R) (may : Option X → Bool) (entry : List ℕ → Data → Option (K × X)) (id : K) (ms : Members) (fs es : List (K × X)) → table_from may R entry fs ms ≡ Some es → lookup (is_at (R id)) es ≡ None
    → IsFree R entry id ms × (lookup (is_at (R id)) fs ≡ None)
unfolding table_from
free-from {R = R} o may entry id no_members fs es h none = (tt, ap (lookup (is_at (R id))) (some-inj h) ∙ none)
free-from {R = R} o may entry id (member l d ms) fs es h none =
    let a = bind_ok (entry l d) (λ e. with_entry may R fs e >>= λ more. table_from may R entry more ms) es h in
    let b = bind_ok (with_entry may R fs a.0) (λ more. table_from may R entry more ms) es a.2 in
    let put = found_with R may fs a.0 b.0 (may (lookup (is_at (R a.0.0)) fs)) refl b.1 in
    let rest = free-from o may entry id ms b.0 es b.2 none in
    let parts = free_of (is_eq (R id a.0.0)) a.0.1 (lookup (is_at (R id)) fs) (sym (lookup-insert o fs a.0.0 a.0.1 id) ∙ ap (lookup (is_at (R id))) put ∙ rest.1) in
    ((λ e there same. let is : e ≡ a.0 = some-inj (sym there ∙ a.1) in let clash : true ≡ false = sym (true_eq (R id a.0.0) (ap (λ z. R id z.0) (sym is) ∙ same)) ∙ parts.0 in cc, rest.0), parts.1)

-- ---- what is written, and read again

-- the last of a strictly sorted list goes last
below_middle : {K : Type 0} (R : K → K → Ordering) (first : K) (es : List K) (e : K) (more : List K) → AllByRecursion (λ y. R first y ≡ Less) (es ++ e ∷ more) → R first e ≡ Less
below_middle R first [] e more h = h.0
below_middle R first (x ∷ es) e more h = below_middle R first es e more h.1

insert-last : {K X : Type 0} {R : K → K → Ordering} (o : IsTotalOrder R) (es : List (K × X)) (k : K) (v : X) (more : List K) → IsStrictlySortedBy R (keys_of es ++ k ∷ more) → insert_entry R es k v ≡ es ++ (k, v) ∷ []
unfolding IsStrictlySortedBy
insert-last o [] k v more h = refl
insert-last {R = R} o (e ∷ es) k v more h =
    first_greater R e es k v (reverse_is o e.0 k Less (below_middle R e.0 (keys_of es) k more h.0)) ∙ ap (λ l. e ∷ l) (insert-last o es k v more h.1)

lookup-above : {K X : Type 0} {R : K → K → Ordering} (o : IsTotalOrder R) (es : List (K × X)) (k : K) (more : List K) → IsStrictlySortedBy R (keys_of es ++ k ∷ more) → lookup (is_at (R k)) es ≡ None
unfolding IsStrictlySortedBy
lookup-above o [] k more h = refl
lookup-above {R = R} o (e ∷ es) k more h =
    ap (λ t. cond (is_eq t) (Some e.1) (lookup (is_at (R k)) es)) (reverse_is o e.0 k Less (below_middle R e.0 (keys_of es) k more h.0)) ∙ lookup-above o es k more h.1

keys_of-append : {K X : Type 0} (xs ys : List (K × X)) → keys_of (xs ++ ys) ≡ keys_of xs ++ keys_of ys
keys_of-append [] ys = refl
keys_of-append (x ∷ xs) ys = ap (λ l. x.0 ∷ l) (keys_of-append xs ys)

-- each entry is read back from what is written for it
abbrev pub AreBack : {K X : Type 0} → (List ℕ → Data → Option (K × X)) → (K → Option (List ℕ)) → (X → Option Data) → List (K × X) → Type 0
AreBack entry name json [] = Unit {0}
AreBack entry name json (e ∷ es) = ((n : List ℕ) (d : Data) → name e.0 ≡ Some n → json e.1 ≡ Some d → entry n d ≡ Some e) × AreBack entry name json es

with_at : (o : Option Data) (a b : Members) → if_free o a ≡ Some b → (o ≡ None) × (a ≡ b)
with_at None a b h = (refl, some-inj h)
with_at (Some d) a b h = cc

with_is : (k : List ℕ) (d : Data) (ms new : Members) → with k d ms ≡ Some new → (get_member k ms ≡ None) × (put k d ms ≡ new)
with_is k d ms new h = with_at (get_member k ms) (put k d ms) new h

table-back_from : {K X : Type 0} {R : K → K → Ordering} (o : IsTotalOrder R) (may : Option X → Bool) (entry : List ℕ → Data → Option (K × X)) (name : K → Option (List ℕ)) (json : X → Option Data) (es fs : List (K × X)) (found new : Members)
    → may None ≡ true → AreBack entry name json es → IsStrictlySortedBy R (keys_of (fs ++ es)) → table_from may R entry [] found ≡ Some fs → table_json name json es found ≡ Some new
    → table_from may R entry [] new ≡ Some (fs ++ es)
unfolding table_json
table-back_from {R = R} o may entry name json [] fs found new ok back sorted h w = ap (table_from may R entry []) (sym (some-inj w)) ∙ h ∙ ap Some (sym (append-nil fs))
table-back_from {R = R} o may entry name json (e ∷ es) fs found new ok back sorted h w =
    let a = bind_ok (json e.1) (λ value. name e.0 >>= λ n. with n value found >>= λ more. table_json name json es more) new w in
    let n = bind_ok (name e.0) (λ n. with n a.0 found >>= λ more. table_json name json es more) new a.2 in
    let b = bind_ok (with n.0 a.0 found) (λ more. table_json name json es more) new n.2 in
    let put_in = with_is n.0 a.0 found b.0 b.1 in
    let keys : IsStrictlySortedBy R (keys_of fs ++ e.0 ∷ keys_of es) = subst (IsStrictlySortedBy R) (keys_of-append fs (e ∷ es)) sorted in
    let above = lookup-above o fs e.0 (keys_of es) keys in
    let free = free-from o may entry e.0 found [] fs h above in
    let more : table_from may R entry [] b.0 ≡ Some (fs ++ e ∷ []) =
    ap (table_from may R entry []) (sym put_in.1) ∙ put-table o may entry e.0 e.1 n.0 a.0 found [] put_in.0 (back.0 n.0 a.0 n.1 a.1) free.0 ok
    ∙ ap (option_map (λ gs. insert_entry R gs e.0 e.1)) h ∙ ap Some (insert-last o fs e.0 e.1 (keys_of es) keys) in
    let all : (fs ++ e ∷ []) ++ es ≡ fs ++ e ∷ es = append_assoc fs (e ∷ []) es in
    table-back_from o may entry name json es (fs ++ e ∷ []) b.0 new ok back.1 (subst (λ l. IsStrictlySortedBy R (keys_of l)) (sym all) sorted) more b.2 ∙ ap Some all

-- a sorted map's entries are read back from what is written for them
pub table-back : {K X : Type 0} {R : K → K → Ordering} (o : IsTotalOrder R) (may : Option X → Bool) (entry : List ℕ → Data → Option (K × X)) (name : K → Option (List ℕ)) (json : X → Option Data) (es : List (K × X)) (new : Members)
    → may None ≡ true → AreBack entry name json es → IsStrictlySortedBy R (keys_of es) → table_json name json es no_members ≡ Some new → table_from may R entry [] new ≡ Some es
unfolding table_from
table-back o may entry name json es new ok back sorted w = table-back_from o may entry name json es [] no_members new ok back sorted refl w
