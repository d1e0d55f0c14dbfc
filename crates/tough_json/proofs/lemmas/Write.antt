-- What was put in is taken out again.
use Rattle.std.proofs.Common.{◌≡◌, ℕ, List, [], ◌∷◌, Bool, true, false, Option, Some, None, option_map, is_some, is_none, not, Ordering, Less, Equal, Greater, nat_cmp, refl, sym, ap, subst, zero, suc, if◌then◌else◌}
use Rattle.std.specs.Ordering.{match_ordering}
use Rattle.std.proofs.lemmas.Cmp.{nat_list_cmp_total, tied_itself}
use Rattle.std.specs.Cmp.Lexicographic.{slice_cmp}
use Rattle.std.proofs.lemmas.Slice.Eq.{bytes_eq-Decides}
use Rattle.tough_decoded.specs.Spelled.{Spelled, hex_bytes}
use Rattle.serde_json.specs.Data.{Data, string, Members, no_members, member, put, Items, item}
use Rattle.serde_json.specs.Find.{get_member}
use Rattle.serde_json.proofs.Views.{get_member-put}
use Rattle.tough_json.specs.Reading.{◌>>=◌, without, required, optional, stated, unless_null, hexadecimal, decoded, positive, whole, each, all_at}
use Rattle.tough_json.specs.Writing.{if_free, with, with_optional, optional_json, positive_json, length_json, stands_for, hexadecimal_json, decoded_json, named, all_json}

pub is_none-map : {A B : Type 0} (f : A → B) (o : Option A) → is_none (option_map f o) ≡ not (is_some o)
is_none-map f None = refl
is_none-map f (Some x) = refl

pub if_free-free : {A : Type 0} (o : Option Data) (a : A) → is_none o ≡ true → if_free o a ≡ Some a
if_free-free None a h = refl
if_free-free (Some d) a h = cc

pub if_free-taken : {A : Type 0} (o : Option Data) (a : A) → is_none o ≡ false → if_free o a ≡ None
if_free-taken None a h = cc
if_free-taken (Some d) a h = refl

-- ---- taking out what was put in

same_text : (xs : List ℕ) → slice_cmp nat_cmp xs xs ≡ Equal
same_text xs = tied_itself nat_list_cmp_total xs

without-put_at : (o : Ordering) (k l : List ℕ) (d e : Data) (ms : Members) → slice_cmp nat_cmp k l ≡ o → get_member k (member l e ms) ≡ None → (get_member k ms ≡ None → without k (put k d ms) ≡ ms)
    → without k (match_ordering o (member k d (member l e ms)) (member l d ms) (member l e (put k d ms))) ≡ member l e ms
without-put_at Less k l d e ms is h later = rw same_text refl
without-put_at Equal k l d e ms is h later = let found = rw is at h in cc
without-put_at Greater k l d e ms is h later = let below = rw is at h in rw is (ap (member l e) (later below))

pub without-put : (k : List ℕ) (d : Data) (ms : Members) → get_member k ms ≡ None → without k (put k d ms) ≡ ms
without-put k d no_members h = rw same_text refl
without-put k d (member l e ms) h = without-put_at (slice_cmp nat_cmp k l) k l d e ms refl h (without-put k d ms)

without-absent_at : (o : Ordering) (k l : List ℕ) (e : Data) (ms : Members) → match_ordering o (get_member k ms) (Some e) (get_member k ms) ≡ None → (get_member k ms ≡ None → without k ms ≡ ms)
    → match_ordering o (member l e (without k ms)) ms (member l e (without k ms)) ≡ member l e ms
without-absent_at Less k l e ms h later = ap (member l e) (later h)
without-absent_at Equal k l e ms h later = cc
without-absent_at Greater k l e ms h later = ap (member l e) (later h)

pub without-absent : (k : List ℕ) (ms : Members) → get_member k ms ≡ None → without k ms ≡ ms
without-absent k no_members h = refl
without-absent k (member l e ms) h = without-absent_at (slice_cmp nat_cmp k l) k l e ms h (without-absent k ms)

pub if_free-ok : {A : Type 0} (o : Option Data) (a b : A) → if_free o a ≡ Some b → (o ≡ None) × (a ≡ b)
if_free-ok None a b h = (refl, cc)
if_free-ok (Some d) a b h = cc

-- a member that was put in is read, and the others are left
pub required-with : {A : Type 0} (k : List ℕ) (f : Data → Option A) (d : Data) (ms new : Members) (a : A) → with k d ms ≡ Some new → f d ≡ Some a → required k f new ≡ Some (a, ms)
required-with k f d ms new a h g =
    let free = if_free-ok (get_member k ms) (put k d ms) new h in
    rw (← free.1, get_member-put k d ms, g, without-put k d ms free.0) refl

pub without-with : (k : List ℕ) (d : Data) (ms new : Members) → with k d ms ≡ Some new → without k new ≡ ms
without-with k d ms new h =
    let free = if_free-ok (get_member k ms) (put k d ms) new h in
    rw (← free.1, without-put k d ms free.0) refl

pub optional-with_some : {A : Type 0} (k : List ℕ) (f : Data → Option A) (d : Data) (ms new : Members) (a : A) → with k d ms ≡ Some new → unless_null d ≡ Some d → f d ≡ Some a → optional k f new ≡ Some (Some a, ms)
optional-with_some k f d ms new a h s g =
    let free = if_free-ok (get_member k ms) (put k d ms) new h in
    rw (← free.1, get_member-put k d ms, s, g, without-put k d ms free.0) refl

pub optional-with_none : {A : Type 0} (k : List ℕ) (f : Data → Option A) (ms new : Members) → if_free (get_member k ms) ms ≡ Some new → optional k f new ≡ Some (None, ms)
optional-with_none k f ms new h =
    let free = if_free-ok (get_member k ms) ms new h in
    rw (← free.1, free.0, without-absent k ms free.0) refl

pub stated-with_some : {A : Type 0} (k : List ℕ) (f : Data → Option A) (d : Data) (ms new : Members) (a : A) → with k d ms ≡ Some new → f d ≡ Some a → stated k f new ≡ Some (Some a, ms)
stated-with_some k f d ms new a h g =
    let free = if_free-ok (get_member k ms) (put k d ms) new h in
    rw (← free.1, get_member-put k d ms, g, without-put k d ms free.0) refl

pub stated-with_none : {A : Type 0} (k : List ℕ) (f : Data → Option A) (ms new : Members) → if_free (get_member k ms) ms ≡ Some new → stated k f new ≡ Some (None, ms)
stated-with_none k f ms new h =
    let free = if_free-ok (get_member k ms) ms new h in
    rw (← free.1, free.0, without-absent k ms free.0) refl

pub bind_ok : {A B : Type 0} (o : Option A) (f : A → Option B) (b : B) → (o >>= f) ≡ Some b → (a : A) × (o ≡ Some a) × (f a ≡ Some b)
bind_ok (Some a) f b h = (a, refl, h)
bind_ok None f b h = cc

pub some-inj : {A : Type 0} {a b : A} → Some a ≡ Some b → a ≡ b
some-inj h = cc

-- ---- documents

stands : (o : Option (List ℕ)) (bytes : List ℕ) → stands_for o bytes ≡ true → o ≡ Some bytes
stands None bytes h = cc
stands (Some found) bytes h = ap Some ((bytes_eq-Decides found bytes).0 h)

decoded-back-at : (decodes : List ℕ → Option (List ℕ)) (s : Spelled) (b : Bool) (d : Data) → stands_for (decodes s.spelling) s.bytes ≡ b → (if b then Some (string s.spelling) else None) ≡ Some d → decoded decodes d ≡ Some s
decoded-back-at decodes s true d h e = rw (← some-inj e, stands (decodes s.spelling) s.bytes h) refl
decoded-back-at decodes s false d h e = cc

pub decoded-back : (decodes : List ℕ → Option (List ℕ)) (s : Spelled) (d : Data) → decoded_json decodes s ≡ Some d → decoded decodes d ≡ Some s
decoded-back decodes s d e = decoded-back-at decodes s (stands_for (decodes s.spelling) s.bytes) d refl e

pub hexadecimal-back : (s : Spelled) (d : Data) → hexadecimal_json s ≡ Some d → hexadecimal d ≡ Some s
hexadecimal-back = decoded-back hex_bytes

pub positive-back : (n : ℕ) (d : Data) → positive_json n ≡ Some d → positive d ≡ Some n
positive-back zero d e = cc
positive-back (suc n) d e = rw (← some-inj e) refl

-- an optional member that is written, or left out, is read back
pub optional-back : {A : Type 0} (k : List ℕ) (f : Data → Option A) (g : A → Option Data) (a : Option A) (o : Option Data) (ms new : Members) → ((x : A) (d : Data) → g x ≡ Some d → (unless_null d ≡ Some d) × (f d ≡ Some x))
    → optional_json g a ≡ Some o → with_optional k o ms ≡ Some new → optional k f new ≡ Some (a, ms)
optional-back k f g None None ms new back w p = optional-with_none k f ms new p
optional-back k f g None (Some d) ms new back w p = cc
optional-back k f g (Some x) o ms new back w p =
    let inner = bind_ok (g x) (λ d. Some (Some d)) o w in
    let is = back x inner.0 inner.1 in
    optional-with_some k f inner.0 ms new x (subst (λ (z : Option Data). with_optional k z ms ≡ Some new) (sym (some-inj inner.2)) p) is.0 is.1

-- the same of a member where null is no value
pub stated-back : {A : Type 0} (k : List ℕ) (f : Data → Option A) (g : A → Option Data) (a : Option A) (o : Option Data) (ms new : Members) → ((x : A) (d : Data) → g x ≡ Some d → f d ≡ Some x)
    → optional_json g a ≡ Some o → with_optional k o ms ≡ Some new → stated k f new ≡ Some (a, ms)
stated-back k f g None None ms new back w p = stated-with_none k f ms new p
stated-back k f g None (Some d) ms new back w p = cc
stated-back k f g (Some x) o ms new back w p =
    let inner = bind_ok (g x) (λ d. Some (Some d)) o w in
    stated-with_some k f inner.0 ms new x (subst (λ (z : Option Data). with_optional k z ms ≡ Some new) (sym (some-inj inner.2)) p) (back x inner.0 inner.1)

pub length-back : (n : ℕ) (d : Data) → length_json n ≡ Some d → (unless_null d ≡ Some d) × (whole d ≡ Some n)
length-back n d e = rw (← some-inj e) (refl, refl)

-- names and what f reads of what g wrote
pub named-back : {A : Type 0} (f : Data → Option A) (g : A → Option Data) (es : List (List ℕ × A)) (ms : Members) → ((x : A) (d : Data) → g x ≡ Some d → f d ≡ Some x) → named g es ≡ Some ms → each f ms ≡ Some es
unfolding named each
named-back f g [] ms back w = rw (← some-inj w) refl
named-back f g (e ∷ es) ms back w =
    let first = bind_ok (g e.1) (λ d. named g es >>= λ rest. Some (member e.0 d rest)) ms w in
    let others = bind_ok (named g es) (λ rest. Some (member e.0 first.0 rest)) ms first.2 in
    rw (← some-inj others.2, back e.1 first.0 first.1, named-back f g es others.0 back others.1) refl

-- items and what f reads of what g wrote
pub all-back : {A : Type 0} (f : Data → Option A) (g : A → Option Data) (xs : List A) (ds : Items) → ((x : A) (d : Data) → g x ≡ Some d → f d ≡ Some x) → all_json g xs ≡ Some ds → all_at f ds ≡ Some xs
unfolding all_json all_at
all-back f g [] ds back w = rw (← some-inj w) refl
all-back f g (x ∷ xs) ds back w =
    let first = bind_ok (g x) (λ d. all_json g xs >>= λ rest. Some (item d rest)) ds w in
    let others = bind_ok (all_json g xs) (λ rest. Some (item first.0 rest)) ds first.2 in
    rw (← some-inj others.2, back x first.0 first.1, all-back f g xs others.0 back others.1) refl

pub some_apart : {A : Type 0} (o : Option A) (a : A) → o ≡ Some a → o ≡ None → ⊥
some_apart None a e f = cc
some_apart (Some b) a e f = cc
