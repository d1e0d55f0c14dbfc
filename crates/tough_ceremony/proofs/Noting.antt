-- The identifiers under which a holder signs: those that the roots list with its key, each once.
use Rattle.std.proofs.Common.{◌≡◌, List, [], ◌∷◌, ◌++◌, Bool, true, false, not, ◌&&◌, ◌||◌, cond, Option, Some, None, refl, sym, ap, ◌∙◌, subst}
use Rattle.std.proofs.lemmas.Bool.{or_parts}
use Rattle.std.proofs.lemmas.Slice.Eq.{bytes_eq-Decides}
use Rattle.std.specs.List.{AllByRecursion, IsDistinct}
use Rattle.std.specs.Str.{bytes_eq}
use Rattle.tough_decoded.specs.Spelled.{Spelled}
use Rattle.tough_keys.specs.Key.{KeyDoc}
use Rattle.tough_roles.specs.Root.{RootDoc}
use Rattle.tough_roles.specs.Counting.{key_of}
use Rattle.tough_sign.specs.Making.{Known, is_listed}
use Rattle.tough_ceremony.specs.Signing.{root_ids, equals, is_of, is_new, lists, lists_in, noted, noted_in, AreIds}

-- ---- tests

or_none : (a : Bool) → (a || false) ≡ a
or_none true = refl
or_none false = refl

or_group : (a b c : Bool) → ((a || b) || c) ≡ (a || (b || c))
or_group true b c = refl
or_group false b c = refl

both_at : (a b c : Bool) → ((a && c) || (b && c)) ≡ ((a || b) && c)
both_at true true true = refl
both_at true false true = refl
both_at false b c = refl
both_at true true false = refl
both_at true false false = refl

-- ---- by bytes

-- an identifier of the same bytes stands for the same
pub same_listed : (ids : List Spelled) (i j : Spelled) → i.bytes ≡ j.bytes → is_listed ids i ≡ is_listed ids j
same_listed ids i j e = ap (λ b. is_listed ids (record { spelling = i.spelling; bytes = b })) e

pub same_of : (known : Known) (key : KeyDoc) (i j : Spelled) → i.bytes ≡ j.bytes → is_of known key i ≡ is_of known key j
same_of known key i j e = ap (λ b. equals key (key_of known b)) e

pub listed_append : (xs ys : List Spelled) (q : Spelled) → is_listed (xs ++ ys) q ≡ (is_listed xs q || is_listed ys q)
listed_append [] ys q = refl
listed_append (x ∷ xs) ys q = ap (λ b. bytes_eq x.bytes q.bytes || b) (listed_append xs ys q) ∙ sym (or_group (bytes_eq x.bytes q.bytes) (is_listed xs q) (is_listed ys q))

-- ---- one identifier more

absorbed : (found : List Spelled) (id q : Spelled) (of b : Bool) → bytes_eq id.bytes q.bytes ≡ b → is_listed found id ≡ true → is_listed found q ≡ (is_listed found q || (b && of))
absorbed found id q of true e h = let here : is_listed found q ≡ true = sym (same_listed found id q ((bytes_eq-Decides id.bytes q.bytes).0 e)) ∙ h in here ∙ sym (ap (λ b. b || of) here)
absorbed found id q of false e h = sym (or_none (is_listed found q))

step_at : (found : List Spelled) (id q : Spelled) (listed of : Bool) → is_listed found id ≡ listed → is_listed (cond (not listed && of) (found ++ id ∷ []) found) q ≡ (is_listed found q || (bytes_eq id.bytes q.bytes && of))
step_at found id q true of h = absorbed found id q of (bytes_eq id.bytes q.bytes) refl h
step_at found id q false true h = listed_append found (id ∷ []) q ∙ ap (λ b. is_listed found q || b) (turn (bytes_eq id.bytes q.bytes))
  where
    turn : (b : Bool) → (b || false) ≡ (b && true)
    turn true = refl
    turn false = refl
step_at found id q false false h = sym (ap (λ b. is_listed found q || b) (none (bytes_eq id.bytes q.bytes)) ∙ or_none (is_listed found q))
  where
    none : (b : Bool) → (b && false) ≡ false
    none true = refl
    none false = refl

of_both : (known : Known) (key : KeyDoc) (id q : Spelled) (b : Bool) → bytes_eq id.bytes q.bytes ≡ b → (b && is_of known key id) ≡ (b && is_of known key q)
of_both known key id q true e = same_of known key id q ((bytes_eq-Decides id.bytes q.bytes).0 e)
of_both known key id q false e = refl

-- what is noted: what was there, and what is listed with an equal key
pub noted_is : (known : Known) (key : KeyDoc) (found ids : List Spelled) (q : Spelled) → is_listed (noted known key found ids) q ≡ (is_listed found q || (is_listed ids q && is_of known key q))
noted_is known key found [] q = sym (or_none (is_listed found q))
noted_is known key found (id ∷ ids) q =
    let next : List Spelled = cond (is_new known key found id) (found ++ id ∷ []) found in
    let rest : Bool = is_listed ids q && is_of known key q in
    noted_is known key next ids q
    ∙ (ap (λ b. b || rest) (step_at found id q (is_listed found id) (is_of known key id) refl)
    ∙ (or_group (is_listed found q) (bytes_eq id.bytes q.bytes && is_of known key id) rest
    ∙ ap (λ b. is_listed found q || b) (ap (λ b. b || rest) (of_both known key id q (bytes_eq id.bytes q.bytes) refl) ∙ both_at (bytes_eq id.bytes q.bytes) (is_listed ids q) (is_of known key q))))

-- ---- each once

abbrev Apart : List Spelled → Type 0
Apart ids = IsDistinct (λ i j. bytes_eq i.bytes j.bytes) ids

all_append : (P : Spelled → Type 0) (xs : List Spelled) (y : Spelled) → AllByRecursion P xs → P y → AllByRecursion P (xs ++ y ∷ [])
all_append P [] y a h = (h, tt)
all_append P (x ∷ xs) y a h = (a.0, all_append P xs y a.1 h)

apart_append : (found : List Spelled) (id : Spelled) → is_listed found id ≡ false → Apart found → Apart (found ++ id ∷ [])
unfolding IsDistinct
apart_append [] id h a = (tt, tt)
apart_append (x ∷ xs) id h a =
    let both = or_parts (bytes_eq x.bytes id.bytes) (is_listed xs id) h in
    (all_append (λ y. bytes_eq x.bytes y.bytes ≡ false) xs id a.0 both.0, apart_append xs id both.1 a.1)

apart_at : (found : List Spelled) (id : Spelled) (listed of : Bool) → is_listed found id ≡ listed → Apart found → Apart (cond (not listed && of) (found ++ id ∷ []) found)
apart_at found id true of h a = a
apart_at found id false true h a = apart_append found id h a
apart_at found id false false h a = a

pub noted_apart : (known : Known) (key : KeyDoc) (found ids : List Spelled) → Apart found → Apart (noted known key found ids)
noted_apart known key found [] a = a
noted_apart known key found (id ∷ ids) a = noted_apart known key (cond (is_new known key found id) (found ++ id ∷ []) found) ids (apart_at found id (is_listed found id) (is_of known key id) refl a)

none_apart : Apart []
unfolding IsDistinct
none_apart = tt

-- ---- of one root, or of two

pub ids_are : (key : KeyDoc) (r : RootDoc) (old : Option RootDoc) (q : Spelled) → is_listed (noted_in key (noted r.keys key [] (root_ids r)) old) q ≡ lists_in key r old q
ids_are key r None q = noted_is r.keys key [] (root_ids r) q
ids_are key r (Some old) q =
    noted_is old.keys key (noted r.keys key [] (root_ids r)) (root_ids old) q ∙ ap (λ b. b || lists key old q) (noted_is r.keys key [] (root_ids r) q)

pub ids_apart : (key : KeyDoc) (r : RootDoc) (old : Option RootDoc) → Apart (noted_in key (noted r.keys key [] (root_ids r)) old)
ids_apart key r None = noted_apart r.keys key [] (root_ids r) none_apart
ids_apart key r (Some old) = noted_apart old.keys key (noted r.keys key [] (root_ids r)) (root_ids old) (noted_apart r.keys key [] (root_ids r) none_apart)

pub are_ids : (key : KeyDoc) (r : RootDoc) (old : Option RootDoc) (ids : List Spelled) → ids ≡ noted_in key (noted r.keys key [] (root_ids r)) old → (ids ≡ [] → ⊥) → AreIds key r old ids
are_ids key r old ids is some = record {
  once = subst Apart (sym is) (ids_apart key r old);
  exactly = λ q. ap (λ l. is_listed l q) is ∙ ids_are key r old q;
  some = some;
}

-- where none is found, none is listed
pub none_listed : (key : KeyDoc) (r : RootDoc) (old : Option RootDoc) (ids : List Spelled) → ids ≡ noted_in key (noted r.keys key [] (root_ids r)) old → ids ≡ [] → (q : Spelled) → lists_in key r old q ≡ false
none_listed key r old ids is none q = sym (ids_are key r old q) ∙ (ap (λ l. is_listed l q) (sym is) ∙ ap (λ l. is_listed l q) none)
