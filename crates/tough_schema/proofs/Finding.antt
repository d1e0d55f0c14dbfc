-- What a search finds is what the document of its number lists.
use Rattle.std.proofs.Common.{◌≡◌, ◌↔◌, ℕ, zero, suc, ◌+◌, ◌≤◌, List, [], ◌∷◌, ◌++◌, length, filter, cond, slice_get, Bool, true, false, Option, Some, None, is_some, option_map, option_and_then, refl, sym, ap, subst, ◌∙◌, arith, append_assoc, length-append, if◌then◌else◌}
use Rattle.std.proofs.lemmas.List.{length-map}
use Rattle.std.proofs.lemmas.Option.{slice_get-map}
use Rattle.std.specs.List.{cons_option}
use Rattle.std.specs.Option.{option_or}
use Rattle.tough_names.specs.Named.{Named}
use Rattle.tough_schema.specs.Target.{TargetDoc}
use Rattle.tough_schema.specs.Tree.{Listing}
use Rattle.tough_schema.specs.Whole.{TreeDoc, HeldDoc, RoleTree, listing_of}
use Rattle.tough_schema.specs.Preorder.{Occurrence, stop, preorder_below}
use Rattle.tough_schema.specs.Search.{Names, no_names, add, matches, is_new, reached_from, reached, is_before, first_end, searched, listed, first_listed, listing_at, listings}
use Rattle.tough_schema.specs.Entries.{entries}
use Rattle.tough_schema.specs.Numbered.{Span}
use Rattle.tough_schema.specs.Found.{lists_in, first_number, document_of, listed_at, compared_from, compared, end_of_search, tested, FindsByNumber}
use Rattle.tough_schema.proofs.Rests.{Starts, starts-below}

-- ---- each role stands at its place

abbrev Placed : List Occurrence → List Occurrence → Type 0
Placed all [] = Unit {0}
Placed all (o ∷ os) = (slice_get all o.start ≡ Some o) × Placed all os

seam : (xs ys : List Occurrence) (o : Occurrence) → slice_get (xs ++ o ∷ ys) (length xs) ≡ Some o
seam [] ys o = refl
seam (x ∷ xs) ys o = seam xs ys o

placed-after : (xs os : List Occurrence) (k : ℕ) → k ≡ length xs → Starts k os → Placed (xs ++ os) os
placed-after xs [] k e st = tt
placed-after xs (o ∷ os) k e st =
    let place : length xs ≡ o.start = omega (arith, st.0, e) in
    let size : k + 1 ≡ length (xs ++ o ∷ []) = omega (arith, e, length-append xs (o ∷ [])) in
    (ap (slice_get (xs ++ o ∷ os)) (sym place) ∙ seam xs os o, subst (λ (l : List Occurrence). Placed l os) (append_assoc xs (o ∷ []) os) (placed-after (xs ++ o ∷ []) os (k + 1) size st.1))

placed-cond : (all : List Occurrence) (t : Bool) (xs ys : List Occurrence) → Placed all xs → Placed all ys → Placed all (if t then xs else ys)
placed-cond all true xs ys x y = x
placed-cond all false xs ys x y = y

placed-reached : (all : List Occurrence) (name : Named) (skip : ℕ) (seen : Names) (xs : List Occurrence) → Placed all xs → Placed all (reached_from name skip seen xs)
placed-reached all name skip seen [] x = tt
placed-reached all name (suc skip) seen (o ∷ xs) x = placed-reached all name skip seen xs x.1
placed-reached all name zero seen (o ∷ xs) x =
    placed-cond all (is_new name seen o.role.0) (o ∷ reached_from name zero (add o.role.0.name seen) xs) (reached_from name o.below seen xs)
    (x.0, placed-reached all name zero (add o.role.0.name seen) xs x.1) (placed-reached all name o.below seen xs x.1)

placed-choice : (all : List Occurrence) (t : Bool) (o : Occurrence) (xs : List Occurrence) → slice_get all o.start ≡ Some o → Placed all xs → Placed all (cond t (o ∷ xs) xs)
placed-choice all true o xs h x = (h, x)
placed-choice all false o xs h x = x

placed-filter : (all : List Occurrence) (f : Occurrence → Bool) (xs : List Occurrence) → Placed all xs → Placed all (filter f xs)
placed-filter all f [] x = tt
placed-filter all f (o ∷ xs) x = placed-choice all (f o) o (filter f xs) x.0 (placed-filter all f xs x.1)

placed-searched : (all : List Occurrence) (permissive : Bool) (xs : List Occurrence) → Placed all xs → Placed all (searched permissive xs)
placed-searched all true xs x = x
placed-searched all false xs x = placed-filter all (is_before (first_end xs)) xs x

-- ---- the first that lists the name

abbrev listed_by : Named → Option Listing → Option TargetDoc
listed_by name o = option_and_then (listed name) o

listing_found : (name : Named) (h : Option HeldDoc) → option_and_then (listed name) (option_map (λ d. listing_of d.below) h) ≡ option_and_then (λ d. listed name (listing_of d)) (option_map (λ (d : HeldDoc). d.below) h)
listing_found name None = refl
listing_found name (Some h) = refl

document-at : (t : TreeDoc) (name : Named) (o : Occurrence) (k : ℕ) → slice_get (preorder_below 0 t) o.start ≡ Some o → k ≡ suc o.start → listed_at k name t ≡ listed_by name (listing_at o)
document-at t name o k h e =
    let span : Occurrence → Span = λ y. (y.role, stop y) in
    ap (λ (i : ℕ). listed_at i name t) e
    ∙ ap (λ (x : Option Span). option_and_then (λ d. listed name (listing_of d)) (option_and_then (λ (s : Span). document_of s.0) x)) (slice_get-map span (preorder_below 0 t) o.start ∙ ap (option_map span) h)
    ∙ sym (listing_found name o.role.1)

first-here : (x rest found : Option TargetDoc) (n : Option ℕ) (start k : ℕ) → (n ≡ Some k → rest ≡ found) → (k ≡ suc start → x ≡ found) → (if is_some x then Some (start + 1) else n) ≡ Some k → option_or x rest ≡ found
first-here (Some y) rest found n start k after here is = let same : start + 1 ≡ k = cc in here (omega (arith, same))
first-here None rest found n start k after here is = after is

-- one role, and those after it
first-at : (name : Named) (t : TreeDoc) (o : Occurrence) (k : ℕ) (l : Option Listing) (ls : List Listing) (n : Option ℕ) → listing_at o ≡ l → slice_get (preorder_below 0 t) o.start ≡ Some o
    → (n ≡ Some k → first_listed name ls ≡ listed_at k name t) → (if lists_in name l then Some (o.start + 1) else n) ≡ Some k → first_listed name (cons_option l ls) ≡ listed_at k name t
first-at name t o k None ls n e h rest is = rest is
first-at name t o k (Some l) ls n e h rest is =
    first-here (listed name l) (first_listed name ls) (listed_at k name t) n o.start k rest (λ place. sym (document-at t name o k h place ∙ ap (listed_by name) e)) is

first-number : (name : Named) (t : TreeDoc) (os : List Occurrence) (k : ℕ) → Placed (preorder_below 0 t) os → first_number name os ≡ Some k → first_listed name (listings os) ≡ listed_at k name t
first-number name t [] k p is = cc
first-number name t (o ∷ os) k p is = first-at name t o k (listing_at o) (listings os) (first_number name os) refl p.0 (first-number name t os k p.1) is

none-here : (x rest : Option TargetDoc) (n : Option ℕ) (k : ℕ) → ((n ≡ None) ↔ (rest ≡ None)) → ((if is_some x then Some k else n) ≡ None) ↔ (option_or x rest ≡ None)
none-here (Some y) rest n k h = (λ e. cc, λ e. cc)
none-here None rest n k h = h

none-at : (name : Named) (l : Option Listing) (ls : List Listing) (n : Option ℕ) (k : ℕ) → ((n ≡ None) ↔ (first_listed name ls ≡ None)) → ((if lists_in name l then Some k else n) ≡ None) ↔ (first_listed name (cons_option l ls) ≡ None)
none-at name None ls n k h = h
none-at name (Some l) ls n k h = none-here (listed name l) (first_listed name ls) n k h

none-number : (name : Named) (os : List Occurrence) → (first_number name os ≡ None) ↔ (first_listed name (listings os) ≡ None)
none-number name [] = (λ e. refl, λ e. refl)
none-number name (o ∷ os) = none-at name (listing_at o) (listings os) (first_number name os) (o.start + 1) (none-number name os)

-- the top document first
top-found : (x rest found : Option TargetDoc) (n : Option ℕ) (k : ℕ) → (n ≡ Some k → rest ≡ found) → (k ≡ 0 → x ≡ found) → (if is_some x then Some 0 else n) ≡ Some k → option_or x rest ≡ found
top-found (Some y) rest found n k after here is = let same : k ≡ 0 = cc in here same
top-found None rest found n k after here is = after is

pub finds-by-number : (permissive : Bool) (name : Named) (t : TreeDoc) → FindsByNumber permissive name t
finds-by-number permissive name t =
    let os = preorder_below 0 t in
    let xs = searched permissive (reached name t) in
    let places = placed-searched os permissive (reached name t) (placed-reached os name 0 no_names os (placed-after [] os 0 refl (starts-below 0 t))) in
    record {
      found = λ k is. top-found (listed name (listing_of t)) (first_listed name (listings xs)) (listed_at k name t) (first_number name xs) k (first-number name t xs k places) (λ e. sym (ap (λ (i : ℕ). listed_at i name t) e)) is;
      missing = none-here (listed name (listing_of t)) (first_listed name (listings xs)) (first_number name xs) 0 (none-number name xs);
    }

-- ---- few path sets are compared

few-cond : (t : Bool) (xs ys : List Occurrence) (n : ℕ) → length xs ≤ n → length ys ≤ n → length (if t then xs else ys) ≤ n
few-cond true xs ys n x y = x
few-cond false xs ys n x y = y

few-compared : (name : Named) (skip : ℕ) (seen : Names) (xs : List Occurrence) → length (compared_from name skip seen xs) ≤ length xs
few-compared name skip seen [] = omega arith
few-compared name (suc skip) seen (o ∷ xs) = omega (arith, few-compared name skip seen xs)
few-compared name zero seen (o ∷ xs) =
    let past = compared_from name o.below seen xs in
    let into = compared_from name 0 (add o.role.0.name seen) xs in
    let one = few-compared name o.below seen xs in
    few-cond (seen o.role.0.name) past (o ∷ (if matches name o.role.0 then into else past)) (suc (length xs)) (omega (arith, one))
    (omega (arith, few-cond (matches name o.role.0) into past (length xs) (few-compared name 0 (add o.role.0.name seen) xs) one))

few-choice : (t : Bool) (o : Occurrence) (xs : List Occurrence) (n : ℕ) → length xs ≤ n → length (cond t (o ∷ xs) xs) ≤ suc n
few-choice true o xs n h = omega (arith, h)
few-choice false o xs n h = omega (arith, h)

few-filter : (f : Occurrence → Bool) (xs : List Occurrence) → length (filter f xs) ≤ length xs
few-filter f [] = omega arith
few-filter f (o ∷ xs) = few-choice (f o) o (filter f xs) (length xs) (few-filter f xs)

pub few-tested : (permissive : Bool) (name : Named) (t : TreeDoc) → length (tested permissive name t) ≤ length (entries t)
few-tested permissive name t =
    let role : Occurrence → RoleTree = λ o. o.role in
    omega (arith, few-filter (is_before (end_of_search permissive name t)) (compared name t), few-compared name 0 no_names (preorder_below 0 t), length-map (preorder_below 0 t) role)
