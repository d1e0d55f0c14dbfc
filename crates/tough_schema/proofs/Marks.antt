-- The roles that a search reaches are those that are marked.
use Rattle.std.proofs.Common.{◌≡◌, ◌↔◌, ℕ, zero, suc, ◌+◌, ◌<◌, ◌≤◌, List, [], ◌∷◌, ◌++◌, map, filter, length, Bool, true, false, ◌&&◌, ◌||◌, not, Some, None, refl, sym, ap, subst, ◌∙◌, arith}
use Rattle.std.proofs.lemmas.List.{map-append}
use Rattle.std.proofs.lemmas.List.Elements.{filter-append}
use Rattle.std.specs.List.{AllByRecursion}
use Rattle.std.specs.Str.{bytes_eq}
use Rattle.tough_names.specs.Named.{Named}
use Rattle.tough_schema.specs.Whole.{TreeDoc, tree, Branches, no_branches, unloaded, loaded}
use Rattle.tough_schema.specs.Preorder.{Occurrence, stop, preorder, preorder_below}
use Rattle.tough_schema.specs.Search.{Names, no_names, add, matches, is_new, reached_from}
use Rattle.tough_schema.specs.Marks.{Mark, IsBelow, IsReached, AreMarked, ReachesExactly}
use Rattle.tough_schema.proofs.Reached.{names_after, step-new, step-old, skip_all, splits_below, Splits, splits-nil}
use Rattle.tough_schema.proofs.Ends.{Within, within-weaker, within-preorder, within-below}

abbrev marked_roles : List Mark → List Occurrence
marked_roles ms = map (λ m. m.0) ms

abbrev reached_roles : List Mark → List Occurrence
reached_roles ms = map (λ m. m.0) (filter (λ m. m.1) ms)

-- ---- each of a list

abbrev Each : (Mark → Type 0) → List Mark → Type 0
Each P ms = AllByRecursion P ms

both : (P : Mark → Type 0) (xs ys : List Mark) → Each P xs → Each P ys → Each P (xs ++ ys)
both P [] ys x y = y
both P (m ∷ xs) ys x y = (x.0, both P xs ys x.1 y)

left : (P : Mark → Type 0) (xs ys : List Mark) → Each P (xs ++ ys) → Each P xs
left P [] ys h = tt
left P (m ∷ xs) ys h = (h.0, left P xs ys h.1)

right : (P : Mark → Type 0) (xs ys : List Mark) → Each P (xs ++ ys) → Each P ys
right P [] ys h = h
right P (m ∷ xs) ys h = right P xs ys h.1

-- with their bounds
each : (P Q : Mark → Type 0) (a b : ℕ) (ms : List Mark) → Within a b (marked_roles ms) → ((m : Mark) → a ≤ m.0.start → stop m.0 ≤ b → P m → Q m) → Each P ms → Each Q ms
each P Q a b [] w f h = tt
each P Q a b (m ∷ ms) w f h = (f m w.0 w.1 h.0, each P Q a b ms w.2 f h.1)

every : (Q : Mark → Type 0) (a b : ℕ) (ms : List Mark) → Within a b (marked_roles ms) → ((m : Mark) → a ≤ m.0.start → stop m.0 ≤ b → Q m) → Each Q ms
every Q a b [] w f = tt
every Q a b (m ∷ ms) w f = (f m w.0 w.1, every Q a b ms w.2 f)

-- ---- names

or_none : (a b : Bool) → (a || b) ≡ false → (a ≡ false) × (b ≡ false)
or_none true b h = cc
or_none false b h = (refl, h)

none_or : (a b : Bool) → a ≡ false → b ≡ false → (a || b) ≡ false
none_or true b h k = cc
none_or false b h k = k

new_from : (a b : Bool) → (a && not b) ≡ true → (a ≡ true) × (b ≡ false)
new_from true true h = cc
new_from true false h = (refl, refl)
new_from false b h = cc

from_new : (a b : Bool) → a ≡ true → b ≡ false → (a && not b) ≡ true
from_new true true h k = cc
from_new true false h k = refl
from_new false b h k = cc

-- no reached one has the name
abbrev NotNamed : List ℕ → Mark → Type 0
NotNamed q m = m.1 ≡ true → bytes_eq m.0.role.0.name q ≡ false

after_from : (seen : Names) (q : List ℕ) (ms : List Mark) → names_after seen (reached_roles ms) q ≡ false → (seen q ≡ false) × Each (NotNamed q) ms
after_from seen q [] h = (h, tt)
after_from seen q ((o, true) ∷ ms) h =
    let rest = after_from (add o.role.0.name seen) q ms h in
    let here = or_none (bytes_eq o.role.0.name q) (seen q) rest.0 in
    (here.1, ((λ t. here.0), rest.1))
after_from seen q ((o, false) ∷ ms) h = let rest = after_from seen q ms h in (rest.0, ((λ t. cc), rest.1))

from_after : (seen : Names) (q : List ℕ) (ms : List Mark) → seen q ≡ false → Each (NotNamed q) ms → names_after seen (reached_roles ms) q ≡ false
from_after seen q [] s h = s
from_after seen q ((o, true) ∷ ms) s h = from_after (add o.role.0.name seen) q ms (none_or (bytes_eq o.role.0.name q) (seen q) (h.0 refl) s) h.1
from_after seen q ((o, false) ∷ ms) s h = from_after seen q ms s h.1

-- ---- a run of roles, where these names were reached before

abbrev Above : Occurrence → Mark → Type 0
Above o p = IsBelow o p.0 → p.1 ≡ true

abbrev First : Occurrence → Mark → Type 0
First o p = p.0.start < o.start → p.1 ≡ true → bytes_eq p.0.role.0.name o.role.0.name ≡ false

record IsNew (name : Named) (seen : Names) (all : List Mark) (o : Occurrence) : Type 0 where
  reaches : IsReached name all o
  unseen : seen o.role.0.name ≡ false

abbrev Fits : Named → Names → List Mark → Mark → Type 0
Fits name seen all m = (m.1 ≡ true) ↔ IsNew name seen all m.0

record Marked (name : Named) (seen : Names) (os : List Occurrence) : Type 0 where
  marks : List Mark
  places : marked_roles marks ≡ os
  fit : Each (Fits name seen marks) marks
  found : reached_from name 0 seen os ≡ reached_roles marks

places_join : (xs ys : List Mark) (os ps : List Occurrence) → marked_roles xs ≡ os → marked_roles ys ≡ ps → marked_roles (xs ++ ys) ≡ os ++ ps
places_join xs ys os ps x y = map-append (λ (m : Mark). m.0) xs ys ∙ ap (λ l. l ++ marked_roles ys) x ∙ ap (λ l. os ++ l) y

reached_join : (xs ys : List Mark) → reached_roles (xs ++ ys) ≡ reached_roles xs ++ reached_roles ys
reached_join xs ys = ap (map (λ (m : Mark). m.0)) (filter-append (λ (m : Mark). m.1) xs ys) ∙ map-append (λ (m : Mark). m.0) (filter (λ m. m.1) xs) (filter (λ m. m.1) ys)

-- ---- a role that is reached, what is below it, and what follows it

head-new : (name : Named) (seen : Names) (o : Occurrence) (b : Bool) (c : ℕ) (xs ys : List Mark) → Within (o.start + 1) (stop o) (marked_roles xs) → Within (stop o) c (marked_roles ys)
    → matches name o.role.0 ≡ true → seen o.role.0.name ≡ false → IsNew name seen ((o, b) ∷ (xs ++ ys)) o
head-new name seen o b c xs ys x y fits unseen = record {
  reaches = record {
    fits = fits;
    above = (
      (λ h. absurd (omega (arith, h.0))),
      both (Above o) xs ys (every (Above o) (o.start + 1) (stop o) xs x (λ p l u h. absurd (omega (arith, l, h.0)))) (every (Above o) (stop o) c ys y (λ p l u h. absurd (omega (arith, l, h.0)))),
    );
    first = (
      (λ h t. absurd (omega (arith, h))),
      both (First o) xs ys (every (First o) (o.start + 1) (stop o) xs x (λ p l u h t. absurd (omega (arith, l, h)))) (every (First o) (stop o) c ys y (λ p l u h t. absurd (omega (arith, l, h)))),
    );
  };
  unseen = unseen;
}

inside-to : (name : Named) (seen : Names) (o : Occurrence) (c : ℕ) (xs ys : List Mark) (i : Occurrence) → Within (stop o) c (marked_roles ys) → o.start + 1 ≤ i.start → stop i ≤ stop o
    → IsNew name (add o.role.0.name seen) xs i → IsNew name seen ((o, true) ∷ (xs ++ ys)) i
inside-to name seen o c xs ys i y low high h =
    let other = or_none (bytes_eq o.role.0.name i.role.0.name) (seen i.role.0.name) h.unseen in
    record {
      reaches = record {
        fits = h.reaches.fits;
        above = ((λ b. refl), both (Above i) xs ys h.reaches.above (every (Above i) (stop o) c ys y (λ p l u b. absurd (omega (arith, high, l, b.0)))));
        first = ((λ l t. other.0), both (First i) xs ys h.reaches.first (every (First i) (stop o) c ys y (λ p l u e t. absurd (omega (arith, high, l, e)))));
      };
      unseen = other.1;
    }

inside-from : (name : Named) (seen : Names) (o : Occurrence) (xs ys : List Mark) (i : Occurrence) → o.start + 1 ≤ i.start → IsNew name seen ((o, true) ∷ (xs ++ ys)) i → IsNew name (add o.role.0.name seen) xs i
inside-from name seen o xs ys i low h = record {
  reaches = record { fits = h.reaches.fits; above = left (Above i) xs ys h.reaches.above.1; first = left (First i) xs ys h.reaches.first.1 };
  unseen = none_or (bytes_eq o.role.0.name i.role.0.name) (seen i.role.0.name) (h.reaches.first.0 (omega (arith, low)) refl) h.unseen;
}

rest-to : (name : Named) (seen : Names) (o : Occurrence) (xs ys : List Mark) (i : Occurrence) → Within (o.start + 1) (stop o) (marked_roles xs) → stop o ≤ i.start
    → IsNew name (names_after (add o.role.0.name seen) (reached_roles xs)) ys i → IsNew name seen ((o, true) ∷ (xs ++ ys)) i
rest-to name seen o xs ys i x low h =
    let q = i.role.0.name in
    let after = after_from (add o.role.0.name seen) q xs h.unseen in
    let other = or_none (bytes_eq o.role.0.name q) (seen q) after.0 in
    record {
      reaches = record {
        fits = h.reaches.fits;
        above = ((λ b. absurd (omega (arith, low, b.1))), both (Above i) xs ys (every (Above i) (o.start + 1) (stop o) xs x (λ p l u b. absurd (omega (arith, u, low, b.1)))) h.reaches.above);
        first = ((λ l t. other.0), both (First i) xs ys (each (NotNamed q) (First i) (o.start + 1) (stop o) xs x (λ p l u n e t. n t) after.1) h.reaches.first);
      };
      unseen = other.1;
    }

rest-from : (name : Named) (seen : Names) (o : Occurrence) (xs ys : List Mark) (i : Occurrence) → Within (o.start + 1) (stop o) (marked_roles xs) → stop o ≤ i.start
    → IsNew name seen ((o, true) ∷ (xs ++ ys)) i → IsNew name (names_after (add o.role.0.name seen) (reached_roles xs)) ys i
rest-from name seen o xs ys i x low h =
    let q = i.role.0.name in
    record {
      reaches = record { fits = h.reaches.fits; above = right (Above i) xs ys h.reaches.above.1; first = right (First i) xs ys h.reaches.first.1 };
      unseen =
          from_after (add o.role.0.name seen) q xs (none_or (bytes_eq o.role.0.name q) (seen q) (h.reaches.first.0 (omega (arith, low)) refl) h.unseen)
          (each (First i) (NotNamed q) (o.start + 1) (stop o) xs x (λ p l u f t. f (omega (arith, u, low)) t) (left (First i) xs ys h.reaches.first.1));
    }

-- ---- a role that isn't reached

abbrev off : List Occurrence → List Mark
off os = map (λ o. (o, false)) os

off-every : (Q : Mark → Type 0) (a b : ℕ) (os : List Occurrence) → Within a b os → ((o : Occurrence) → a ≤ o.start → stop o ≤ b → Q (o, false)) → Each Q (off os)
off-every Q a b [] w f = tt
off-every Q a b (o ∷ os) w f = (f o w.0 w.1, off-every Q a b os w.2 f)

off-places : (os : List Occurrence) → marked_roles (off os) ≡ os
off-places [] = refl
off-places (o ∷ os) = ap (λ (l : List Occurrence). o ∷ l) (off-places os)

off-none : (os : List Occurrence) → reached_roles (off os) ≡ []
off-none [] = refl
off-none (o ∷ os) = off-none os

past-to : (name : Named) (seen : Names) (o : Occurrence) (os : List Occurrence) (ys : List Mark) (i : Occurrence) → Within (o.start + 1) (stop o) os → stop o ≤ i.start → IsNew name seen ys i → IsNew name seen ((o, false) ∷ (off os ++ ys)) i
past-to name seen o os ys i x low h = record {
  reaches = record {
    fits = h.reaches.fits;
    above = ((λ b. absurd (omega (arith, low, b.1))), both (Above i) (off os) ys (off-every (Above i) (o.start + 1) (stop o) os x (λ p l u b. absurd (omega (arith, u, low, b.1)))) h.reaches.above);
    first = ((λ l t. cc), both (First i) (off os) ys (off-every (First i) (o.start + 1) (stop o) os x (λ p l u e t. cc)) h.reaches.first);
  };
  unseen = h.unseen;
}

past-from : (name : Named) (seen : Names) (o : Occurrence) (os : List Occurrence) (ys : List Mark) (i : Occurrence) → IsNew name seen ((o, false) ∷ (off os ++ ys)) i → IsNew name seen ys i
past-from name seen o os ys i h = record {
  reaches = record { fits = h.reaches.fits; above = right (Above i) (off os) ys h.reaches.above.1; first = right (First i) (off os) ys h.reaches.first.1 };
  unseen = h.unseen;
}

old_head : (name : Named) (seen : Names) (o : Occurrence) (all : List Mark) → is_new name seen o.role.0 ≡ false → IsNew name seen all o → false ≡ true
old_head name seen o all old h = sym old ∙ from_new (matches name o.role.0) (seen o.role.0.name) h.reaches.fits h.unseen

below_old : (name : Named) (seen : Names) (o i : Occurrence) (rest : List Mark) → o.start + 1 ≤ i.start → stop i ≤ stop o → IsNew name seen ((o, false) ∷ rest) i → false ≡ true
below_old name seen o i rest low high h = h.reaches.above.0 (omega (arith, low), omega (arith, high))

-- ---- both

marked-at : (name : Named) (seen : Names) (o : Occurrence) (inside rest : List Occurrence) (c : ℕ) (b : Bool) → is_new name seen o.role.0 ≡ b → o.below ≡ length inside
    → Within (o.start + 1) (stop o) inside → Within (stop o) c rest → Splits name inside → Marked name (add o.role.0.name seen) inside → ((v : Names) → Marked name v rest) → Marked name seen (o ∷ (inside ++ rest))
marked-at name seen o inside rest c true new size x y s i f =
    let now = add o.role.0.name seen in
    let r = f (names_after now (reached_roles i.marks)) in
    let all : List Mark = (o, true) ∷ (i.marks ++ r.marks) in
    let lower : Within (o.start + 1) (stop o) (marked_roles i.marks) = subst (Within (o.start + 1) (stop o)) (sym i.places) x in
    let upper : Within (stop o) c (marked_roles r.marks) = subst (Within (stop o) c) (sym r.places) y in
    let is = new_from (matches name o.role.0) (seen o.role.0.name) new in
    record {
      marks = all;
      places = ap (λ (l : List Occurrence). o ∷ l) (places_join i.marks r.marks inside rest i.places r.places);
      fit = (
        ((λ t. head-new name seen o true c i.marks r.marks lower upper is.0 is.1), (λ h. refl)),
        both (Fits name seen all) i.marks r.marks
            (each (Fits name now i.marks) (Fits name seen all) (o.start + 1) (stop o) i.marks lower (λ m l u h. ((λ t. inside-to name seen o c i.marks r.marks m.0 upper l u (h.0 t)), (λ n. h.1 (inside-from name seen o i.marks r.marks m.0 l n)))) i.fit)
            (each (Fits name (names_after now (reached_roles i.marks)) r.marks) (Fits name seen all) (stop o) c r.marks upper (λ m l u h. ((λ t. rest-to name seen o i.marks r.marks m.0 lower l (h.0 t)), (λ n. h.1 (rest-from name seen o i.marks r.marks m.0 lower l n)))) r.fit),
      );
      found =
          step-new name seen o (inside ++ rest) new
          ∙ ap (λ (l : List Occurrence). o ∷ l)
          (s.always now rest ∙ ap (λ (l : List Occurrence). l ++ reached_from name 0 (names_after now l) rest) i.found ∙ ap (λ l. reached_roles i.marks ++ l) r.found ∙ sym (reached_join i.marks r.marks));
    }
marked-at name seen o inside rest c false old size x y s i f =
    let r = f seen in
    let all : List Mark = (o, false) ∷ (off inside ++ r.marks) in
    let upper : Within (stop o) c (marked_roles r.marks) = subst (Within (stop o) c) (sym r.places) y in
    record {
      marks = all;
      places = ap (λ (l : List Occurrence). o ∷ l) (places_join (off inside) r.marks inside rest (off-places inside) r.places);
      fit = (
        ((λ t. cc), (λ h. old_head name seen o all old h)),
        both (Fits name seen all) (off inside) r.marks
            (off-every (Fits name seen all) (o.start + 1) (stop o) inside x (λ i l u. ((λ t. cc), (λ n. below_old name seen o i (off inside ++ r.marks) l u n))))
            (each (Fits name seen r.marks) (Fits name seen all) (stop o) c r.marks upper (λ m l u h. ((λ t. past-to name seen o inside r.marks m.0 x l (h.0 t)), (λ n. h.1 (past-from name seen o inside r.marks m.0 n)))) r.fit),
      );
      found =
          step-old name seen o (inside ++ rest) old ∙ ap (λ n. reached_from name n seen (inside ++ rest)) size ∙ skip_all name seen inside rest ∙ r.found
          ∙ sym (reached_join (off inside) r.marks ∙ ap (λ l. l ++ reached_roles r.marks) (off-none inside));
    }

none_marked : (name : Named) (seen : Names) → Marked name seen []
none_marked name seen = record { marks = []; places = refl; fit = tt; found = refl }

mutual
  marked : (name : Named) (seen : Names) (k : ℕ) (bs : Branches) → Marked name seen (preorder k bs)
  marked name seen k no_branches = none_marked name seen
  marked name seen k (unloaded e bs) =
      let o : Occurrence = record { role = (e, None); start = k; below = 0 } in
      marked-at name seen o [] (preorder (k + 1) bs) (k + 1 + length (preorder (k + 1) bs)) (is_new name seen e) refl refl tt
      (within-weaker (k + 1) (k + 1 + length (preorder (k + 1) bs)) (k + 1 + 0) (k + 1 + length (preorder (k + 1) bs)) (preorder (k + 1) bs) (omega arith) (omega arith) (within-preorder (k + 1) bs)) (splits-nil name)
      (none_marked name (add e.name seen)) (λ v. marked name v (k + 1) bs)
  marked name seen k (loaded e n signatures t bs) =
      let inside = preorder_below (k + 1) t in
      let next = k + 1 + length inside in
      let o : Occurrence = record { role = (e, Some (record { name = n; signatures = signatures; below = t })); start = k; below = length inside } in
      marked-at name seen o inside (preorder next bs) (next + length (preorder next bs)) (is_new name seen e) refl refl (within-below (k + 1) t) (within-preorder next bs) (splits_below name (k + 1) t)
      (marked_below name (add e.name seen) (k + 1) t) (λ v. marked name v next bs)

  marked_below : (name : Named) (seen : Names) (k : ℕ) (t : TreeDoc) → Marked name seen (preorder_below k t)
  marked_below name seen k (tree o bs) = marked name seen k bs

-- ---- one way to mark

-- the same roles, with the same marks on the places before n
abbrev Alike : ℕ → List Mark → List Mark → Type 0
Alike n [] [] = Unit {0}
Alike n [] (k ∷ ks) = ⊥
Alike n (m ∷ ms) [] = ⊥
Alike n (m ∷ ms) (k ∷ ks) = (m.0 ≡ k.0) × ((m.0.start < n → m.1 ≡ k.1) × Alike n ms ks)

alike_back : (n : ℕ) (ms ks : List Mark) → Alike n ms ks → Alike n ks ms
alike_back n [] [] h = tt
alike_back n [] (k ∷ ks) h = absurd h
alike_back n (m ∷ ms) [] h = absurd h
alike_back n (m ∷ ms) (k ∷ ks) h = (sym h.0, ((λ l. sym (h.1.0 (subst (λ (p : Occurrence). p.start < n) (sym h.0) l))), alike_back n ms ks h.1.1))

alike_less : (i n : ℕ) (ms ks : List Mark) → i ≤ n → Alike n ms ks → Alike i ms ks
alike_less i n [] [] less h = tt
alike_less i n [] (k ∷ ks) less h = absurd h
alike_less i n (m ∷ ms) [] less h = absurd h
alike_less i n (m ∷ ms) (k ∷ ks) less h = (h.0, ((λ l. h.1.0 (omega (arith, l, less))), alike_less i n ms ks less h.1.1))

-- what is asked of a role speaks of earlier places
above_over : (o : Occurrence) (ms ks : List Mark) → Alike o.start ms ks → Each (Above o) ms → Each (Above o) ks
above_over o [] [] h e = tt
above_over o [] (k ∷ ks) h e = absurd h
above_over o (m ∷ ms) [] h e = absurd h
above_over o (m ∷ ms) (k ∷ ks) h e = ((λ b. let c = subst (IsBelow o) (sym h.0) b in sym (h.1.0 c.0) ∙ e.0 c), above_over o ms ks h.1.1 e.1)

first_over : (o : Occurrence) (ms ks : List Mark) → Alike o.start ms ks → Each (First o) ms → Each (First o) ks
first_over o [] [] h e = tt
first_over o [] (k ∷ ks) h e = absurd h
first_over o (m ∷ ms) [] h e = absurd h
first_over o (m ∷ ms) (k ∷ ks) h e = (
  (λ l t. let c = subst (λ (p : Occurrence). p.start < o.start) (sym h.0) l in subst (λ (p : Occurrence). bytes_eq p.role.0.name o.role.0.name ≡ false) h.0 (e.0 c (h.1.0 c ∙ t))),
  first_over o ms ks h.1.1 e.1,
)

reached_over : (name : Named) (o : Occurrence) (ms ks : List Mark) → Alike o.start ms ks → IsReached name ms o → IsReached name ks o
reached_over name o ms ks h r = record { fits = r.fits; above = above_over o ms ks h r.above; first = first_over o ms ks h r.first }

same_truth : (a b : Bool) → (a ≡ true → b ≡ true) → (b ≡ true → a ≡ true) → a ≡ b
same_truth true b h k = sym (h refl)
same_truth false true h k = k refl
same_truth false false h k = refl

same_mark : (name : Named) (all others : List Mark) (m k : Mark) → Alike m.0.start all others → m.0 ≡ k.0 → ((m.1 ≡ true) ↔ IsReached name all m.0) → ((k.1 ≡ true) ↔ IsReached name others k.0) → m.1 ≡ k.1
same_mark name all others m k h same e f =
    same_truth m.1 k.1 (λ t. f.1 (subst (IsReached name others) same (reached_over name m.0 all others h (e.0 t))))
    (λ t. e.1 (reached_over name m.0 others all (alike_back m.0.start all others h) (subst (IsReached name others) (sym same) (f.0 t))))

alike_more : (name : Named) (n : ℕ) (all others ms ks : List Mark) → Alike n all others → Alike n ms ks → Each (λ m. (m.1 ≡ true) ↔ IsReached name all m.0) ms → Each (λ k. (k.1 ≡ true) ↔ IsReached name others k.0) ks → Alike (suc n) ms ks
alike_more name n all others [] [] a h e f = tt
alike_more name n all others [] (k ∷ ks) a h e f = absurd h
alike_more name n all others (m ∷ ms) [] a h e f = absurd h
alike_more name n all others (m ∷ ms) (k ∷ ks) a h e f =
    (h.0, ((λ l. same_mark name all others m k (alike_less m.0.start n all others (omega (arith, l)) a) h.0 e.0 f.0), alike_more name n all others ms ks a h.1.1 e.1 f.1))

alike_first : (ms ks : List Mark) → marked_roles ms ≡ marked_roles ks → Alike 0 ms ks
alike_first [] [] h = tt
alike_first [] (k ∷ ks) h = cc
alike_first (m ∷ ms) [] h = cc
alike_first (m ∷ ms) (k ∷ ks) h =
    let head : m.0 ≡ k.0 = cc in
    let tail : marked_roles ms ≡ marked_roles ks = cc in
    (head, ((λ l. absurd (omega (arith, l))), alike_first ms ks tail))

alike : (name : Named) (ms ks : List Mark) → marked_roles ms ≡ marked_roles ks → AreMarked name ms → AreMarked name ks → (n : ℕ) → Alike n ms ks
alike name ms ks h e f zero = alike_first ms ks h
alike name ms ks h e f (suc n) = let before = alike name ms ks h e f n in alike_more name n ms ks ms ks before before e f

alike_same : (ms ks : List Mark) → ((n : ℕ) → Alike n ms ks) → ms ≡ ks
alike_same [] [] h = refl
alike_same [] (k ∷ ks) h = absurd (h 0)
alike_same (m ∷ ms) [] h = absurd (h 0)
alike_same (m ∷ ms) (k ∷ ks) h =
    let head : m ≡ k = ap (λ (o : Occurrence). let p : Mark = (o, m.1) in p) (h 0).0 ∙ ap (λ (b : Bool). let p : Mark = (k.0, b) in p) ((h (suc m.0.start)).1.0 (omega arith)) in
    ap (λ (x : Mark). x ∷ ms) head ∙ ap (λ l. k ∷ l) (alike_same ms ks (λ n. (h n).1.1))

pub reaches-exactly : (name : Named) (t : TreeDoc) → ReachesExactly name t
reaches-exactly name t =
    let m = marked_below name no_names 0 t in
    let end = 0 + length (preorder_below 0 t) in
    let within : Within 0 end (marked_roles m.marks) = subst (Within 0 end) (sym m.places) (within-below 0 t) in
    let are : AreMarked name m.marks =
    each (Fits name no_names m.marks) (λ x. (x.1 ≡ true) ↔ IsReached name m.marks x.0) 0 end m.marks within
    (λ x l u h. ((λ e. (h.0 e).reaches), (λ r. let n : IsNew name no_names m.marks x.0 = record { reaches = r; unseen = refl } in h.1 n))) m.fit in
    record {
      marks = m.marks;
      places = m.places;
      marked = are;
      only = λ others same fit. alike_same others m.marks (alike name others m.marks (same ∙ sym m.places) fit are);
      reached = m.found;
    }
