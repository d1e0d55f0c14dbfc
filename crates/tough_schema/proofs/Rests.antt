-- What is left of a search, and what the whole search finds and compares.
use Rattle.std.proofs.Common.{◌≡◌, ℕ, zero, suc, ◌+◌, ◌<◌, ◌≤◌, List, [], ◌∷◌, ◌++◌, length, get_or, drop, filter, min, Bool, true, false, ◌&&◌, not, nat_lt, nat_cmp, String, Global, string_bytes, Option, Some, None, is_some, refl, sym, ap, subst, ◌∙◌, arith, if◌then◌else◌}
use Rattle.std.proofs.Props.{props}
use Rattle.std.proofs.lemmas.Bool.{lt-ltb, le-ltb, ltb-true, ltb-false}
use Rattle.std.proofs.lemmas.List.{drop_more, drop-drop, get_or-map}
use Rattle.std.specs.Option.{option_or}
use Rattle.std.specs.BTreeMap.{is_at}
use Rattle.std.specs.BTreeSet.{BTreeSet, IsEmpty}
use Rattle.std.specs.Cmp.Lexicographic.{slice_cmp}
use Rattle.std.specs.List.{list_any}
use Rattle.tough_names.specs.Named.{Named}
use Rattle.tough_schema.specs.declared.nodes.Course.{Course}
use Rattle.tough_schema.specs.declared.nodes.Node.{Node}
use Rattle.tough_schema.specs.declared.nodes.Sight.{Sight}
use Rattle.tough_schema.specs.declared.nodes.Sight.TheVariants.{Known, Other, Lists, Open}
use Rattle.tough_schema.specs.Tree.{Entry}
use Rattle.tough_schema.specs.Whole.{TreeDoc, tree, Branches, no_branches, unloaded, loaded, RoleTree, role_tree, listing_of}
use Rattle.tough_schema.specs.Preorder.{Occurrence, stop, preorder, preorder_below}
use Rattle.tough_schema.specs.Search.{Names, no_names, add, matches, is_new, reached_from, reached, earlier, is_before, searched, listed}
use Rattle.tough_schema.specs.Visited.{ends, names_in}
use Rattle.tough_schema.specs.Found.{lists, first_number, found_at, compared_from, compared, last_end, tested}
use Rattle.tough_schema.specs.Numbered.{Span, spans, node_spans}
use Rattle.tough_schema.specs.Rest.{Rest, nothing, counted, sight, names_then, end_then, course_then, after, rest, whole}
use Rattle.tough_schema.proofs.Reached.{step-new, step-old}
use Rattle.tough_schema.proofs.Ends.{Within, within-weaker, within-cond, within-reached, within-below, end_of, IsEndWithin, end-within, filter-keeps, filter-drops, filter-all, before_end-searched, end_of-last}
use Rattle.tough_schema.proofs.Numbers.{length-node_spans, length-spans}

-- ---- places

-- the roles stand at the places from k on
abbrev pub Starts : ℕ → List Occurrence → Type 0
Starts k [] = Unit {0}
Starts k (o ∷ os) = (o.start ≡ k) × Starts (k + 1) os

starts-append : (k m : ℕ) (xs ys : List Occurrence) → m ≡ k + length xs → Starts k xs → Starts m ys → Starts k (xs ++ ys)
starts-append k m [] ys e x y = let same : m ≡ k = omega (arith, e) in subst (λ n. Starts n ys) same y
starts-append k m (o ∷ xs) ys e x y = (x.0, starts-append (k + 1) m xs ys (omega (arith, e)) x.1 y)

mutual
  pub starts-preorder : (k : ℕ) (bs : Branches) → Starts k (preorder k bs)
  starts-preorder k no_branches = tt
  starts-preorder k (unloaded e bs) = (refl, starts-preorder (k + 1) bs)
  starts-preorder k (loaded e n signatures t bs) =
      let inside = preorder_below (k + 1) t in
      (refl, starts-append (k + 1) (k + 1 + length inside) inside (preorder (k + 1 + length inside) bs) refl (starts-below (k + 1) t) (starts-preorder (k + 1 + length inside) bs))

  pub starts-below : (k : ℕ) (t : TreeDoc) → Starts k (preorder_below k t)
  starts-below k (tree o bs) = starts-preorder k bs

start-at : (os : List Occurrence) (k i : ℕ) (d : Occurrence) → Starts k os → i < length os → (get_or os i d).start ≡ k + i
start-at [] k i d s h = absurd (omega (arith, h))
start-at (o ∷ os) k zero d s h = omega (arith, s.0)
start-at (o ∷ os) k (suc i) d s h = start-at os (k + 1) i d s.1 (omega (arith, h)) ∙ omega arith

starts-within : (a b k : ℕ) (os : List Occurrence) → Starts k os → Within a b os → Within k b os
starts-within a b k [] s w = tt
starts-within a b k (o ∷ os) s w = (omega (arith, s.0), w.1, within-weaker (k + 1) b k b os (omega arith) (omega arith) (starts-within a b (k + 1) os s.1 w.2))

within-compared : (a b : ℕ) (name : Named) (skip : ℕ) (seen : Names) (xs : List Occurrence) → Within a b xs → Within a b (compared_from name skip seen xs)
within-compared a b name skip seen [] x = tt
within-compared a b name (suc skip) seen (o ∷ xs) x = within-compared a b name skip seen xs x.2
within-compared a b name zero seen (o ∷ xs) x =
    let past = compared_from name o.below seen xs in
    let into = compared_from name 0 (add o.role.0.name seen) xs in
    within-cond a b (seen o.role.0.name) past (o ∷ (if matches name o.role.0 then into else past)) (within-compared a b name o.below seen xs x.2)
    (x.0, x.1, within-cond a b (matches name o.role.0) into past (within-compared a b name 0 (add o.role.0.name seen) xs x.2) (within-compared a b name o.below seen xs x.2))

-- ---- a search that ends at a place

drops-all : (end k b : ℕ) (q : Option ℕ) (xs : List Occurrence) → end ≤ k → Within k b xs → filter (is_before (earlier end q)) xs ≡ []
drops-all end k b None xs h w = filter-drops k b end xs w h
drops-all end k b (Some m) xs h w = filter-drops k b (min end m) xs w (omega (arith, h))

caps : (n : ℕ) (q : Option ℕ) (xs : List Occurrence) → Within 0 n xs → IsEndWithin 0 n q → filter (is_before (earlier n q)) xs ≡ filter (is_before q) xs
caps n None xs w x = filter-keeps 0 n n xs w (omega arith) ∙ sym (filter-all xs)
caps n (Some m) xs w x = let least : min n m ≡ m = omega (arith, x.1) in ap (λ (j : ℕ). filter (is_before (Some j)) xs) least

head-kept : (end k b : ℕ) (q : Option ℕ) (o : Occurrence) → o.start < end → o.start ≤ k → IsEndWithin k b q → is_before (earlier end q) o ≡ true
head-kept end k b None o h s x = lt-ltb o.start end h
head-kept end k b (Some m) o h s x = lt-ltb o.start (min end m) (omega (arith, h, s, x.0))

ends-meet : (t : Bool) (end k : ℕ) (q : Option ℕ) → earlier end (if t then earlier k q else q) ≡ earlier (if t then min end k else end) q
ends-meet true end k None = refl
ends-meet true end k (Some m) = ap Some (omega arith)
ends-meet false end k q = refl

first-kept : (name : Named) (x : Option ℕ) (o : Occurrence) (os : List Occurrence) → is_before x o ≡ true → lists name o.role ≡ true → first_number name (filter (is_before x) (o ∷ os)) ≡ Some (o.start + 1)
first-kept name x o os h l = rw h (rw l refl)

first-next : (name : Named) (x : Option ℕ) (o : Occurrence) (os : List Occurrence) → is_before x o ≡ true → lists name o.role ≡ false → first_number name (filter (is_before x) (o ∷ os)) ≡ first_number name (filter (is_before x) os)
first-next name x o os h l = rw h (rw l refl)

one-more : (x : Option ℕ) (o : Occurrence) (os : List Occurrence) (n : ℕ) → is_before x o ≡ true → n ≡ length (filter (is_before x) os) → n + 1 ≡ length (filter (is_before x) (o ∷ os))
one-more x o os n h e = rw h (omega (arith, e))

one-alone : (o : Occurrence) (os : List Occurrence) → filter (is_before (Some (o.start + 1))) os ≡ [] → 1 ≡ length (filter (is_before (Some (o.start + 1))) (o ∷ os))
one-alone o os e = rw (lt-ltb o.start (o.start + 1) (omega arith)) (rw e refl)

-- ---- steps

not_new : (m s : Bool) → s ≡ true → (m && not s) ≡ false
not_new true true h = refl
not_new true false h = cc
not_new false s h = refl

no_match : (m s : Bool) → m ≡ false → (m && not s) ≡ false
no_match true s h = cc
no_match false s h = refl

new_match : (m s : Bool) → m ≡ true → s ≡ false → (m && not s) ≡ true
new_match true true h k = cc
new_match true false h k = refl
new_match false s h k = cc

rest-past : (p : Bool) (name : Named) (end : ℕ) (seen : Names) (o : Occurrence) (os : List Occurrence) → end ≤ o.start → rest p name end 0 seen (o ∷ os) ≡ nothing
rest-past p name end seen o os h = rw (le-ltb o.start end h) refl

rest-on : (p : Bool) (name : Named) (end : ℕ) (seen : Names) (o : Occurrence) (os : List Occurrence) (s : Sight) → o.start < end → sight name seen o.role ≡ s
    → rest p name end 0 seen (o ∷ os) ≡ after s o (rest p name end o.below seen os) (rest p name (end_then p o.role.0 (stop o) end) 0 (add o.role.0.name seen) os)
rest-on p name end seen o os s h e =
    rw (lt-ltb o.start end h) (ap (λ (x : Sight). after x o (rest p name end o.below seen os) (rest p name (end_then p o.role.0 (stop o) end) 0 (add o.role.0.name seen) os)) e)

pub sight-known : (name : Named) (seen : Names) (r : RoleTree) → seen r.0.name ≡ true → sight name seen r ≡ Known
sight-known name seen r s = rw s refl

pub sight-other : (name : Named) (seen : Names) (r : RoleTree) → seen r.0.name ≡ false → matches name r.0 ≡ false → sight name seen r ≡ Other
sight-other name seen r s m = rw s (rw m refl)

pub sight-lists : (name : Named) (seen : Names) (r : RoleTree) → seen r.0.name ≡ false → matches name r.0 ≡ true → lists name r ≡ true → sight name seen r ≡ Lists
sight-lists name seen r s m l = rw s (rw m (rw l refl))

pub sight-open : (name : Named) (seen : Names) (r : RoleTree) → seen r.0.name ≡ false → matches name r.0 ≡ true → lists name r ≡ false → sight name seen r ≡ Open
sight-open name seen r s m l = rw s (rw m (rw l refl))

compared-known : (name : Named) (seen : Names) (o : Occurrence) (os : List Occurrence) → seen o.role.0.name ≡ true → compared_from name 0 seen (o ∷ os) ≡ compared_from name o.below seen os
compared-known name seen o os s = rw s refl

compared-other : (name : Named) (seen : Names) (o : Occurrence) (os : List Occurrence) → seen o.role.0.name ≡ false → matches name o.role.0 ≡ false → compared_from name 0 seen (o ∷ os) ≡ o ∷ compared_from name o.below seen os
compared-other name seen o os s m = rw s (rw m refl)

compared-new : (name : Named) (seen : Names) (o : Occurrence) (os : List Occurrence) → seen o.role.0.name ≡ false → matches name o.role.0 ≡ true
    → compared_from name 0 seen (o ∷ os) ≡ o ∷ compared_from name 0 (add o.role.0.name seen) os
compared-new name seen o os s m = rw s (rw m refl)

-- ---- the number

abbrev kept : Bool → ℕ → List Occurrence → List Occurrence
kept p end xs = filter (is_before (earlier end (end_of p xs))) xs

abbrev NodeIs : Bool → Named → ℕ → ℕ → Names → List Occurrence → Type 0
NodeIs p name end skip seen os = (rest p name end skip seen os).node ≡ first_number name (kept p end (reached_from name skip seen os))

node-old : (p : Bool) (name : Named) (end : ℕ) (seen : Names) (o : Occurrence) (os : List Occurrence) → (rest p name end 0 seen (o ∷ os)).node ≡ (rest p name end o.below seen os).node → is_new name seen o.role.0 ≡ false
    → NodeIs p name end o.below seen os → NodeIs p name end 0 seen (o ∷ os)
node-old p name end seen o os r old past = r ∙ past ∙ ap (λ (xs : List Occurrence). first_number name (kept p end xs)) (sym (step-old name seen o os old))

node-cases : (p : Bool) (name : Named) (end : ℕ) (seen : Names) (k b : ℕ) (o : Occurrence) (os : List Occurrence) → Starts k (o ∷ os) → Within 0 b (o ∷ os) → o.start < end
    → NodeIs p name end o.below seen os → NodeIs p name (end_then p o.role.0 (stop o) end) 0 (add o.role.0.name seen) os
    → (s m l : Bool) → seen o.role.0.name ≡ s → matches name o.role.0 ≡ m → lists name o.role ≡ l → NodeIs p name end 0 seen (o ∷ os)
node-cases p name end seen k b o os st w lt past into true m l sv mv lv =
    node-old p name end seen o os (ap (λ (r : Rest). r.node) (rest-on p name end seen o os Known lt (sight-known name seen o.role sv))) (not_new (matches name o.role.0) (seen o.role.0.name) sv) past
node-cases p name end seen k b o os st w lt past into false false l sv mv lv =
    node-old p name end seen o os (ap (λ (r : Rest). r.node) (rest-on p name end seen o os Other lt (sight-other name seen o.role sv mv))) (no_match (matches name o.role.0) (seen o.role.0.name) mv) past
node-cases p name end seen k b o os st w lt past into false true true sv mv lv =
    let below = reached_from name 0 (add o.role.0.name seen) os in
    let here = starts-within 0 b k (o ∷ os) st w in
    let bounded : Within k b (o ∷ below) = (here.0, here.1, within-reached k b name 0 (add o.role.0.name seen) os here.2) in
    let x = earlier end (end_of p (o ∷ below)) in
    ap (λ (r : Rest). r.node) (rest-on p name end seen o os Lists lt (sight-lists name seen o.role sv mv lv))
    ∙ sym (first-kept name x o below (head-kept end k b (end_of p (o ∷ below)) o lt (omega (arith, st.0)) (end-within p k b (o ∷ below) bounded)) lv)
    ∙ ap (λ (xs : List Occurrence). first_number name (kept p end xs)) (sym (step-new name seen o os (new_match (matches name o.role.0) (seen o.role.0.name) mv sv)))
node-cases p name end seen k b o os st w lt past into false true false sv mv lv =
    let below = reached_from name 0 (add o.role.0.name seen) os in
    let here = starts-within 0 b k (o ∷ os) st w in
    let bounded : Within k b (o ∷ below) = (here.0, here.1, within-reached k b name 0 (add o.role.0.name seen) os here.2) in
    let x = earlier end (end_of p (o ∷ below)) in
    ap (λ (r : Rest). r.node) (rest-on p name end seen o os Open lt (sight-open name seen o.role sv mv lv))
    ∙ into ∙ ap (λ (y : Option ℕ). first_number name (filter (is_before y) below)) (sym (ends-meet (ends p o.role.0) end (stop o) (end_of p below)))
    ∙ sym (first-next name x o below (head-kept end k b (end_of p (o ∷ below)) o lt (omega (arith, st.0)) (end-within p k b (o ∷ below) bounded)) lv)
    ∙ ap (λ (xs : List Occurrence). first_number name (kept p end xs)) (sym (step-new name seen o os (new_match (matches name o.role.0) (seen o.role.0.name) mv sv)))

node-at : (p : Bool) (name : Named) (end : ℕ) (seen : Names) (k b : ℕ) (o : Occurrence) (os : List Occurrence) → Starts k (o ∷ os) → Within 0 b (o ∷ os)
    → NodeIs p name end o.below seen os → NodeIs p name (end_then p o.role.0 (stop o) end) 0 (add o.role.0.name seen) os
    → (t : Bool) → nat_lt o.start end ≡ t → NodeIs p name end 0 seen (o ∷ os)
node-at p name end seen k b o os st w past into true h =
    node-cases p name end seen k b o os st w (ltb-true o.start end h) past into (seen o.role.0.name) (matches name o.role.0) (lists name o.role) refl refl refl
node-at p name end seen k b o os st w past into false h =
    let gone = ltb-false o.start end h in
    let all = reached_from name 0 seen (o ∷ os) in
    ap (λ (r : Rest). r.node) (rest-past p name end seen o os gone)
    ∙ sym (ap (first_number name) (drops-all end k b (end_of p all) all (omega (arith, st.0, gone)) (within-reached k b name 0 seen (o ∷ os) (starts-within 0 b k (o ∷ os) st w))))

pub node-is : (p : Bool) (name : Named) (end skip : ℕ) (seen : Names) (k b : ℕ) (os : List Occurrence) → Starts k os → Within 0 b os → NodeIs p name end skip seen os
node-is p name end skip seen k b [] st w = refl
node-is p name end (suc skip) seen k b (o ∷ os) st w = node-is p name end skip seen (k + 1) b os st.1 w.2
node-is p name end zero seen k b (o ∷ os) st w =
    node-at p name end seen k b o os st w (node-is p name end o.below seen (k + 1) b os st.1 w.2) (node-is p name (end_then p o.role.0 (stop o) end) 0 (add o.role.0.name seen) (k + 1) b os st.1 w.2) (nat_lt o.start end) refl

-- ---- how many are compared

-- a number is greater than k
abbrev Above : ℕ → Option ℕ → Type 0
Above k None = Unit {0}
Above k (Some m) = k < m

above-weaker : (k : ℕ) (q : Option ℕ) → Above (k + 1) q → Above k q
above-weaker k None h = tt
above-weaker k (Some m) h = omega (arith, h)

above-after : (s : Sight) (k : ℕ) (o : Occurrence) (past into : Rest) → o.start ≡ k → Above k past.node → Above k into.node → Above k (after s o past into).node
above-after Known k o past into e a b = a
above-after Other k o past into e a b = a
above-after Lists k o past into e a b = omega (arith, e)
above-after Open k o past into e a b = b

above-cond : (t : Bool) (k : ℕ) (r : Rest) → Above k r.node → Above k (if t then r else nothing).node
above-cond true k r h = h
above-cond false k r h = tt

above : (p : Bool) (name : Named) (end skip : ℕ) (seen : Names) (k : ℕ) (os : List Occurrence) → Starts k os → Above k (rest p name end skip seen os).node
above p name end skip seen k [] st = tt
above p name end (suc skip) seen k (o ∷ os) st = above-weaker k (rest p name end skip seen os).node (above p name end skip seen (k + 1) os st.1)
above p name end zero seen k (o ∷ os) st =
    let past = rest p name end o.below seen os in
    let into = rest p name (end_then p o.role.0 (stop o) end) 0 (add o.role.0.name seen) os in
    above-cond (nat_lt o.start end) k (after (sight name seen o.role) o past into)
    (above-after (sight name seen o.role) k o past into st.0 (above-weaker k past.node (above p name end o.below seen (k + 1) os st.1)) (above-weaker k into.node (above p name (end_then p o.role.0 (stop o) end) 0 (add o.role.0.name seen) (k + 1) os st.1)))

before-number : (k : ℕ) (node x : Option ℕ) (o : Occurrence) → o.start ≤ k → Above k node → is_before x o ≡ true → is_before (option_or node x) o ≡ true
before-number k None x o s a h = h
before-number k (Some m) x o s a h = lt-ltb o.start m (omega (arith, s, a))

abbrev TestsOf : Rest → Option ℕ → List Occurrence → Type 0
TestsOf r x xs = r.tests ≡ length (filter (is_before (option_or r.node x)) xs)

abbrev TestsAre : Bool → Named → ℕ → ℕ → Names → List Occurrence → Type 0
TestsAre p name end skip seen os = TestsOf (rest p name end skip seen os) (earlier end (end_of p (reached_from name skip seen os))) (compared_from name skip seen os)

along : (r q : Rest) (p : Bool) (end : ℕ) (xs ys cs ds : List Occurrence) → r ≡ q → xs ≡ ys → cs ≡ ds → TestsOf q (earlier end (end_of p ys)) ds → TestsOf r (earlier end (end_of p xs)) cs
along r q p end xs ys cs ds a b c h =
    subst (λ (x : Rest). TestsOf x (earlier end (end_of p xs)) cs) (sym a) (subst (λ (x : List Occurrence). TestsOf q (earlier end (end_of p x)) cs) (sym b) (subst (λ (x : List Occurrence). TestsOf q (earlier end (end_of p ys)) x) (sym c) h))

-- an entry that was compared, and no more than that
counts : (r : Rest) (k b end : ℕ) (q : Option ℕ) (o : Occurrence) (xs : List Occurrence) → o.start < end → o.start ≤ k → Above k r.node → IsEndWithin k b q
    → TestsOf r (earlier end q) xs → TestsOf (counted r) (earlier end q) (o ∷ xs)
counts r k b end q o xs lt s a e h = one-more (option_or r.node (earlier end q)) o xs r.tests (before-number k r.node (earlier end q) o s a (head-kept end k b q o lt s e)) h

tests-cases : (p : Bool) (name : Named) (end : ℕ) (seen : Names) (k b : ℕ) (o : Occurrence) (os : List Occurrence) → Starts k (o ∷ os) → Within 0 b (o ∷ os) → o.start < end
    → TestsAre p name end o.below seen os → TestsAre p name (end_then p o.role.0 (stop o) end) 0 (add o.role.0.name seen) os
    → (s m l : Bool) → seen o.role.0.name ≡ s → matches name o.role.0 ≡ m → lists name o.role ≡ l → TestsAre p name end 0 seen (o ∷ os)
tests-cases p name end seen k b o os st w lt past into true m l sv mv lv =
    along (rest p name end 0 seen (o ∷ os)) (rest p name end o.below seen os) p end (reached_from name 0 seen (o ∷ os)) (reached_from name o.below seen os) (compared_from name 0 seen (o ∷ os)) (compared_from name o.below seen os)
    (rest-on p name end seen o os Known lt (sight-known name seen o.role sv)) (step-old name seen o os (not_new (matches name o.role.0) (seen o.role.0.name) sv)) (compared-known name seen o os sv) past
tests-cases p name end seen k b o os st w lt past into false false l sv mv lv =
    let r = rest p name end o.below seen os in
    let below = reached_from name o.below seen os in
    let here = starts-within 0 b k (o ∷ os) st w in
    along (rest p name end 0 seen (o ∷ os)) (counted r) p end (reached_from name 0 seen (o ∷ os)) below (compared_from name 0 seen (o ∷ os)) (o ∷ compared_from name o.below seen os)
    (rest-on p name end seen o os Other lt (sight-other name seen o.role sv mv)) (step-old name seen o os (no_match (matches name o.role.0) (seen o.role.0.name) mv)) (compared-other name seen o os sv mv)
    (counts r k b end (end_of p below) o (compared_from name o.below seen os) lt (omega (arith, st.0)) (above-weaker k r.node (above p name end o.below seen (k + 1) os st.1)) (end-within p k b below (within-reached k b name o.below seen os here.2)) past)
tests-cases p name end seen k b o os st w lt past into false true true sv mv lv =
    let below = reached_from name 0 (add o.role.0.name seen) os in
    let rest_of = compared_from name 0 (add o.role.0.name seen) os in
    along (rest p name end 0 seen (o ∷ os)) (record { node = Some (o.start + 1); tests = 1 }) p end (reached_from name 0 seen (o ∷ os)) (o ∷ below) (compared_from name 0 seen (o ∷ os)) (o ∷ rest_of)
    (rest-on p name end seen o os Lists lt (sight-lists name seen o.role sv mv lv)) (step-new name seen o os (new_match (matches name o.role.0) (seen o.role.0.name) mv sv)) (compared-new name seen o os sv mv)
    (one-alone o rest_of (filter-drops (k + 1) b (o.start + 1) rest_of (within-compared (k + 1) b name 0 (add o.role.0.name seen) os (starts-within 0 b (k + 1) os st.1 w.2)) (omega (arith, st.0))))
tests-cases p name end seen k b o os st w lt past into false true false sv mv lv =
    let now = add o.role.0.name seen in
    let r = rest p name (end_then p o.role.0 (stop o) end) 0 now os in
    let below = reached_from name 0 now os in
    let rest_of = compared_from name 0 now os in
    let here = starts-within 0 b k (o ∷ os) st w in
    let bounded : Within k b (o ∷ below) = (here.0, here.1, within-reached k b name 0 now os here.2) in
    along (rest p name end 0 seen (o ∷ os)) (counted r) p end (reached_from name 0 seen (o ∷ os)) (o ∷ below) (compared_from name 0 seen (o ∷ os)) (o ∷ rest_of)
    (rest-on p name end seen o os Open lt (sight-open name seen o.role sv mv lv)) (step-new name seen o os (new_match (matches name o.role.0) (seen o.role.0.name) mv sv)) (compared-new name seen o os sv mv)
    (counts r k b end (end_of p (o ∷ below)) o rest_of lt (omega (arith, st.0)) (above-weaker k r.node (above p name (end_then p o.role.0 (stop o) end) 0 now (k + 1) os st.1)) (end-within p k b (o ∷ below) bounded)
    (subst (λ (y : Option ℕ). TestsOf r y rest_of) (sym (ends-meet (ends p o.role.0) end (stop o) (end_of p below))) into))

tests-at : (p : Bool) (name : Named) (end : ℕ) (seen : Names) (k b : ℕ) (o : Occurrence) (os : List Occurrence) → Starts k (o ∷ os) → Within 0 b (o ∷ os)
    → TestsAre p name end o.below seen os → TestsAre p name (end_then p o.role.0 (stop o) end) 0 (add o.role.0.name seen) os
    → (t : Bool) → nat_lt o.start end ≡ t → TestsAre p name end 0 seen (o ∷ os)
tests-at p name end seen k b o os st w past into true h =
    tests-cases p name end seen k b o os st w (ltb-true o.start end h) past into (seen o.role.0.name) (matches name o.role.0) (lists name o.role) refl refl refl
tests-at p name end seen k b o os st w past into false h =
    let gone = ltb-false o.start end h in
    let all = reached_from name 0 seen (o ∷ os) in
    let cs = compared_from name 0 seen (o ∷ os) in
    along (rest p name end 0 seen (o ∷ os)) nothing p end all all cs cs (rest-past p name end seen o os gone) refl refl
    (sym (ap length (drops-all end k b (end_of p all) cs (omega (arith, st.0, gone)) (within-compared k b name 0 seen (o ∷ os) (starts-within 0 b k (o ∷ os) st w)))))

pub tests-are : (p : Bool) (name : Named) (end skip : ℕ) (seen : Names) (k b : ℕ) (os : List Occurrence) → Starts k os → Within 0 b os → TestsAre p name end skip seen os
tests-are p name end skip seen k b [] st w = refl
tests-are p name end (suc skip) seen k b (o ∷ os) st w = tests-are p name end skip seen (k + 1) b os st.1 w.2
tests-are p name end zero seen k b (o ∷ os) st w =
    tests-at p name end seen k b o os st w (tests-are p name end o.below seen (k + 1) b os st.1 w.2) (tests-are p name (end_then p o.role.0 (stop o) end) 0 (add o.role.0.name seen) (k + 1) b os st.1 w.2) (nat_lt o.start end) refl

-- ---- the whole search

-- all of them stand within the tree
bounds-below : (t : TreeDoc) → Within 0 (length (preorder_below 0 t)) (preorder_below 0 t)
bounds-below t =
    let os = preorder_below 0 t in
    let same : 0 + length os ≡ length os = omega arith in subst (λ (n : ℕ). Within 0 n os) same (within-below 0 t)

not_top : (p : Bool) (name : Named) (t : TreeDoc) → is_some (listed name (listing_of t)) ≡ false → first_number name (searched p (reached name t)) ≡ found_at p name t
not_top p name t h = rw h refl

-- the top document doesn't list the name
pub whole-node : (p : Bool) (name : Named) (t : TreeDoc) → is_some (listed name (listing_of t)) ≡ false → (whole p name t).node ≡ found_at p name t
whole-node p name t h =
    let os = preorder_below 0 t in
    let n = length os in
    let xs = reached name t in
    let bounds = bounds-below t in
    let inner = within-reached 0 n name 0 no_names os bounds in
    node-is p name n 0 no_names 0 n os (starts-below 0 t) bounds
    ∙ ap (first_number name) (caps n (end_of p xs) xs inner (end-within p 0 n xs inner) ∙ before_end-searched p xs)
    ∙ not_top p name t h

end-cases : (n : ℕ) (node q e : Option ℕ) (cs : List Occurrence) → Within 0 n cs → IsEndWithin 0 n q → q ≡ e → length (filter (is_before (option_or node (earlier n q))) cs) ≡ length (filter (is_before (option_or node e)) cs)
end-cases n None q e cs w x same = ap length (caps n q cs w x) ∙ ap (λ (y : Option ℕ). length (filter (is_before y) cs)) same
end-cases n (Some k) q e cs w x same = refl

pub whole-tests : (p : Bool) (name : Named) (t : TreeDoc) → is_some (listed name (listing_of t)) ≡ false → (whole p name t).tests ≡ length (tested p name t)
whole-tests p name t h =
    let os = preorder_below 0 t in
    let n = length os in
    let xs = reached name t in
    let cs = compared name t in
    let bounds = bounds-below t in
    let inner = within-reached 0 n name 0 no_names os bounds in
    tests-are p name n 0 no_names 0 n os (starts-below 0 t) bounds
    ∙ end-cases n (whole p name t).node (end_of p xs) (last_end p xs) cs (within-compared 0 n name 0 no_names os bounds) (end-within p 0 n xs inner) (end_of-last p xs)
    ∙ ap (λ (node : Option ℕ). length (filter (is_before (option_or node (last_end p xs))) cs)) (whole-node p name t h)

-- the top document lists it
pub top-node : (p : Bool) (name : Named) (t : TreeDoc) → is_some (listed name (listing_of t)) ≡ true → Some 0 ≡ found_at p name t
top-node p name t h = rw h refl

pub top-tests : (p : Bool) (name : Named) (t : TreeDoc) → is_some (listed name (listing_of t)) ≡ true → 0 ≡ length (tested p name t)
top-tests p name t h =
    let n = length (preorder_below 0 t) in
    let cs = compared name t in
    sym (ap (λ (node : Option ℕ). length (filter (is_before (option_or node (last_end p (reached name t)))) cs)) (sym (top-node p name t h))
    ∙ ap length (filter-drops 0 n 0 cs (within-compared 0 n name 0 no_names (preorder_below 0 t) (bounds-below t)) (omega arith)))

-- ---- how far a search has come

rest-skip : (p : Bool) (name : Named) (end n : ℕ) (seen : Names) (os : List Occurrence) → rest p name end n seen os ≡ rest p name end 0 seen (drop n os)
rest-skip p name end zero seen [] = refl
rest-skip p name end zero seen (o ∷ os) = refl
rest-skip p name end (suc n) seen [] = refl
rest-skip p name end (suc n) seen (o ∷ os) = rest-skip p name end n seen os

abbrev pub left : Bool → Named → Course → Names → TreeDoc → Rest
left p name c seen t = rest p name c.end 0 seen (drop c.at (preorder_below 0 t))

pub record IsCourse (p : Bool) (name : Named) (c : Course) (seen : Names) (t : TreeDoc) (n : ℕ) : Type 0 where
  pub within : c.end ≤ n
  pub few : c.tests ≤ c.at
  pub node : (left p name c seen t).node ≡ (whole p name t).node
  pub tests : c.tests + (left p name c seen t).tests ≡ (whole p name t).tests

pub course-prop : (p : Bool) (name : Named) (c : Course) (seen : Names) (t : TreeDoc) (n : ℕ) → IsProp (IsCourse p name c seen t n)
course-prop p name c seen t n = Prim.hlevel props

-- the occurrence that a node shows
record Here (n : Node) (k : ℕ) (xs ys : List Occurrence) : Type 0 where
  o : Occurrence
  is : xs ≡ o ∷ ys
  role : o.role ≡ role_tree n.role.now
  start : o.start ≡ k
  end : stop o ≡ n.end

pub same-length : (ns : List Node) (os : List Occurrence) → node_spans ns ≡ spans os → length ns ≡ length os
same-length ns os h = sym (length-node_spans ns) ∙ ap length h ∙ length-spans os

here : (ns : List Node) (t : TreeDoc) (i : ℕ) (n : Node) → node_spans ns ≡ spans (preorder_below 0 t) → i < length ns → n ≡ get_or ns i n → Here n i (drop i (preorder_below 0 t)) (drop (i + 1) (preorder_below 0 t))
here ns t i n h lt e =
    let os = preorder_below 0 t in
    let d : Occurrence = record { role = role_tree n.role.now; start = 0; below = 0 } in
    let span : Occurrence → Span = λ o. (o.role, stop o) in
    let shown : Node → Span = λ m. (role_tree m.role.now, m.end) in
    let within : i < length os = omega (arith, same-length ns os h, lt) in
    let same : span (get_or os i d) ≡ shown n = sym (get_or-map span os i d (shown n) within) ∙ ap (λ (l : List Span). get_or l i (shown n)) (sym h) ∙ get_or-map shown ns i n (shown n) lt ∙ ap shown (sym e) in
    record {
      o = get_or os i d;
      is = drop_more os i d within;
      role = ap (λ (s : Span). s.0) same;
      start = start-at os 0 i d (starts-below 0 t) within ∙ omega arith;
      end = ap (λ (s : Span). s.1) same;
    }

pub ends-behind : (ns : List Node) (t : TreeDoc) (i : ℕ) (n : Node) → node_spans ns ≡ spans (preorder_below 0 t) → i < length ns → n ≡ get_or ns i n → i < n.end
ends-behind ns t i n h lt e = let x = here ns t i n h lt e in omega (arith, x.start, x.end)

left-is : (p : Bool) (name : Named) (c : Course) (seen : Names) (t : TreeDoc) (n : Node) (s : Sight) (x : Here n c.at (drop c.at (preorder_below 0 t)) (drop (c.at + 1) (preorder_below 0 t))) → c.at < c.end → s ≡ sight name seen (role_tree n.role.now)
    → left p name c seen t ≡ after s x.o (rest p name c.end x.o.below seen (drop (c.at + 1) (preorder_below 0 t))) (rest p name (end_then p x.o.role.0 (stop x.o) c.end) 0 (add x.o.role.0.name seen) (drop (c.at + 1) (preorder_below 0 t)))
left-is p name c seen t n s x lt e =
    ap (rest p name c.end 0 seen) x.is ∙ rest-on p name c.end seen x.o (drop (c.at + 1) (preorder_below 0 t)) s (omega (arith, x.start, lt)) (ap (sight name seen) x.role ∙ sym e)

-- past the subtree of the node
past-is : (p : Bool) (name : Named) (c : Course) (seen : Names) (t : TreeDoc) (n : Node) (x : Here n c.at (drop c.at (preorder_below 0 t)) (drop (c.at + 1) (preorder_below 0 t)))
    → rest p name c.end x.o.below seen (drop (c.at + 1) (preorder_below 0 t)) ≡ rest p name c.end 0 seen (drop n.end (preorder_below 0 t))
past-is p name c seen t n x =
    let os = preorder_below 0 t in
    let place : c.at + 1 + x.o.below ≡ n.end = omega (arith, x.start, x.end) in
    rest-skip p name c.end x.o.below seen (drop (c.at + 1) os) ∙ ap (rest p name c.end 0 seen) (drop-drop x.o.below (c.at + 1) os ∙ ap (λ (i : ℕ). drop i os) place)

into-is : (p : Bool) (name : Named) (c : Course) (seen new : Names) (t : TreeDoc) (n : Node) (x : Here n c.at (drop c.at (preorder_below 0 t)) (drop (c.at + 1) (preorder_below 0 t))) → new ≡ add (role_tree n.role.now).0.name seen
    → rest p name (end_then p x.o.role.0 (stop x.o) c.end) 0 (add x.o.role.0.name seen) (drop (c.at + 1) (preorder_below 0 t)) ≡ rest p name (end_then p (role_tree n.role.now).0 n.end c.end) 0 new (drop (c.at + 1) (preorder_below 0 t))
into-is p name c seen new t n x e =
    let ys = drop (c.at + 1) (preorder_below 0 t) in
    ap (λ (r : RoleTree). rest p name (end_then p r.0 (stop x.o) c.end) 0 (add r.0.name seen) ys) x.role
    ∙ ap (λ (k : ℕ). rest p name (end_then p (role_tree n.role.now).0 k c.end) 0 (add (role_tree n.role.now).0.name seen) ys) x.end
    ∙ ap (λ (v : Names). rest p name (end_then p (role_tree n.role.now).0 n.end c.end) 0 v ys) (sym e)

end-least : (t : Bool) (end k n : ℕ) → end ≤ n → (if t then min end k else end) ≤ n
end-least true end k n h = omega (arith, h)
end-least false end k n h = h

-- one step on
pub course-on : (p : Bool) (name : Named) (c : Course) (seen new : Names) (t : TreeDoc) (ns : List Node) (n : Node) (s : Sight) → node_spans ns ≡ spans (preorder_below 0 t) → IsCourse p name c seen t (length ns) → c.at < c.end → n ≡ get_or ns c.at n
    → s ≡ sight name seen (role_tree n.role.now) → new ≡ names_then s (role_tree n.role.now) seen → (s ≡ Lists → ⊥) → IsCourse p name (course_then p s (role_tree n.role.now).0 n.end c) new t (length ns)
course-on p name c seen new t ns n Known h x lt e s v not_listed =
    let y = here ns t c.at n h (omega (arith, x.within, lt)) e in
    let same = left-is p name c seen t n Known y lt s ∙ past-is p name c seen t n y ∙ ap (λ (w : Names). rest p name c.end 0 w (drop n.end (preorder_below 0 t))) (sym v) in
    record {
      within = x.within;
      few = omega (arith, x.few, y.start, y.end);
      node = sym (ap (λ (r : Rest). r.node) same) ∙ x.node;
      tests = ap (λ (r : Rest). c.tests + r.tests) (sym same) ∙ x.tests;
    }
course-on p name c seen new t ns n Other h x lt e s v not_listed =
    let y = here ns t c.at n h (omega (arith, x.within, lt)) e in
    let past = rest p name c.end 0 new (drop n.end (preorder_below 0 t)) in
    let same : left p name c seen t ≡ counted past = left-is p name c seen t n Other y lt s ∙ ap counted (past-is p name c seen t n y ∙ ap (λ (w : Names). rest p name c.end 0 w (drop n.end (preorder_below 0 t))) (sym v)) in
    record {
      within = x.within;
      few = omega (arith, x.few, y.start, y.end);
      node = sym (ap (λ (r : Rest). r.node) same) ∙ x.node;
      tests = omega (arith, x.tests, ap (λ (r : Rest). r.tests) same);
    }
course-on p name c seen new t ns n Lists h x lt e s v not_listed = absurd (not_listed refl)
course-on p name c seen new t ns n Open h x lt e s v not_listed =
    let y = here ns t c.at n h (omega (arith, x.within, lt)) e in
    let into = rest p name (end_then p (role_tree n.role.now).0 n.end c.end) 0 new (drop (c.at + 1) (preorder_below 0 t)) in
    let same : left p name c seen t ≡ counted into = left-is p name c seen t n Open y lt s ∙ ap counted (into-is p name c seen new t n y v) in
    record {
      within = end-least (ends p (role_tree n.role.now).0) c.end n.end (length ns) x.within;
      few = omega (arith, x.few);
      node = sym (ap (λ (r : Rest). r.node) same) ∙ x.node;
      tests = omega (arith, x.tests, ap (λ (r : Rest). r.tests) same);
    }

-- the search comes further
pub course-further : (p : Bool) (s : Sight) (e : Entry) (k : ℕ) (c : Course) → c.at < k → c.at < (course_then p s e k c).at
course-further p Known e k c h = h
course-further p Other e k c h = h
course-further p Lists e k c h = omega arith
course-further p Open e k c h = omega arith

-- the node's document lists the name
pub course-found : (p : Bool) (name : Named) (c : Course) (seen : Names) (t : TreeDoc) (ns : List Node) (n : Node) (s : Sight) → node_spans ns ≡ spans (preorder_below 0 t) → IsCourse p name c seen t (length ns) → c.at < c.end → n ≡ get_or ns c.at n
    → s ≡ sight name seen (role_tree n.role.now) → s ≡ Lists → (Some (c.at + 1) ≡ (whole p name t).node) × (c.tests + 1 ≡ (whole p name t).tests)
course-found p name c seen t ns n s h x lt e v is =
    let y = here ns t c.at n h (omega (arith, x.within, lt)) e in
    let same = left-is p name c seen t n Lists y lt (sym is ∙ v) in
    (ap (λ (k : ℕ). Some (k + 1)) (sym y.start) ∙ sym (ap (λ (r : Rest). r.node) same) ∙ x.node, omega (arith, x.tests, ap (λ (r : Rest). r.tests) same))

rest-ended : (p : Bool) (name : Named) (end : ℕ) (seen : Names) (k : ℕ) (os : List Occurrence) → Starts k os → end ≤ k → rest p name end 0 seen os ≡ nothing
rest-ended p name end seen k [] st h = refl
rest-ended p name end seen k (o ∷ os) st h = rest-past p name end seen o os (omega (arith, st.0, h))

starts-drop : (k i : ℕ) (os : List Occurrence) → Starts k os → Starts (k + i) (drop i os)
starts-drop k zero [] st = tt
starts-drop k zero (o ∷ os) st = let same : k ≡ k + 0 = omega arith in subst (λ (n : ℕ). Starts n (o ∷ os)) same st
starts-drop k (suc i) [] st = tt
starts-drop k (suc i) (o ∷ os) st = let same : k + 1 + i ≡ k + suc i = omega arith in subst (λ (n : ℕ). Starts n (drop i os)) same (starts-drop (k + 1) i os st.1)

-- the search ends here
pub course-ended : (p : Bool) (name : Named) (c : Course) (seen : Names) (t : TreeDoc) (n : ℕ) → IsCourse p name c seen t n → c.end ≤ c.at → (None ≡ (whole p name t).node) × (c.tests ≡ (whole p name t).tests)
course-ended p name c seen t n x h =
    let os = preorder_below 0 t in
    let same = rest-ended p name c.end seen (0 + c.at) (drop c.at os) (starts-drop 0 c.at os (starts-below 0 t)) (omega (arith, h)) in
    (sym (ap (λ (r : Rest). r.node) same) ∙ x.node, omega (arith, x.tests, ap (λ (r : Rest). r.tests) same))

drop-none : (os : List Occurrence) → drop 0 os ≡ os
drop-none [] = refl
drop-none (o ∷ os) = refl

-- nothing is reached yet
pub course-start : (p : Bool) (name : Named) (c : Course) (set : BTreeSet (String Global)) (t : TreeDoc) (ns : List Node) → node_spans ns ≡ spans (preorder_below 0 t) → IsEmpty set → c ≡ record { at = 0; end = length ns; tests = 0 }
    → IsCourse p name c (names_in set) t (length ns)
course-start p name c set t ns h empty e =
    let os = preorder_below 0 t in
    let none : names_in set ≡ no_names = λ i q. list_any (is_at (λ k. slice_cmp nat_cmp q (string_bytes k))) (empty i) in
    let at : c.at ≡ 0 = ap (λ (x : Course). x.at) e in
    let end : c.end ≡ length os = ap (λ (x : Course). x.end) e ∙ same-length ns os h in
    let tests : c.tests ≡ 0 = ap (λ (x : Course). x.tests) e in
    let same : left p name c (names_in set) t ≡ whole p name t =
    ap (λ (k : ℕ). rest p name k 0 (names_in set) (drop c.at os)) end ∙ ap (λ (v : Names). rest p name (length os) 0 v (drop c.at os)) none
    ∙ ap (λ (k : ℕ). rest p name (length os) 0 no_names (drop k os)) at ∙ ap (rest p name (length os) 0 no_names) (drop-none os) in
    record {
      within = omega (arith, end, same-length ns os h);
      few = omega (arith, tests);
      node = ap (λ (r : Rest). r.node) same;
      tests = omega (arith, tests, ap (λ (r : Rest). r.tests) same);
    }
