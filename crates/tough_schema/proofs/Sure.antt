-- A listed name that is no stray is found.
use Rattle.std.proofs.Common.{◌≡◌, ℕ, ◌+◌, ◌<◌, List, [], ◌∷◌, ◌++◌, length, drop, get_or, map, filter, Bor, Bool, true, false, ◌||◌, ◌&&◌, not, cond, Option, Some, None, is_some, refl, sym, ap, subst, ◌∙◌}
use Rattle.std.proofs.lemmas.List.{map-append, drop_more}
use Rattle.std.proofs.lemmas.List.Elements.{filter_map-append}
use Rattle.std.proofs.lemmas.List.Folds.{find-append}
use Rattle.std.specs.Option.{option_or}
use Rattle.std.specs.List.{find, AllByRecursion, cons_option}
use Rattle.std.specs.Str.{bytes_eq}
use Rattle.tough_names.specs.Named.{Named, by_raw_then_resolved}
use Rattle.std.specs.BTreeMap.{is_at}
use Rattle.std.specs.Ordering.{is_eq, ordering_reverse}
use Rattle.std.proofs.lemmas.Cmp.{then_total, on_total, nat_list_cmp_total}
use Rattle.std.specs.declared.cmp.Ordering.{Ordering}
use Rattle.std.specs.declared.cmp.Ordering.TheVariants.{Less, Equal, Greater}
use Rattle.tough_roles.specs.Signature.{SignatureDoc}
use Rattle.tough_schema.specs.Target.{TargetDoc}
use Rattle.tough_schema.specs.Tree.{Listing, Entry}
use Rattle.tough_schema.specs.Whole.{TreeDoc, tree, Branches, no_branches, unloaded, loaded, listing_of, OwnDoc, HeldDoc}
use Rattle.tough_schema.specs.Preorder.{Occurrence, preorder, preorder_below}
use Rattle.tough_schema.specs.Search.{Names, no_names, add, is_new, matches, reached_from, listed, first_listed, listings, listing_at, search}
use Rattle.tough_schema.specs.Entries.{entries, listed_in, listed_names, is_found, first_missing}
use Rattle.tough_schema.specs.Gather.{roles_in, gathered}
use Rattle.tough_schema.specs.Strays.{Test, any_name, narrowed, strays_of, names_past, names_below, strays, strays_below, names_of}
use Rattle.tough_schema.proofs.Reached.{names_after, names_after-append, splits_below, Splits, step-new, step-old, skip_all}
use Rattle.tough_schema.proofs.Gathers.{roles-put}
use Rattle.tough_schema.proofs.Listings.{listed_in-append}

-- ---- sets of names

pub record Sub (v s : Names) : Type 0 where
  pub at : (q : List ℕ) → v q ≡ true → s q ≡ true

sub-self : (s : Names) → Sub s s
sub-self s = record { at = λ q h. h }

or-right : (a b c : Bool) → (b ≡ true → c ≡ true) → (a || b) ≡ true → (a || c) ≡ true
or-right true b c h e = refl
or-right false b c h e = h e

or-left : (a b : Bool) → b ≡ true → (a || b) ≡ true
or-left true b h = refl
or-left false b h = h

or-either : (a b c : Bool) → (a ≡ true → c ≡ true) → (b ≡ true → c ≡ true) → (a || b) ≡ true → c ≡ true
or-either true b c h k e = h refl
or-either false b c h k e = k e

or-first : (a b : Bool) → a ≡ true → (a || b) ≡ true
or-first true b h = refl
or-first false b h = cc

sub-add : (n : List ℕ) (v s : Names) → Sub v s → Sub (add n v) (add n s)
sub-add n v s h = record { at = λ q e. or-right (bytes_eq n q) (v q) (s q) (h.at q) e }

sub-more : (n : List ℕ) (v s : Names) → Sub v s → Sub v (add n s)
sub-more n v s h = record { at = λ q e. or-left (bytes_eq n q) (s q) (h.at q e) }

sub-then : (a b c : Names) → Sub a b → Sub b c → Sub a c
sub-then a b c h k = record { at = λ q e. k.at q (h.at q e) }

mutual
  past-more : (v s : Names) (bs : Branches) → Sub v s → Sub v (names_past s bs)
  past-more v s no_branches h = h
  past-more v s (unloaded e bs) h = past-more v (add e.name s) bs (sub-more e.name v s h)
  past-more v s (loaded e n signatures t bs) h = past-more v (names_below (add e.name s) t) bs (below-more v (add e.name s) t (sub-more e.name v s h))

  below-more : (v s : Names) (t : TreeDoc) → Sub v s → Sub v (names_below s t)
  below-more v s (tree o bs) h = past-more v s bs h

-- ---- the names that the way to a document tells

-- listed where the way passes it
abbrev mutual
  pub sure : Named → Names → Bool → Branches → Bool
  sure name seen b no_branches = false
  sure name seen b (unloaded e bs) = sure name (add e.name seen) b bs
  sure name seen b (loaded e n signatures t bs) = sure_below name (add e.name seen) (not (seen e.name) && (matches name e && b)) t || sure name (names_below (add e.name seen) t) b bs

  pub sure_below : Named → Names → Bool → TreeDoc → Bool
  sure_below name seen b (tree o bs) = (b && is_some (listed name o.targets)) || sure name seen b bs

shut : (a m : Bool) → (not a && (m && false)) ≡ false
shut true m = refl
shut false true = refl
shut false false = refl

neither : (a b : Bool) → a ≡ false → b ≡ false → (a || b) ≡ false
neither true b h k = cc
neither false b h k = k

mutual
  none-sure : (name : Named) (seen : Names) (bs : Branches) → sure name seen false bs ≡ false
  none-sure name seen no_branches = refl
  none-sure name seen (unloaded e bs) = none-sure name (add e.name seen) bs
  none-sure name seen (loaded e n signatures t bs) =
      neither (sure_below name (add e.name seen) (not (seen e.name) && (matches name e && false)) t) (sure name (names_below (add e.name seen) t) false bs)
      (ap (λ (b : Bool). sure_below name (add e.name seen) b t) (shut (seen e.name) (matches name e)) ∙ none-sure_below name (add e.name seen) t) (none-sure name (names_below (add e.name seen) t) bs)

  none-sure_below : (name : Named) (seen : Names) (t : TreeDoc) → sure_below name seen false t ≡ false
  none-sure_below name seen (tree o bs) = none-sure name seen bs

-- where the way to a document passes the name, its role is new to the search; where it is open or not
open-at : (b : Bool) (name : Named) (seen : Names) (t : TreeDoc) → sure_below name seen b t ≡ true → b ≡ true
open-at true name seen t h = refl
open-at false name seen t h = sym (none-sure_below name seen t) ∙ h

sure-open : (b : Bool) (name : Named) (seen : Names) (t : TreeDoc) → sure_below name seen b t ≡ true → sure_below name seen true t ≡ true
sure-open true name seen t h = h
sure-open false name seen t h = cc (none-sure_below name seen t)

not-open : (v s m : Bool) → (v ≡ true → s ≡ true) → (m && not v) ≡ false → (not s && (m && true)) ≡ false
not-open v true m h e = refl
not-open true false m h e = cc (h refl)
not-open false false true h e = e
not-open false false false h e = refl

-- ---- what is reached lists them

abbrev pub lists : Named → List Occurrence → Bool
lists name os = is_some (first_listed name (listings os))

or-some : {A : Type 0} (a b : Option A) → is_some (option_or a b) ≡ (is_some a || is_some b)
or-some None b = refl
or-some (Some x) b = refl

or-or : (a b c : Bool) → (a || (b || c)) ≡ ((a || b) || c)
or-or true b c = refl
or-or false b c = refl

first-append : (name : Named) (xs ys : List Listing) → is_some (first_listed name (xs ++ ys)) ≡ (is_some (first_listed name xs) || is_some (first_listed name ys))
first-append name [] ys = refl
first-append name (x ∷ xs) ys = or-some (listed name x) (first_listed name (xs ++ ys)) ∙ ap (λ (b : Bool). is_some (listed name x) || b) (first-append name xs ys) ∙ or-or (is_some (listed name x)) (is_some (first_listed name xs)) (is_some (first_listed name ys)) ∙ ap (λ (b : Bool). b || is_some (first_listed name ys)) (sym (or-some (listed name x) (first_listed name xs)))

lists-append : (name : Named) (xs ys : List Occurrence) → lists name (xs ++ ys) ≡ (lists name xs || lists name ys)
lists-append name xs ys = ap (λ (ls : List Listing). is_some (first_listed name ls)) (filter_map-append listing_at xs ys) ∙ first-append name (listings xs) (listings ys)

-- what is reached of these entries, and the names that are visited then
record Covers (name : Named) (b : Bool) (v past : Names) (os : List Occurrence) : Type 0 where
  lists : b ≡ true → lists name os ≡ true
  visited : Sub (names_after v os) past

abbrev roles_of : TreeDoc → Branches
roles_of (tree o bs) = bs

lists-first : (name : Named) (o : Occurrence) (l : Listing) (os : List Occurrence) → listing_at o ≡ Some l → lists name (o ∷ os) ≡ (is_some (listed name l) || lists name os)
lists-first name o l os h = ap (λ (m : Option Listing). is_some (first_listed name (cons_option m (listings os)))) h ∙ or-some (listed name l) (first_listed name (listings os))

three : (a b c p q : Bool) → (p ≡ true → (a || b) ≡ true) → (q ≡ true → c ≡ true) → (p || q) ≡ true → (a || (b || c)) ≡ true
three a b c true q h k e = or-or a b c ∙ or-first (a || b) c (h refl)
three a b c false q h k e = or-or a b c ∙ or-left (a || b) c (k e)

own-or : (name : Named) (seen : Names) (t : TreeDoc) (b : Bool) → (sure name seen true (roles_of t) ≡ true → b ≡ true) → sure_below name seen true t ≡ true → (is_some (listed name (listing_of t)) || b) ≡ true
own-or name seen (tree o bs) b h e = or-right (is_some (listed name o.targets)) (sure name seen true bs) b h e

absurd-bool : {c : Bool} → true ≡ false → c ≡ true
absurd-bool h = cc

covers-at : (name : Named) (v seen : Names) (o : Occurrence) (t : TreeDoc) (inside rest : List Occurrence) (bs : Branches) (b : Bool)
    → is_new name v o.role.0 ≡ b → listing_at o ≡ Some (listing_of t) → o.below ≡ length inside → Splits name inside → Sub v seen
    → ((w : Names) → Sub w (add o.role.0.name seen) → Covers name (sure name (add o.role.0.name seen) true (roles_of t)) w (names_below (add o.role.0.name seen) t) (reached_from name 0 w inside))
    → ((w : Names) → Sub w (names_below (add o.role.0.name seen) t) → Covers name (sure name (names_below (add o.role.0.name seen) t) true bs) w (names_past (names_below (add o.role.0.name seen) t) bs) (reached_from name 0 w rest))
    → Covers name (sure_below name (add o.role.0.name seen) (not (seen o.role.0.name) && (matches name o.role.0 && true)) t || sure name (names_below (add o.role.0.name seen) t) true bs) v (names_past (names_below (add o.role.0.name seen) t) bs) (reached_from name 0 v (o ∷ (inside ++ rest)))
covers-at name v seen o t inside rest bs true new lists_t size splits sub below later =
    let n = o.role.0.name in
    let now = add n v in
    let first = reached_from name 0 now inside in
    let x = below now (sub-add n v seen sub) in
    let y = later (names_after now first) x.visited in
    let second = reached_from name 0 (names_after now first) rest in
    let path : reached_from name 0 v (o ∷ (inside ++ rest)) ≡ o ∷ (first ++ second) = step-new name v o (inside ++ rest) new ∙ ap (λ (l : List Occurrence). o ∷ l) (splits.always now rest) in
    let after : names_after v (o ∷ (first ++ second)) ≡ names_after (names_after now first) second = names_after-append now first second in
    let all : lists name (o ∷ (first ++ second)) ≡ (is_some (listed name (listing_of t)) || (lists name first || lists name second)) = lists-first name o (listing_of t) (first ++ second) lists_t ∙ ap (λ (b : Bool). is_some (listed name (listing_of t)) || b) (lists-append name first second) in
    record {
      lists = λ h. ap (lists name) path ∙ all ∙ three (is_some (listed name (listing_of t))) (lists name first) (lists name second) _ _ (λ e. own-or name (add n seen) t (lists name first) x.lists (sure-open _ name (add n seen) t e)) y.lists h;
      visited = subst (λ (os : List Occurrence). Sub (names_after v os) (names_past (names_below (add n seen) t) bs)) (sym path) (subst (λ (w : Names). Sub w (names_past (names_below (add n seen) t) bs)) (sym after) y.visited);
    }
covers-at name v seen o t inside rest bs false old lists_t size splits sub below later =
    let n = o.role.0.name in
    let y = later v (below-more v (add n seen) t (sub-more n v seen sub)) in
    let path : reached_from name 0 v (o ∷ (inside ++ rest)) ≡ reached_from name 0 v rest = step-old name v o (inside ++ rest) old ∙ ap (λ (k : ℕ). reached_from name k v (inside ++ rest)) size ∙ skip_all name v inside rest in
    let not_open : (not (seen n) && (matches name o.role.0 && true)) ≡ false = not-open (v n) (seen n) (matches name o.role.0) (sub.at n) old in
    record {
      lists = λ h. ap (lists name) path ∙ or-either _ _ _ (λ e. absurd-bool (sym (open-at _ name (add n seen) t e) ∙ not_open)) y.lists h;
      visited = subst (λ (os : List Occurrence). Sub (names_after v os) (names_past (names_below (add n seen) t) bs)) (sym path) y.visited;
    }

covers-leaf : (name : Named) (v seen : Names) (o : Occurrence) (rest : List Occurrence) (bs : Branches) (b : Bool)
    → is_new name v o.role.0 ≡ b → listing_at o ≡ None → o.below ≡ 0 → Sub v seen
    → ((w : Names) → Sub w (add o.role.0.name seen) → Covers name (sure name (add o.role.0.name seen) true bs) w (names_past (add o.role.0.name seen) bs) (reached_from name 0 w rest))
    → Covers name (sure name (add o.role.0.name seen) true bs) v (names_past (add o.role.0.name seen) bs) (reached_from name 0 v (o ∷ rest))
covers-leaf name v seen o rest bs true new none size sub later =
    let n = o.role.0.name in
    let y = later (add n v) (sub-add n v seen sub) in
    let second = reached_from name 0 (add n v) rest in
    let path : reached_from name 0 v (o ∷ rest) ≡ o ∷ second = step-new name v o rest new in
    let all : lists name (o ∷ second) ≡ lists name second = ap (λ (m : Option Listing). is_some (first_listed name (cons_option m (listings second)))) none in
    record {
      lists = λ h. ap (lists name) path ∙ all ∙ y.lists h;
      visited = subst (λ (os : List Occurrence). Sub (names_after v os) (names_past (add n seen) bs)) (sym path) y.visited;
    }
covers-leaf name v seen o rest bs false old none size sub later =
    let n = o.role.0.name in
    let y = later v (sub-more n v seen sub) in
    let path : reached_from name 0 v (o ∷ rest) ≡ reached_from name 0 v rest = step-old name v o rest old ∙ ap (λ (k : ℕ). reached_from name k v rest) size in
    record {
      lists = λ h. ap (lists name) path ∙ y.lists h;
      visited = subst (λ (os : List Occurrence). Sub (names_after v os) (names_past (add n seen) bs)) (sym path) y.visited;
    }

mutual
  covers : (name : Named) (v seen : Names) (k : ℕ) (bs : Branches) → Sub v seen → Covers name (sure name seen true bs) v (names_past seen bs) (reached_from name 0 v (preorder k bs))
  covers name v seen k no_branches h = record { lists = λ e. cc; visited = h }
  covers name v seen k (unloaded e bs) h = covers-leaf name v seen (record { role = (e, None); start = k; below = 0 }) (preorder (k + 1) bs) bs (is_new name v e) refl refl refl h (λ w x. covers name w (add e.name seen) (k + 1) bs x)
  covers name v seen k (loaded e n signatures t bs) h =
      let inside = preorder_below (k + 1) t in
      let o : Occurrence = record { role = (e, Some (record { name = n; signatures = signatures; below = t })); start = k; below = length inside } in
      covers-at name v seen o t inside (preorder (k + 1 + length inside) bs) bs (is_new name v e) refl refl refl (splits_below name (k + 1) t) h
      (λ w x. covers_below name w (add e.name seen) (k + 1) t x) (λ w x. covers name w (names_below (add e.name seen) t) (k + 1 + length inside) bs x)

  covers_below : (name : Named) (v seen : Names) (k : ℕ) (t : TreeDoc) → Sub v seen → Covers name (sure name seen true (roles_of t)) v (names_below seen t) (reached_from name 0 v (preorder_below k t))
  covers_below name v seen k (tree o bs) h = covers name v seen k bs h

-- a name that is sure is found
sure-found : (name : Named) (t : TreeDoc) → sure_below name no_names true t ≡ true → is_found t name ≡ true
sure-found name t h =
    let os = reached_from name 0 no_names (preorder_below 0 t) in
    let x = covers_below name no_names no_names 0 t (sub-self no_names) in
    or-some (listed name (listing_of t)) (first_listed name (listings os)) ∙ own-or name no_names t (lists name os) x.lists h

-- ---- the first name that is missing

abbrev names_in_listing : Listing → List Named
names_in_listing l = map (λ e. e.0) l

-- each name of a listing is listed
abbrev Listed : Listing → List Named → Type 0
Listed l ns = AllByRecursion (λ n. is_some (listed n l) ≡ true) ns

cond-some : {A : Type 0} (b : Bool) (x : A) (o : Option A) → is_some o ≡ true → is_some (cond b (Some x) o) ≡ true
cond-some true x o h = refl
cond-some false x o h = h

self-equal : (o : Ordering) → o ≡ ordering_reverse o → o ≡ Equal
self-equal Less h = cc
self-equal Equal h = refl
self-equal Greater h = cc

same-name : (n : Named) → by_raw_then_resolved n n ≡ Equal
same-name n = self-equal (by_raw_then_resolved n n) ((then_total (on_total (λ (m : Named). m.raw) nat_list_cmp_total) (on_total (λ (m : Named). m.resolved) nat_list_cmp_total)).antisymm n n)

listed-first : (e : Named × TargetDoc) (l : Listing) → is_some (listed e.0 (e ∷ l)) ≡ true
listed-first e l = ap (λ (o : Ordering). is_some (cond (is_eq o) (Some e.1) (listed e.0 l))) (same-name e.0)

listed-more : (n : Named) (e : Named × TargetDoc) (l : Listing) → is_some (listed n l) ≡ true → is_some (listed n (e ∷ l)) ≡ true
listed-more n e l h = cond-some (is_at (by_raw_then_resolved n) e.0) e.1 (listed n l) h

listed-each : (e : Named × TargetDoc) (l : Listing) (ns : List Named) → Listed l ns → Listed (e ∷ l) ns
listed-each e l [] h = tt
listed-each e l (n ∷ ns) h = (listed-more n e l h.0, listed-each e l ns h.1)

all-listed : (l : Listing) → Listed l (names_in_listing l)
all-listed [] = tt
all-listed (e ∷ l) = (listed-first e l, listed-each e l (names_in_listing l) (all-listed l))

-- the strays of a listing have the first that is missing
own-step : (missing keeps : Named → Bool) (n : Named) (ns : List Named) (b : Bool) → not b ≡ keeps n → (b ≡ true → missing n ≡ false) → find missing (filter keeps ns) ≡ find missing ns
    → find missing (filter keeps (n ∷ ns)) ≡ find missing (n ∷ ns)
own-step missing keeps n ns true h k rest = rw (← h, k refl) rest
own-step missing keeps n ns false h k rest = rw (← h) (ap (λ (o : Option Named). cond (missing n) (Some n) o) rest)

own-missing : (missing : Named → Bool) (test : Test) (l : Listing) (ns : List Named) → Listed l ns → ((n : Named) → test n ≡ true → is_some (listed n l) ≡ true → missing n ≡ false)
    → find missing (filter (λ n. not (test n)) ns) ≡ find missing ns
own-missing missing test l [] h k = refl
own-missing missing test l (n ∷ ns) h k = own-step missing (λ m. not (test m)) n ns (test n) refl (λ e. k n e h.0) (own-missing missing test l ns h.1 k)

-- the listed names of the documents of roles
abbrev below_names : Branches → List Named
below_names bs = map (λ e. e.0) (listed_in (roles_in bs))

names-loaded : (e : Entry) (n : List ℕ) (signatures : List SignatureDoc) (t : TreeDoc) (bs : Branches) → below_names (loaded e n signatures t bs) ≡ listed_names t ++ below_names bs
names-loaded e n signatures t bs =
    let h : HeldDoc = record { name = n; signatures = signatures; below = t } in
    let name : Named × TargetDoc → Named = λ x. x.0 in
    ap (λ rs. map name (listed_in rs)) (roles-put (e, Some h) bs)
    ∙ ap (map name) (listed_in-append (gathered (e, Some h)) (roles_in bs))
    ∙ map-append name (listing_of t ++ listed_in (entries t)) (listed_in (roles_in bs))

names-unloaded : (e : Entry) (bs : Branches) → below_names (unloaded e bs) ≡ below_names bs
names-unloaded e bs = ap (λ rs. map (λ (x : Named × TargetDoc). x.0) (listed_in rs)) (roles-put (e, None) bs)

names-tree : (o : OwnDoc) (bs : Branches) → listed_names (tree o bs) ≡ names_in_listing o.targets ++ below_names bs
names-tree o bs = map-append (λ (x : Named × TargetDoc). x.0) o.targets (listed_in (roles_in bs))

both : (a b : Bool) → a ≡ true → b ≡ true → (a && b) ≡ true
both true b h k = k
both false b h k = cc

mutual
  first-strays : (missing : Named → Bool) (seen : Names) (test : Test) (bs : Branches) → ((n : Named) → sure n seen (test n) bs ≡ true → missing n ≡ false) → find missing (strays seen test bs) ≡ find missing (below_names bs)
  first-strays missing seen test no_branches k = refl
  first-strays missing seen test (unloaded e bs) k = first-strays missing (add e.name seen) test bs k ∙ sym (ap (find missing) (names-unloaded e bs))
  first-strays missing seen test (loaded e m signatures t bs) k =
      let now = add e.name seen in
      let inner = narrowed seen e test in
      let later = names_below now t in
      find-append missing (strays_below now inner t) (strays later test bs)
      ∙ ap (λ (o : Option Named). option_or o (find missing (strays later test bs))) (first-strays_below missing now inner t (λ n h. k n (or-first (sure_below n now (inner n) t) (sure n later (test n) bs) h)))
      ∙ ap (λ (o : Option Named). option_or (find missing (listed_names t)) o) (first-strays missing later test bs (λ n h. k n (or-left (sure_below n now (inner n) t) (sure n later (test n) bs) h)))
      ∙ sym (ap (find missing) (names-loaded e m signatures t bs) ∙ find-append missing (listed_names t) (below_names bs))

  first-strays_below : (missing : Named → Bool) (seen : Names) (test : Test) (t : TreeDoc) → ((n : Named) → sure_below n seen (test n) t ≡ true → missing n ≡ false) → find missing (strays_below seen test t) ≡ find missing (listed_names t)
  first-strays_below missing seen test (tree o bs) k =
      find-append missing (strays_of test o.targets) (strays seen test bs)
      ∙ ap (λ (x : Option Named). option_or x (find missing (strays seen test bs))) (own-missing missing test o.targets (names_in_listing o.targets) (all-listed o.targets) (λ n e f. k n (or-first (test n && is_some (listed n o.targets)) (sure n seen (test n) bs) (both (test n) (is_some (listed n o.targets)) e f))))
      ∙ ap (λ (x : Option Named). option_or (find missing (names_in_listing o.targets)) x) (first-strays missing seen test bs (λ n h. k n (or-left (test n && is_some (listed n o.targets)) (sure n seen (test n) bs) h)))
      ∙ sym (ap (find missing) (names-tree o bs) ∙ find-append missing (names_in_listing o.targets) (below_names bs))

-- the first stray that isn't found is the first listed name that isn't
pub first-stray : (t : TreeDoc) → find (λ name. not (is_found t name)) (strays_below no_names any_name t) ≡ first_missing t
first-stray t = first-strays_below (λ name. not (is_found t name)) no_names any_name t (λ n h. ap not (sure-found n t h))

names-more : (ns : List (Bor Named)) (i : ℕ) (n : Bor Named) → i < length ns → n ≡ get_or ns i n → names_of (drop i ns) ≡ n.now ∷ names_of (drop (i + 1) ns)
names-more ns i n h is = ap names_of (drop_more ns i n h ∙ ap (λ y. y ∷ drop (i + 1) ns) (sym is))

-- the stray at i is found
pub stray-later : (t : TreeDoc) (ns : List (Bor Named)) (i : ℕ) (n : Bor Named) → i < length ns → n ≡ get_or ns i n → is_found t n.now ≡ true
    → find (λ name. not (is_found t name)) (names_of (drop i ns)) ≡ find (λ name. not (is_found t name)) (names_of (drop (i + 1) ns))
stray-later t ns i n h is found = rw (names-more ns i n h is, found) refl

-- it isn't
pub stray-here : (t : TreeDoc) (ns : List (Bor Named)) (i : ℕ) (n : Bor Named) → i < length ns → n ≡ get_or ns i n → search true n.now t ≡ None
    → find (λ name. not (is_found t name)) (names_of (drop i ns)) ≡ Some n.now
stray-here t ns i n h is missing = rw (names-more ns i n h is, missing) refl
