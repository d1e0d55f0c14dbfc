-- Where a search needs no document, it finds what the standard's search finds.
use Rattle.std.proofs.Common.{◌≡◌, ℕ, suc, ◌+◌, ◌<◌, ◌≤◌, List, [], ◌∷◌, ◌++◌, length, filter, min, Bool, true, false, ◌&&◌, cond, Option, Some, None, refl, sym, ap, subst, ◌∙◌, arith}
use Rattle.std.proofs.lemmas.Bool.{lt-ltb}
use Rattle.std.specs.List.{cons_option}
use Rattle.std.specs.Option.{option_or}
use Rattle.tough_names.specs.Named.{Named}
use Rattle.tough_schema.specs.Delegations.{DelegationsDoc}
use Rattle.tough_schema.specs.Preorder.{Occurrence, stop, preorder}
use Rattle.tough_schema.specs.Putting.{wide}
use Rattle.tough_schema.specs.Search.{Names, no_names, add, is_new, reached_from, earlier, is_before, listed, first_listed, listing_at, listings, search}
use Rattle.tough_schema.specs.Target.{TargetDoc}
use Rattle.tough_schema.specs.Tree.{Listing}
use Rattle.tough_schema.specs.Visited.{ends}
use Rattle.tough_schema.specs.Whole.{TreeDoc, tree, Branches, no_branches, unloaded, loaded, top_doc}
use Rattle.tough_schema.proofs.Ends.{Within, within-weaker, within-reached, within-preorder, end_of, IsEndWithin, end-within, filter-keeps, filter-drops, filter-all, before_end, before_end-searched}
use Rattle.tough_schema.proofs.Reached.{names_after, step-new, step-old, skip_all, Splits, splits_below}
use Rattle.tough_lazy.specs.Course.{Need, Course, found, needs, ended, past, onward, or_below, course, Sought, listed_so, needed, unlisted, sought, sought_by}

-- ---- what the first document lists

abbrev listed_by : Named → Option Listing → Option TargetDoc
listed_by name None = None
listed_by name (Some l) = listed name l

first_cons : (name : Named) (l : Option Listing) (ls : List Listing) → first_listed name (cons_option l ls) ≡ option_or (listed_by name l) (first_listed name ls)
first_cons name None ls = refl
first_cons name (Some l) ls = refl

-- what the first of these roles' documents lists
abbrev first_in : Named → List Occurrence → Option TargetDoc
first_in name os = first_listed name (listings os)

first_next : (name : Named) (o : Occurrence) (os : List Occurrence) → first_in name (o ∷ os) ≡ option_or (listed_by name (listing_at o)) (first_in name os)
first_next name o os = first_cons name (listing_at o) (listings os)

or_assoc : (a b c : Option TargetDoc) → option_or a (option_or b c) ≡ option_or (option_or a b) c
or_assoc None b c = refl
or_assoc (Some x) b c = refl

first_append : (name : Named) (xs ys : List Occurrence) → first_in name (xs ++ ys) ≡ option_or (first_in name xs) (first_in name ys)
first_append name [] ys = refl
first_append name (o ∷ xs) ys =
    first_next name o (xs ++ ys) ∙ ap (option_or (listed_by name (listing_at o))) (first_append name xs ys) ∙ or_assoc (listed_by name (listing_at o)) (first_in name xs) (first_in name ys)
    ∙ ap (λ (x : Option TargetDoc). option_or x (first_in name ys)) (sym (first_next name o xs))

-- ---- where a search ends

abbrev end_in : List Occurrence → Option ℕ
end_in xs = end_of false xs

abbrev kept : List Occurrence → List Occurrence
kept xs = before_end false xs

earlier_none : (k : ℕ) (x : Option ℕ) → earlier k x ≡ None → ⊥
earlier_none k None h = cc
earlier_none k (Some m) h = cc

end_choice : (b : Bool) (k : ℕ) (x : Option ℕ) → cond b (earlier k x) x ≡ None → (b ≡ false) × (x ≡ None)
end_choice true k x h = absurd (earlier_none k x h)
end_choice false k x h = (refl, h)

-- no end among the first ones
end_after : (xs ys : List Occurrence) → end_in xs ≡ None → end_in (xs ++ ys) ≡ end_in ys
end_after [] ys h = refl
end_after (o ∷ xs) ys h =
    let e = end_choice (ends false o.role.0) (stop o) (end_in xs) h in
    ap (λ (b : Bool). cond b (earlier (stop o) (end_in (xs ++ ys))) (end_in (xs ++ ys))) e.0 ∙ end_after xs ys e.1

-- an end among the first ones is the first
ends_first : (b c : ℕ) (m : ℕ) (y : Option ℕ) → m ≤ b → IsEndWithin b c y → earlier m y ≡ Some m
ends_first b c m None h w = refl
ends_first b c m (Some k) h w = ap Some (omega (arith, h, w.0))

end_before_at : (t : Bool) (b c k : ℕ) (x y z : Option ℕ) → k ≤ b → IsEndWithin b c y → (x ≡ None → z ≡ y) → ((m : ℕ) → x ≡ Some m → z ≡ Some m) → (m : ℕ) → cond t (earlier k x) x ≡ Some m → cond t (earlier k z) z ≡ Some m
end_before_at true b c k None y z h w none some m is = ap (earlier k) (none refl) ∙ ends_first b c k y h w ∙ is
end_before_at true b c k (Some n) y z h w none some m is = ap (earlier k) (some n refl) ∙ is
end_before_at false b c k x y z h w none some m is = some m is

end_before : (a b c : ℕ) (xs ys : List Occurrence) → Within a b xs → Within b c ys → (m : ℕ) → end_in xs ≡ Some m → end_in (xs ++ ys) ≡ Some m
end_before a b c [] ys x y m is = cc
end_before a b c (o ∷ xs) ys x y m is =
    end_before_at (ends false o.role.0) b c (stop o) (end_in xs) (end_in ys) (end_in (xs ++ ys)) x.1 (end-within false b c ys y) (end_after xs ys) (end_before a b c xs ys x.2 y) m is

-- ---- what is before the end

kept_cond : (f : Occurrence → Bool) (b : Bool) (o : Occurrence) (xs ys : List Occurrence) → filter f (xs ++ ys) ≡ filter f xs ++ filter f ys → cond b (o ∷ filter f (xs ++ ys)) (filter f (xs ++ ys)) ≡ cond b (o ∷ filter f xs) (filter f xs) ++ filter f ys
kept_cond f true o xs ys h = ap (λ (l : List Occurrence). o ∷ l) h
kept_cond f false o xs ys h = h

filter_append : (f : Occurrence → Bool) (xs ys : List Occurrence) → filter f (xs ++ ys) ≡ filter f xs ++ filter f ys
filter_append f [] ys = refl
filter_append f (o ∷ xs) ys = kept_cond f (f o) o xs ys (filter_append f xs ys)

append_nil : (xs : List Occurrence) → xs ++ [] ≡ xs
append_nil [] = refl
append_nil (o ∷ xs) = ap (λ (l : List Occurrence). o ∷ l) (append_nil xs)

kept_all : (xs : List Occurrence) → end_in xs ≡ None → kept xs ≡ xs
kept_all xs h = ap (λ (e : Option ℕ). filter (is_before e) xs) h ∙ filter-all xs

keeps_first : (a b c : ℕ) (xs : List Occurrence) (y : Option ℕ) → Within a b xs → IsEndWithin b c y → filter (is_before y) xs ≡ xs
keeps_first a b c xs None x w = filter-all xs
keeps_first a b c xs (Some m) x w = filter-keeps a b m xs x (omega (arith, w.0))

kept_after : (a b c : ℕ) (xs ys : List Occurrence) → Within a b xs → Within b c ys → end_in xs ≡ None → kept (xs ++ ys) ≡ xs ++ kept ys
kept_after a b c xs ys x y h =
    ap (λ (e : Option ℕ). filter (is_before e) (xs ++ ys)) (end_after xs ys h) ∙ filter_append (is_before (end_in ys)) xs ys
    ∙ ap (λ (l : List Occurrence). l ++ kept ys) (keeps_first a b c xs (end_in ys) x (end-within false b c ys y))

kept_before : (a b c : ℕ) (xs ys : List Occurrence) → Within a b xs → Within b c ys → (m : ℕ) → end_in xs ≡ Some m → kept (xs ++ ys) ≡ kept xs
kept_before a b c xs ys x y m h =
    let least : m ≤ b = (subst (IsEndWithin a b) h (end-within false a b xs x)).1 in
    ap (λ (e : Option ℕ). filter (is_before e) (xs ++ ys)) (end_before a b c xs ys x y m h) ∙ filter_append (is_before (Some m)) xs ys
    ∙ ap (λ (l : List Occurrence). filter (is_before (Some m)) xs ++ l) (filter-drops b c m ys y least) ∙ append_nil (filter (is_before (Some m)) xs)
    ∙ sym (ap (λ (e : Option ℕ). filter (is_before e) xs) h)

-- behind a role that is reached
kept_some : (o : Occurrence) (xs : List Occurrence) (m : ℕ) → o.start < m → filter (is_before (Some m)) (o ∷ xs) ≡ o ∷ filter (is_before (Some m)) xs
kept_some o xs m h = rw (lt-ltb o.start m h) refl

kept_role_at : (t : Bool) (b : ℕ) (o : Occurrence) (xs : List Occurrence) (y : Option ℕ) → Within (o.start + 1) b xs → b ≡ stop o → IsEndWithin (o.start + 1) b y
    → filter (is_before (cond t (earlier (stop o) y) y)) (o ∷ xs) ≡ o ∷ filter (is_before y) xs
kept_role_at true b o xs None w s x = kept_some o xs (stop o) (omega arith) ∙ ap (λ (l : List Occurrence). o ∷ l) (filter-keeps (o.start + 1) b (stop o) xs w (omega (arith, s)) ∙ sym (filter-all xs))
kept_role_at true b o xs (Some m) w s x =
    let least : min (stop o) m ≡ m = omega (arith, x.1, s) in
    ap (λ (n : ℕ). filter (is_before (Some n)) (o ∷ xs)) least ∙ kept_some o xs m (omega (arith, x.0))
kept_role_at false b o xs None w s x = refl
kept_role_at false b o xs (Some m) w s x = kept_some o xs m (omega (arith, x.0))

kept_role : (b : ℕ) (o : Occurrence) (xs : List Occurrence) → Within (o.start + 1) b xs → b ≡ stop o → kept (o ∷ xs) ≡ o ∷ kept xs
kept_role b o xs w s = kept_role_at (ends false o.role.0) b o xs (end_in xs) w s (end-within false (o.start + 1) b xs w)

-- ---- what a search comes to, and the roles that the standard's search reaches

abbrev Tells : Named → Names → List Occurrence → Course → Type 0
Tells name seen xs (found t) = first_in name (kept xs) ≡ Some t
Tells name seen xs (needs n) = Unit {0}
Tells name seen xs ended = (first_in name (kept xs) ≡ None) × ((m : ℕ) × (end_in xs ≡ Some m))
Tells name seen xs (past more) = (first_in name xs ≡ None) × (end_in xs ≡ None) × (more ≡ names_after seen xs)

names_append : (seen : Names) (xs ys : List Occurrence) → names_after (names_after seen xs) ys ≡ names_after seen (xs ++ ys)
names_append seen [] ys = refl
names_append seen (o ∷ xs) ys = names_append (add o.role.0.name seen) xs ys

module _ (name : Named) (a b c : ℕ) (xs ys : List Occurrence) (x : Within a b xs) (y : Within b c ys) where
  found_before_at : (e : Option ℕ) (t : TargetDoc) → end_in xs ≡ e → first_in name (kept xs) ≡ Some t → first_in name (kept (xs ++ ys)) ≡ Some t
  found_before_at None t e h =
      ap (first_in name) (kept_after a b c xs ys x y e) ∙ first_append name xs (kept ys) ∙ ap (λ (o : Option TargetDoc). option_or o (first_in name (kept ys))) (sym (ap (first_in name) (kept_all xs e)) ∙ h)
  found_before_at (Some m) t e h = ap (first_in name) (kept_before a b c xs ys x y m e) ∙ h

  found_before : (t : TargetDoc) → first_in name (kept xs) ≡ Some t → first_in name (kept (xs ++ ys)) ≡ Some t
  found_before t h = found_before_at (end_in xs) t refl h

  ended_before : (seen : Names) → Tells name seen xs ended → Tells name seen (xs ++ ys) ended
  ended_before seen h = (ap (first_in name) (kept_before a b c xs ys x y h.1.0 h.1.1) ∙ h.0, (h.1.0, end_before a b c xs ys x y h.1.0 h.1.1))

  tells_behind : (seen : Names) (d : Course) → first_in name xs ≡ None → end_in xs ≡ None → Tells name (names_after seen xs) ys d → Tells name seen (xs ++ ys) d
  tells_behind seen (found t) h e r = ap (first_in name) (kept_after a b c xs ys x y e) ∙ first_append name xs (kept ys) ∙ ap (λ (o : Option TargetDoc). option_or o (first_in name (kept ys))) h ∙ r
  tells_behind seen (needs n) h e r = tt
  tells_behind seen ended h e r = (
    ap (first_in name) (kept_after a b c xs ys x y e) ∙ first_append name xs (kept ys) ∙ ap (λ (o : Option TargetDoc). option_or o (first_in name (kept ys))) h ∙ r.0,
    (r.1.0, end_after xs ys e ∙ r.1.1),
  )
  tells_behind seen (past more) h e r = (
    first_append name xs ys ∙ ap (λ (o : Option TargetDoc). option_or o (first_in name ys)) h ∙ r.0,
    end_after xs ys e ∙ r.1,
    r.2 ∙ names_append seen xs ys,
  )

-- a role that is reached, with what is reached below it
end_of_role : (t : Bool) (k m : ℕ) (x : Option ℕ) → x ≡ Some m → (n : ℕ) × (cond t (earlier k x) x ≡ Some n)
end_of_role true k m x h = (min k m, ap (earlier k) h)
end_of_role false k m x h = (m, h)

end_of_terminating : (t : Bool) (k : ℕ) (x : Option ℕ) → t ≡ true → x ≡ None → (n : ℕ) × (cond (t && true) (earlier k x) x ≡ Some n)
end_of_terminating true k x t h = (k, ap (earlier k) h)
end_of_terminating false k x t h = cc

end_of_other : (t : Bool) (k : ℕ) (x : Option ℕ) → t ≡ false → x ≡ None → cond (t && true) (earlier k x) x ≡ None
end_of_other true k x t h = cc
end_of_other false k x t h = h

module _ (name : Named) (seen : Names) (o : Occurrence) (xs ys : List Occurrence) (b c : ℕ) (w : Within (o.start + 1) b xs) (s : b ≡ stop o) (v : Within b c ys) where
  abbrev role_names : Names
  role_names = add o.role.0.name seen

  whole : Within o.start b (o ∷ xs)
  whole = (omega arith, omega (arith, s), within-weaker (o.start + 1) b o.start b xs (omega arith) (omega arith) w)

  first_kept : first_in name (kept (o ∷ xs)) ≡ option_or (listed_by name (listing_at o)) (first_in name (kept xs))
  first_kept = ap (first_in name) (kept_role b o xs w s) ∙ first_next name o (kept xs)

  -- the document lists the name
  tells_listed : (t : TargetDoc) → listed_by name (listing_at o) ≡ Some t → first_in name (kept ((o ∷ xs) ++ ys)) ≡ Some t
  tells_listed t l = found_before name o.start b c (o ∷ xs) ys whole v t (first_kept ∙ ap (λ (x : Option TargetDoc). option_or x (first_in name (kept xs))) l)

  -- it doesn't
  tells_past : (t : Bool) (more : Names) (next : Names → Course) → t ≡ o.role.0.terminating → listed_by name (listing_at o) ≡ None → Tells name role_names xs (past more) → (more ≡ names_after role_names xs → Tells name more ys (next more))
      → Tells name seen ((o ∷ xs) ++ ys) (cond t ended (next more))
  tells_past true more next t l h rest =
      let e = end_of_terminating o.role.0.terminating (stop o) (end_in xs) (sym t) h.1 in
      ended_before name o.start b c (o ∷ xs) ys whole v seen
      (first_kept ∙ ap (λ (x : Option TargetDoc). option_or x (first_in name (kept xs))) l ∙ ap (first_in name) (kept_all xs h.1) ∙ h.0, e)
  tells_past false more next t l h rest =
      tells_behind name o.start b c (o ∷ xs) ys whole v seen (next more)
      (first_next name o xs ∙ ap (λ (x : Option TargetDoc). option_or x (first_in name xs)) l ∙ h.0)
      (end_of_other o.role.0.terminating (stop o) (end_in xs) (sym t) h.1)
      (subst (λ (q : Names). Tells name q ys (next more)) h.2 (rest h.2))

  tells_into : (p : ℕ) (d : Course) (next : Names → Course) → listed_by name (listing_at o) ≡ None → Tells name role_names xs d → ((more : Names) → more ≡ names_after role_names xs → Tells name more ys (next more))
      → Tells name seen ((o ∷ xs) ++ ys) (onward p o.role.0 d next)
  tells_into p (found t) next l h rest =
      found_before name o.start b c (o ∷ xs) ys whole v t (first_kept ∙ ap (λ (x : Option TargetDoc). option_or x (first_in name (kept xs))) l ∙ h)
  tells_into p (needs n) next l h rest = tt
  tells_into p ended next l h rest =
      ended_before name o.start b c (o ∷ xs) ys whole v seen
      (first_kept ∙ ap (λ (x : Option TargetDoc). option_or x (first_in name (kept xs))) l ∙ h.0, end_of_role (ends false o.role.0) (stop o) h.1.0 (end_in xs) h.1.1)
  tells_into p (past more) next l h rest = tells_past o.role.0.terminating more next refl l h (rest more)

  tells_role : (p : ℕ) (x : Option TargetDoc) (d : Course) (next : Names → Course) → listed_by name (listing_at o) ≡ x → Tells name role_names xs d → ((more : Names) → more ≡ names_after role_names xs → Tells name more ys (next more))
      → Tells name seen ((o ∷ xs) ++ ys) (onward p o.role.0 (or_below x d) next)
  tells_role p None d next l h rest = tells_into p d next l h rest
  tells_role p (Some t) d next l h rest = tells_listed t l

-- ---- over a tree

tells_bare : (name : Named) (seen : Names) (o : Occurrence) (os : List Occurrence) (b : Bool) (n : Need) (d : Course) → is_new name seen o.role.0 ≡ b → Tells name seen (reached_from name o.below seen os) d
    → Tells name seen (reached_from name 0 seen (o ∷ os)) (cond b (needs n) d)
tells_bare name seen o os true n d h rest = tt
tells_bare name seen o os false n d h rest = subst (λ (xs : List Occurrence). Tells name seen xs d) (sym (step-old name seen o os h)) rest

tells_loaded : (name : Named) (seen : Names) (o : Occurrence) (inside os : List Occurrence) (b : Bool) (end p : ℕ) (x : Option TargetDoc) (d past_it : Course) (next : Names → Course) → is_new name seen o.role.0 ≡ b
    → o.below ≡ length inside → Splits name inside → Within (o.start + 1) (stop o) inside → Within (stop o) end os → listed_by name (listing_at o) ≡ x
    → Tells name (add o.role.0.name seen) (reached_from name 0 (add o.role.0.name seen) inside) d
    → ((more : Names) → Tells name more (reached_from name 0 more os) (next more)) → Tells name seen (reached_from name 0 seen os) past_it
    → Tells name seen (reached_from name 0 seen (o ∷ (inside ++ os))) (cond b (onward p o.role.0 (or_below x d) next) past_it)
tells_loaded name seen o inside os true end p x d past_it next h size split w v l into rest behind =
    let names = add o.role.0.name seen in
    let xs = reached_from name 0 names inside in
    let ys = reached_from name 0 (names_after names xs) os in
    let all : reached_from name 0 seen (o ∷ (inside ++ os)) ≡ (o ∷ xs) ++ ys = step-new name seen o (inside ++ os) h ∙ ap (λ (r : List Occurrence). o ∷ r) (split.always names os) in
    subst (λ (r : List Occurrence). Tells name seen r (onward p o.role.0 (or_below x d) next)) (sym all)
    (tells_role name seen o xs ys (stop o) end (within-reached (o.start + 1) (stop o) name 0 names inside w) refl (within-reached (stop o) end name 0 (names_after names xs) os v) p x d next l into
    (λ more same. subst (λ (q : Names). Tells name more (reached_from name 0 q os) (next more)) same (rest more)))
tells_loaded name seen o inside os false end p x d past_it next h size split w v l into rest behind =
    let all : reached_from name 0 seen (o ∷ (inside ++ os)) ≡ reached_from name 0 seen os =
    step-old name seen o (inside ++ os) h ∙ ap (λ (k : ℕ). reached_from name k seen (inside ++ os)) size ∙ skip_all name seen inside os in
    subst (λ (r : List Occurrence). Tells name seen r past_it) (sym all) behind

mutual
  tells-in : (name : Named) (seen : Names) (g : Option DelegationsDoc) (k : ℕ) (bs : Branches) → Tells name seen (reached_from name 0 seen (preorder k bs)) (course name seen g bs)
  tells-in name seen g k no_branches = (refl, refl, refl)
  tells-in name seen g k (unloaded e bs) =
      tells_bare name seen (record { role = (e, None); start = k; below = 0 }) (preorder (k + 1) bs) (is_new name seen e) (record { way = suc (wide bs) ∷ []; delegations = g; entry = e }) (course name seen g bs) refl
      (tells-in name seen g (k + 1) bs)
  tells-in name seen g k (loaded e n ss (tree q cs) bs) =
      let inside = preorder (k + 1) cs in
      let o : Occurrence = record { role = (e, Some (record { name = n; signatures = ss; below = tree q cs })); start = k; below = length inside } in
      let os = preorder (k + 1 + length inside) bs in
      let i = (top_doc (tree q cs)).delegations in
      let last = k + 1 + length inside in
      tells_loaded name seen o inside os (is_new name seen e) (last + length os) (suc (wide bs)) (listed name q.targets) (course name (add e.name seen) i cs) (course name seen g bs) (λ more. course name more g bs) refl refl
      (splits_below name (k + 1) (tree q cs)) (within-preorder (k + 1) cs) (within-preorder last bs) refl (tells-in name (add e.name seen) i (k + 1) cs) (λ more. tells-in name more g last bs) (tells-in name seen g last bs)

tells-below : (name : Named) (o : Option DelegationsDoc) (bs : Branches) → Tells name no_names (reached_from name 0 no_names (preorder 0 bs)) (course name no_names o bs)
tells-below name o bs = tells-in name no_names o 0 bs

-- ---- the whole search

abbrev AnswersSo : Option TargetDoc → Sought → Type 0
AnswersSo o (listed_so t) = o ≡ Some t
AnswersSo o (needed n) = Unit {0}
AnswersSo o unlisted = o ≡ None

answers_below : (name : Named) (xs : List Occurrence) (c : Course) → Tells name no_names xs c → AnswersSo (first_in name (kept xs)) (sought_by c)
answers_below name xs (found t) h = h
answers_below name xs (needs n) h = tt
answers_below name xs ended h = h.0
answers_below name xs (past more) h = ap (first_in name) (kept_all xs h.1) ∙ h.0

answers_top : (name : Named) (x : Option TargetDoc) (o : Option TargetDoc) (c : Course) → AnswersSo o (sought_by c) → AnswersSo (option_or x o) (sought_by (or_below x c))
answers_top name None o c h = h
answers_top name (Some t) o c h = refl

answers : (name : Named) (t : TreeDoc) → AnswersSo (search false name t) (sought name t)
answers name (tree o bs) =
    let g = (top_doc (tree o bs)).delegations in
    let xs = reached_from name 0 no_names (preorder 0 bs) in
    let c = course name no_names g bs in
    subst (λ (l : List Occurrence). AnswersSo (option_or (listed name o.targets) (first_in name l)) (sought_by (or_below (listed name o.targets) c))) (before_end-searched false xs)
    (answers_top name (listed name o.targets) (first_in name (kept xs)) c (answers_below name xs c (tells-below name g bs)))

pub settled-found : (name : Named) (t : TreeDoc) (x : TargetDoc) → sought name t ≡ listed_so x → search false name t ≡ Some x
settled-found name t x h = subst (AnswersSo (search false name t)) h (answers name t)

pub settled-missing : (name : Named) (t : TreeDoc) → sought name t ≡ unlisted → search false name t ≡ None
settled-missing name t h = subst (AnswersSo (search false name t)) h (answers name t)
