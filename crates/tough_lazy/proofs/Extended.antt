-- A tree that another one extends.
use Rattle.std.proofs.Common.{◌≡◌, ℕ, suc, List, [], ◌∷◌, Bool, true, false, cond, eqb, Option, Some, None, refl, sym, ap, subst, ◌∙◌}
use Rattle.tough_names.specs.Named.{Named}
use Rattle.tough_schema.specs.Delegations.{DelegationsDoc}
use Rattle.tough_schema.specs.Search.{Names, no_names, add, is_new, listed}
use Rattle.tough_schema.specs.Target.{TargetDoc}
use Rattle.tough_schema.specs.Tree.{Entry}
use Rattle.tough_schema.specs.Below.{branches_in}
use Rattle.tough_schema.specs.Putting.{wide, slot, slot_in, filled, filled_in, held_filled, held_along, along, role_on, role_along, role_below}
use Rattle.tough_schema.specs.Whole.{TreeDoc, tree, Branches, no_branches, unloaded, loaded, HeldDoc, OwnDoc, RoleTree, put_branch, top_doc}
use Rattle.tough_lazy.specs.Course.{Need, Course, found, needs, ended, past, onward, or_below, course, course_in, listed_so, needed, unlisted, sought, sought_by}
use Rattle.tough_lazy.specs.Extending.{Extends, ExtendsIn, ExtendsHeld}
use Rattle.tough_lazy.proofs.Needed.{needed-bare}

-- ---- what a search comes to stays

-- the same, unless it needs a document
abbrev Stays : Course → Course → Type 0
Stays (found t) d = found t ≡ d
Stays (needs n) d = Unit {0}
Stays ended d = ended ≡ d
Stays (past seen) d = past seen ≡ d

stays_choice : (b : Bool) (x y v w : Course) → Stays x v → Stays y w → Stays (cond b x y) (cond b v w)
stays_choice true x y v w h k = h
stays_choice false x y v w h k = k

stays_then : (p q : ℕ) (e : Entry) (c d : Course) (next after : Names → Course) → Stays c d → ((more : Names) → Stays (next more) (after more)) → Stays (onward p e c next) (onward q e d after)
stays_then p q e (found t) d next after h k = ap (λ x. onward q e x after) h
stays_then p q e (needs n) d next after h k = tt
stays_then p q e ended d next after h k = ap (λ x. onward q e x after) h
stays_then p q e (past seen) d next after h k =
    subst (λ x. Stays (cond e.terminating ended (next seen)) (onward q e x after)) h (stays_choice e.terminating ended (next seen) ended (after seen) refl (k seen))

stays_listed : (o : Option TargetDoc) (c d : Course) → Stays c d → Stays (or_below o c) (or_below o d)
stays_listed (Some t) c d h = refl
stays_listed None c d h = h

mutual
  stays-in : (name : Named) (seen : Names) (g i : Option DelegationsDoc) (bs cs : Branches) → ExtendsIn bs cs → Stays (course name seen g bs) (course name seen i cs)
  stays-in name seen g i no_branches no_branches x = refl
  stays-in name seen g i no_branches (unloaded f cs) x = absurd x
  stays-in name seen g i no_branches (loaded f m rs u cs) x = absurd x
  stays-in name seen g i (unloaded e bs) no_branches x = absurd x
  stays-in name seen g i (unloaded e bs) (unloaded f cs) x =
      subst (λ (y : Entry). Stays (course name seen g (unloaded e bs)) (course name seen i (unloaded y cs))) x.0
      (stays_choice (is_new name seen e) (needs (record { way = suc (wide bs) ∷ []; delegations = g; entry = e })) (course name seen g bs)
      (needs (record { way = suc (wide cs) ∷ []; delegations = i; entry = e })) (course name seen i cs) tt (stays-in name seen g i bs cs x.1))
  stays-in name seen g i (unloaded e bs) (loaded f m rs u cs) x =
      subst (λ (y : Entry). Stays (course name seen g (unloaded e bs)) (course name seen i (loaded y m rs u cs))) x.0
      (stays_choice (is_new name seen e) (needs (record { way = suc (wide bs) ∷ []; delegations = g; entry = e })) (course name seen g bs)
      (onward (suc (wide cs)) e (course_in name (add e.name seen) u) (λ more. course name more i cs)) (course name seen i cs) tt (stays-in name seen g i bs cs x.1))
  stays-in name seen g i (loaded e n ss t bs) no_branches x = absurd x
  stays-in name seen g i (loaded e n ss t bs) (unloaded f cs) x = absurd x
  stays-in name seen g i (loaded e n ss t bs) (loaded f m rs u cs) x =
      subst (λ (y : Entry). Stays (course name seen g (loaded e n ss t bs)) (course name seen i (loaded y m rs u cs))) x.0
      (stays_choice (is_new name seen e) (onward (suc (wide bs)) e (course_in name (add e.name seen) t) (λ more. course name more g bs)) (course name seen g bs)
      (onward (suc (wide cs)) e (course_in name (add e.name seen) u) (λ more. course name more i cs)) (course name seen i cs)
      (stays_then (suc (wide bs)) (suc (wide cs)) e (course_in name (add e.name seen) t) (course_in name (add e.name seen) u) (λ more. course name more g bs) (λ more. course name more i cs)
      (stays-below name (add e.name seen) t u x.3) (λ more. stays-in name more g i bs cs x.4)) (stays-in name seen g i bs cs x.4))

  stays-below : (name : Named) (seen : Names) (t u : TreeDoc) → Extends t u → Stays (course_in name seen t) (course_in name seen u)
  stays-below name seen (tree o bs) (tree p cs) x =
      let g = (top_doc (tree o bs)).delegations in
      let i = (top_doc (tree p cs)).delegations in
      subst (λ (q : OwnDoc). Stays (or_below (listed name o.targets) (course name seen g bs)) (or_below (listed name q.targets) (course name seen i cs))) x.0
      (stays_listed (listed name o.targets) (course name seen g bs) (course name seen i cs) (stays-in name seen g i bs cs x.1))

stays_found : (c d : Course) (t : TargetDoc) → Stays c d → sought_by c ≡ listed_so t → sought_by d ≡ listed_so t
stays_found (found x) d t h is = ap sought_by (sym h) ∙ is
stays_found (needs n) d t h is = cc
stays_found ended d t h is = cc
stays_found (past seen) d t h is = cc

stays_missing : (c d : Course) → Stays c d → sought_by c ≡ unlisted → sought_by d ≡ unlisted
stays_missing (found x) d h is = cc
stays_missing (needs n) d h is = cc
stays_missing ended d h is = ap sought_by (sym h)
stays_missing (past seen) d h is = ap sought_by (sym h)

pub listed-stays : (name : Named) (t u : TreeDoc) (x : TargetDoc) → Extends t u → sought name t ≡ listed_so x → sought name u ≡ listed_so x
listed-stays name t u x more is = stays_found (course_in name no_names t) (course_in name no_names u) x (stays-below name no_names t u more) is

pub unlisted-stays : (name : Named) (t u : TreeDoc) → Extends t u → sought name t ≡ unlisted → sought name u ≡ unlisted
unlisted-stays name t u more is = stays_missing (course_in name no_names t) (course_in name no_names u) (stays-below name no_names t u more) is

-- ---- another document at the end of a way

abbrev pub ExtendsAt : Option HeldDoc → Option HeldDoc → Type 0
ExtendsAt None o = Unit {0}
ExtendsAt (Some h) None = ⊥
ExtendsAt (Some h) (Some d) = ExtendsHeld h d

mutual
  same-in : (bs : Branches) → ExtendsIn bs bs
  same-in no_branches = tt
  same-in (unloaded e bs) = (refl, same-in bs)
  same-in (loaded e n ss t bs) = (refl, refl, refl, same-below t, same-in bs)

  pub same-below : (t : TreeDoc) → Extends t t
  same-below (tree o bs) = (refl, same-in bs)

-- a role and those behind it
role_more : (e f : Entry) (o q : Option HeldDoc) (bs cs : Branches) → e ≡ f → ExtendsAt o q → ExtendsIn bs cs → ExtendsIn (put_branch (e, o) bs) (put_branch (f, q) cs)
role_more e f None None bs cs h x y = (h, y)
role_more e f None (Some d) bs cs h x y = (h, y)
role_more e f (Some h) None bs cs same x y = absurd x
role_more e f (Some h) (Some d) bs cs same x y = (same, x.name, x.signatures, x.below, y)

wide_same : (bs cs : Branches) → ExtendsIn bs cs → wide bs ≡ wide cs
wide_same no_branches no_branches x = refl
wide_same no_branches (unloaded f cs) x = absurd x
wide_same no_branches (loaded f m rs u cs) x = absurd x
wide_same (unloaded e bs) no_branches x = absurd x
wide_same (unloaded e bs) (unloaded f cs) x = ap suc (wide_same bs cs x.1)
wide_same (unloaded e bs) (loaded f m rs u cs) x = ap suc (wide_same bs cs x.1)
wide_same (loaded e n ss t bs) no_branches x = absurd x
wide_same (loaded e n ss t bs) (unloaded f cs) x = absurd x
wide_same (loaded e n ss t bs) (loaded f m rs u cs) x = ap suc (wide_same bs cs x.4)

filled_choice : (b : Bool) (x y v : Branches) → (b ≡ true → ExtendsIn x v) → (b ≡ false → ExtendsIn y v) → ExtendsIn (cond b x y) v
filled_choice true x y v h k = h refl
filled_choice false x y v h k = k refl

choice_filled : (b : Bool) (x y v : Branches) → (b ≡ true → ExtendsIn v x) → (b ≡ false → ExtendsIn v y) → ExtendsIn v (cond b x y)
choice_filled true x y v h k = h refl
choice_filled false x y v h k = k refl

at_choice : (b : Bool) (o x y : Option HeldDoc) → b ≡ true → ExtendsAt o (cond b x y) → ExtendsAt o x
at_choice true o x y h z = z
at_choice false o x y h z = cc

not_choice : (b : Bool) (o x y : Option HeldDoc) → b ≡ false → ExtendsAt o (cond b x y) → ExtendsAt o y
not_choice true o x y h z = cc
not_choice false o x y h z = z

choice_at : (b : Bool) (o x y : Option HeldDoc) → b ≡ true → ExtendsAt (cond b x y) o → ExtendsAt x o
choice_at true o x y h z = z
choice_at false o x y h z = cc

choice_not : (b : Bool) (o x y : Option HeldDoc) → b ≡ false → ExtendsAt (cond b x y) o → ExtendsAt y o
choice_not true o x y h z = cc
choice_not false o x y h z = z

-- what is put is more than what was there
filled-more : (p : ℕ) (o : Option HeldDoc) (bs : Branches) → ExtendsAt (slot p bs) o → ExtendsIn bs (filled p o bs)
filled-more p o no_branches x = tt
filled-more p o (unloaded e bs) x =
    choice_filled (eqb p (suc (wide bs))) (put_branch (e, o) bs) (unloaded e (filled p o bs)) (unloaded e bs)
    (λ here. role_more e e None o bs bs refl tt (same-in bs))
    (λ behind. (refl, filled-more p o bs (choice_not (eqb p (suc (wide bs))) o None (slot p bs) behind x)))
filled-more p o (loaded e n ss t bs) x =
    let d : HeldDoc = record { name = n; signatures = ss; below = t } in
    choice_filled (eqb p (suc (wide bs))) (put_branch (e, o) bs) (loaded e n ss t (filled p o bs)) (loaded e n ss t bs)
    (λ here. role_more e e (Some d) o bs bs refl (choice_at (eqb p (suc (wide bs))) o (Some d) (slot p bs) here x) (same-in bs))
    (λ behind. (refl, refl, refl, same-below t, filled-more p o bs (choice_not (eqb p (suc (wide bs))) o (Some d) (slot p bs) behind x)))

filled-more-in : (p : ℕ) (o : Option HeldDoc) (t : TreeDoc) → ExtendsAt (slot_in p t) o → Extends t (filled_in p o t)
filled-more-in p o (tree d bs) x = (refl, filled-more p o bs x)

-- the document of the role at a place
on_choice : (b : Bool) (r x : RoleTree) (v : Option RoleTree) (s : Option HeldDoc) → cond b (Some r) v ≡ Some x → (v ≡ Some x → s ≡ x.1) → cond b r.1 s ≡ x.1
on_choice true r x v s h rest = let same : r ≡ x = cc in ap (λ (y : RoleTree). y.1) same
on_choice false r x v s h rest = rest h

on-slot : (p : ℕ) (bs : Branches) (x : RoleTree) → role_on p bs ≡ Some x → slot p bs ≡ x.1
on-slot p no_branches x h = cc
on-slot p (unloaded e bs) x h = on_choice (eqb p (suc (wide bs))) (e, None) x (role_on p bs) (slot p bs) h (on-slot p bs x)
on-slot p (loaded e n ss t bs) x h = on_choice (eqb p (suc (wide bs))) (e, Some (record { name = n; signatures = ss; below = t })) x (role_on p bs) (slot p bs) h (on-slot p bs x)

-- what is put at the end of a way to a role without a document
along_slot : (ps : List ℕ) (h : HeldDoc) (e : Entry) (p : ℕ) (bs : Branches) (o : Option RoleTree) → ((t : TreeDoc) → role_along ps t ≡ Some (e, None) → Extends t (along ps h t))
    → role_on p bs ≡ o → role_below ps o ≡ Some (e, None) → ExtendsAt (slot p bs) (held_along ps h (slot p bs))
along_slot [] h e p bs None rest on is = cc
along_slot (q ∷ ps) h e p bs None rest on is = cc
along_slot [] h e p bs (Some r) rest on is =
    let none : slot p bs ≡ None = on-slot p bs r on ∙ cc in subst (λ (o : Option HeldDoc). ExtendsAt o (Some h)) (sym none) tt
along_slot (q ∷ ps) h e p bs (Some (f, None)) rest on is = cc
along_slot (q ∷ ps) h e p bs (Some (f, Some d)) rest on is =
    subst (λ (o : Option HeldDoc). ExtendsAt o (held_along (q ∷ ps) h o)) (sym (on-slot p bs (f, Some d) on))
    (record { name = refl; signatures = refl; below = rest d.below is })

pub along-more-in : (ps : List ℕ) (h : HeldDoc) (e : Entry) (t : TreeDoc) → role_along ps t ≡ Some (e, None) → Extends t (along ps h t)
along-more-in [] h e t is = cc
along-more-in (p ∷ ps) h e t is = filled-more-in p (held_along ps h (slot_in p t)) t (along_slot ps h e p (branches_in t) (role_on p (branches_in t)) (along-more-in ps h e) refl is)

pub along-more : (name : Named) (t : TreeDoc) (n : Need) (h : HeldDoc) → sought name t ≡ needed n → Extends t (along n.way h t)
along-more name t n h is = along-more-in n.way h n.entry t (needed-bare name t n is)

-- ---- another document at the end of a way, where the other tree has more there

slot_choice : (b : Bool) (o q u v : Option HeldDoc) → ExtendsAt o u → ExtendsAt q v → ExtendsAt (cond b o q) (cond b u v)
slot_choice true o q u v h k = h
slot_choice false o q u v h k = k

-- the test for a place
abbrev pub is_at_end : ℕ → Branches → Bool
is_at_end p bs = eqb p (suc (wide bs))

pub same_end : (p : ℕ) (bs cs : Branches) → ExtendsIn bs cs → is_at_end p bs ≡ is_at_end p cs
same_end p bs cs x = ap (λ n. eqb p (suc n)) (wide_same bs cs x)

slots : (p : ℕ) (bs cs : Branches) → ExtendsIn bs cs → ExtendsAt (slot p bs) (slot p cs)
slots p no_branches no_branches x = tt
slots p no_branches (unloaded f cs) x = absurd x
slots p no_branches (loaded f m rs u cs) x = absurd x
slots p (unloaded e bs) no_branches x = absurd x
slots p (unloaded e bs) (unloaded f cs) x =
    subst (λ (b : Bool). ExtendsAt (slot p (unloaded e bs)) (cond b None (slot p cs))) (same_end p bs cs x.1) (slot_choice (is_at_end p bs) None (slot p bs) None (slot p cs) tt (slots p bs cs x.1))
slots p (unloaded e bs) (loaded f m rs u cs) x =
    let d : HeldDoc = record { name = m; signatures = rs; below = u } in
    subst (λ (b : Bool). ExtendsAt (slot p (unloaded e bs)) (cond b (Some d) (slot p cs))) (same_end p bs cs x.1) (slot_choice (is_at_end p bs) None (slot p bs) (Some d) (slot p cs) tt (slots p bs cs x.1))
slots p (loaded e n ss t bs) no_branches x = absurd x
slots p (loaded e n ss t bs) (unloaded f cs) x = absurd x
slots p (loaded e n ss t bs) (loaded f m rs u cs) x =
    let h : HeldDoc = record { name = n; signatures = ss; below = t } in
    let d : HeldDoc = record { name = m; signatures = rs; below = u } in
    subst (λ (b : Bool). ExtendsAt (slot p (loaded e n ss t bs)) (cond b (Some d) (slot p cs))) (same_end p bs cs x.4)
    (slot_choice (is_at_end p bs) (Some h) (slot p bs) (Some d) (slot p cs) (record { name = x.1; signatures = x.2; below = x.3 }) (slots p bs cs x.4))

slots-in : (p : ℕ) (t u : TreeDoc) → Extends t u → ExtendsAt (slot_in p t) (slot_in p u)
slots-in p (tree o bs) (tree q cs) x = slots p bs cs x.1

-- a role of which the other list has more
filled_role : (p : ℕ) (o a b : Option HeldDoc) (e f : Entry) (bs cs : Branches) → e ≡ f → ExtendsAt a b → ExtendsIn bs cs → (ExtendsAt o (slot p cs) → ExtendsIn (filled p o bs) cs) → ExtendsAt o (cond (is_at_end p cs) b (slot p cs))
    → ExtendsIn (cond (is_at_end p bs) (put_branch (e, o) bs) (put_branch (e, a) (filled p o bs))) (put_branch (f, b) cs)
filled_role p o a b e f bs cs same x rest more there =
    filled_choice (is_at_end p bs) (put_branch (e, o) bs) (put_branch (e, a) (filled p o bs)) (put_branch (f, b) cs)
    (λ here. role_more e f o b bs cs same (at_choice (is_at_end p cs) o b (slot p cs) (sym (same_end p bs cs rest) ∙ here) there) rest)
    (λ behind. role_more e f a b (filled p o bs) cs same x (more (not_choice (is_at_end p cs) o b (slot p cs) (sym (same_end p bs cs rest) ∙ behind) there)))

filled-under : (p : ℕ) (o : Option HeldDoc) (bs cs : Branches) → ExtendsIn bs cs → ExtendsAt o (slot p cs) → ExtendsIn (filled p o bs) cs
filled-under p o no_branches no_branches x y = tt
filled-under p o no_branches (unloaded f cs) x y = absurd x
filled-under p o no_branches (loaded f m rs u cs) x y = absurd x
filled-under p o (unloaded e bs) no_branches x y = absurd x
filled-under p o (unloaded e bs) (unloaded f cs) x y = filled_role p o None None e f bs cs x.0 tt x.1 (filled-under p o bs cs x.1) y
filled-under p o (unloaded e bs) (loaded f m rs u cs) x y = filled_role p o None (Some (record { name = m; signatures = rs; below = u })) e f bs cs x.0 tt x.1 (filled-under p o bs cs x.1) y
filled-under p o (loaded e n ss t bs) no_branches x y = absurd x
filled-under p o (loaded e n ss t bs) (unloaded f cs) x y = absurd x
filled-under p o (loaded e n ss t bs) (loaded f m rs u cs) x y =
    filled_role p o (Some (record { name = n; signatures = ss; below = t })) (Some (record { name = m; signatures = rs; below = u })) e f bs cs x.0 (record { name = x.1; signatures = x.2; below = x.3 }) x.4 (filled-under p o bs cs x.4) y

filled-under-in : (p : ℕ) (o : Option HeldDoc) (t u : TreeDoc) → Extends t u → ExtendsAt o (slot_in p u) → Extends (filled_in p o t) u
filled-under-in p o (tree d bs) (tree q cs) x y = (x.0, filled-under p o bs cs x.1 y)

along_at : (ps : List ℕ) (h d : HeldDoc) (e : Entry) (a : Option HeldDoc) (p : ℕ) (cs : Branches) (o : Option RoleTree)
    → ((t u : TreeDoc) → Extends t u → role_along ps u ≡ Some (e, Some d) → Extends (along ps h t) u)
    → ExtendsHeld h d → ExtendsAt a (slot p cs) → role_on p cs ≡ o → role_below ps o ≡ Some (e, Some d) → ExtendsAt (held_along ps h a) (slot p cs)
along_at [] h d e a p cs None rest x y on is = cc
along_at (q ∷ ps) h d e a p cs None rest x y on is = cc
along_at [] h d e a p cs (Some r) rest x y on is =
    let there : slot p cs ≡ Some d = on-slot p cs r on ∙ cc in subst (ExtendsAt (Some h)) (sym there) x
along_at (q ∷ ps) h d e a p cs (Some (f, None)) rest x y on is = cc
along_at (q ∷ ps) h d e None p cs (Some (f, Some k)) rest x y on is = tt
along_at (q ∷ ps) h d e (Some a) p cs (Some (f, Some k)) rest x y on is =
    let there : slot p cs ≡ Some k = on-slot p cs (f, Some k) on in
    let held : ExtendsHeld a k = subst (ExtendsAt (Some a)) there y in
    subst (ExtendsAt (Some (held_filled q (held_along ps h (slot_in q a.below)) a))) (sym there)
    (record { name = held.name; signatures = held.signatures; below = rest a.below k.below held.below is })

pub along-under : (ps : List ℕ) (h d : HeldDoc) (e : Entry) (t u : TreeDoc) → ExtendsHeld h d → Extends t u → role_along ps u ≡ Some (e, Some d) → Extends (along ps h t) u
along-under [] h d e t u x y is = cc
along-under (p ∷ ps) h d e t u x y is =
    filled-under-in p (held_along ps h (slot_in p t)) t u y
    (along_at ps h d e (slot_in p t) p (branches_in u) (role_on p (branches_in u)) (λ v w. along-under ps h d e v w x) x (slots-in p t u y) refl is)

-- ---- one tree after another

mutual
  further-in : (bs cs ds : Branches) → ExtendsIn bs cs → ExtendsIn cs ds → ExtendsIn bs ds
  further-in no_branches no_branches ds x y = y
  further-in no_branches (unloaded f cs) ds x y = absurd x
  further-in no_branches (loaded f m rs u cs) ds x y = absurd x
  further-in (unloaded e bs) no_branches ds x y = absurd x
  further-in (unloaded e bs) (unloaded f cs) no_branches x y = absurd y
  further-in (unloaded e bs) (unloaded f cs) (unloaded g ds) x y = (x.0 ∙ y.0, further-in bs cs ds x.1 y.1)
  further-in (unloaded e bs) (unloaded f cs) (loaded g k qs v ds) x y = (x.0 ∙ y.0, further-in bs cs ds x.1 y.1)
  further-in (unloaded e bs) (loaded f m rs u cs) no_branches x y = absurd y
  further-in (unloaded e bs) (loaded f m rs u cs) (unloaded g ds) x y = absurd y
  further-in (unloaded e bs) (loaded f m rs u cs) (loaded g k qs v ds) x y = (x.0 ∙ y.0, further-in bs cs ds x.1 y.4)
  further-in (loaded e n ss t bs) no_branches ds x y = absurd x
  further-in (loaded e n ss t bs) (unloaded f cs) ds x y = absurd x
  further-in (loaded e n ss t bs) (loaded f m rs u cs) no_branches x y = absurd y
  further-in (loaded e n ss t bs) (loaded f m rs u cs) (unloaded g ds) x y = absurd y
  further-in (loaded e n ss t bs) (loaded f m rs u cs) (loaded g k qs v ds) x y = (x.0 ∙ y.0, x.1 ∙ y.1, x.2 ∙ y.2, further t u v x.3 y.3, further-in bs cs ds x.4 y.4)

  pub further : (t u v : TreeDoc) → Extends t u → Extends u v → Extends t v
  further (tree o bs) (tree p cs) (tree q ds) x y = (x.0 ∙ y.0, further-in bs cs ds x.1 y.1)
