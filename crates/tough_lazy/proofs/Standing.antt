-- What stands under what stays so where the document of a role that a search needs is put.
use Rattle.std.proofs.Common.{◌≡◌, ℕ, suc, List, [], ◌∷◌, Bool, true, false, cond, eqb, Option, Some, None, option_map, refl, sym, ap, subst, ◌∙◌}
use Rattle.tough_names.specs.Named.{Named}
use Rattle.tough_roles.specs.Signature.{SignedDoc}
use Rattle.tough_schema.specs.Delegations.{DelegationsDoc}
use Rattle.tough_schema.specs.Search.{Names, no_names, add, is_new, listed}
use Rattle.tough_schema.specs.Target.{TargetDoc}
use Rattle.tough_schema.specs.Targets.{TargetsDoc}
use Rattle.tough_schema.specs.Tree.{Entry}
use Rattle.tough_schema.specs.Below.{branches_in}
use Rattle.tough_schema.specs.Fresh.{carriers}
use Rattle.tough_schema.specs.Putting.{wide, has, slot, slot_in, filled, filled_in, held_along, along}
use Rattle.tough_schema.specs.Whole.{TreeDoc, tree, Branches, no_branches, unloaded, loaded, HeldDoc, RoleTree, put_branch, entries_in, top_doc}
use Rattle.tough_schema.proofs.Exchanges.{has-here, slot-here, filled-here, has-most, has-behind, slot-behind, filled-behind}
use Rattle.tough_update.specs.growth.Once.{IsBare}
use Rattle.tough_update.specs.growth.Under.{Relation, Under, Below, page_of}
use Rattle.tough_lazy.specs.Course.{Need, Course, found, needs, ended, past, onward, or_below, course, course_in, needed, sought, sought_by}

-- ---- a document's own text stays

entries_choice : (b : Bool) (x y : Branches) (l : List Entry) → entries_in x ≡ l → entries_in y ≡ l → entries_in (cond b x y) ≡ l
entries_choice true x y l h k = h
entries_choice false x y l h k = k

entries-put : (r : RoleTree) (bs : Branches) → entries_in (put_branch r bs) ≡ r.0 ∷ entries_in bs
entries-put (e, None) bs = refl
entries-put (e, Some h) bs = refl

entries-filled : (p : ℕ) (o : Option HeldDoc) (bs : Branches) → entries_in (filled p o bs) ≡ entries_in bs
entries-filled p o no_branches = refl
entries-filled p o (unloaded e bs) =
    entries_choice (eqb p (suc (wide bs))) (put_branch (e, o) bs) (unloaded e (filled p o bs)) (e ∷ entries_in bs) (entries-put (e, o) bs) (ap (λ (l : List Entry). e ∷ l) (entries-filled p o bs))
entries-filled p o (loaded e n ss t bs) =
    entries_choice (eqb p (suc (wide bs))) (put_branch (e, o) bs) (loaded e n ss t (filled p o bs)) (e ∷ entries_in bs) (entries-put (e, o) bs) (ap (λ (l : List Entry). e ∷ l) (entries-filled p o bs))

pub top-filled : (p : ℕ) (o : Option HeldDoc) (t : TreeDoc) → top_doc (filled_in p o t) ≡ top_doc t
top-filled p o (tree d bs) =
    ap (λ (es : List Entry). let x : TargetsDoc = record { head = d.head; targets = d.targets; delegations = option_map (λ ks. record { keys = ks; roles = es }) d.keys; extra = d.extra } in x) (entries-filled p o bs)

-- ---- a bare document

bare-in : (U : Relation) (g : Option DelegationsDoc) (bs : Branches) → carriers bs ≡ [] → Under U g bs
bare-in U g no_branches h = tt
bare-in U g (unloaded e bs) h = bare-in U g bs h
bare-in U g (loaded e n ss t bs) h = cc

bare-under : (U : Relation) (t : TreeDoc) → IsBare (record { name = []; signatures = []; below = t }) → Below U t
bare-under U (tree o bs) h = bare-in U (top_doc (tree o bs)).delegations bs h

-- ---- a document that is put

module _ (U : Relation) (h : HeldDoc) (ok : Below U h.below) where
  -- with it at the end of the way, what stands under what stays so
  abbrev Puts : List ℕ → Option DelegationsDoc → Branches → Type 0
  Puts [] g bs = ⊥
  Puts (p ∷ ps) g bs = (has p bs ≡ true) × Under U g (filled p (held_along ps h (slot p bs)) bs)

  put_here : (g : Option DelegationsDoc) (e : Entry) (bs : Branches) → Under U g bs → U g e.name (page_of h) → Puts (suc (wide bs) ∷ []) g (unloaded e bs)
  put_here g e bs under page = (has-here (e, None) bs, subst (Under U g) (sym (filled-here (Some h) (e, None) bs)) (page, ok, under))

  abbrev PutsIn : List ℕ → TreeDoc → Type 0
  PutsIn [] t = ⊥
  PutsIn (p ∷ ps) t = Below U (filled_in p (held_along ps h (slot_in p t)) t)

  put_below : (ps : List ℕ) (g : Option DelegationsDoc) (e : Entry) (d : HeldDoc) (bs : Branches) → U g e.name (page_of d) → Under U g bs → PutsIn ps d.below → Puts (suc (wide bs) ∷ ps) g (put_branch (e, Some d) bs)
  put_below [] g e d bs page under x = absurd x
  put_below (p ∷ ps) g e d bs page under x =
      let new = filled_in p (held_along ps h (slot_in p d.below)) d.below in
      let same : page_of (record { name = d.name; signatures = d.signatures; below = new }) ≡ page_of d =
      ap (λ (t : TargetsDoc). let s : SignedDoc TargetsDoc = record { role = t; signatures = d.signatures } in s) (top-filled p (held_along ps h (slot_in p d.below)) d.below) in (
        has-here (e, Some d) bs,
        subst (λ (o : Option HeldDoc). Under U g (filled (suc (wide bs)) (held_along (p ∷ ps) h o) (put_branch (e, Some d) bs))) (sym (slot-here (e, Some d) bs))
            (subst (Under U g) (sym (filled-here (held_along (p ∷ ps) h (Some d)) (e, Some d) bs)) (subst (U g e.name) (sym same) page, x, under)),
      )

  -- the first of the roles stands as it does
  abbrev Stands : Option DelegationsDoc → RoleTree → Type 0
  Stands g (e, None) = Unit {0}
  Stands g (e, Some d) = U g e.name (page_of d) × Below U d.below

  under_put : (g : Option DelegationsDoc) (r : RoleTree) (bs : Branches) → Stands g r → Under U g bs → Under U g (put_branch r bs)
  under_put g (e, None) bs s under = under
  under_put g (e, Some d) bs s under = (s.0, s.1, under)

  put_behind : (ps : List ℕ) (g : Option DelegationsDoc) (r : RoleTree) (bs : Branches) → Stands g r → Puts ps g bs → Puts ps g (put_branch r bs)
  put_behind [] g r bs s x = absurd x
  put_behind (p ∷ ps) g r bs s x =
      let most = has-most p bs x.0 in (
        has-behind p r bs most ∙ x.0,
        subst (λ (o : Option HeldDoc). Under U g (filled p (held_along ps h o) (put_branch r bs))) (sym (slot-behind p r bs most))
            (subst (Under U g) (sym (filled-behind p (held_along ps h (slot p bs)) r bs most)) (under_put g r (filled p (held_along ps h (slot p bs)) bs) s x.1)),
      )

  -- what a search needs may be put there
  abbrev MayPut : Option DelegationsDoc → Branches → Course → Type 0
  MayPut g bs (found t) = Unit {0}
  MayPut g bs (needs n) = U n.delegations n.entry.name (page_of h) → Puts n.way g bs
  MayPut g bs ended = Unit {0}
  MayPut g bs (past seen) = Unit {0}

  abbrev MayPutIn : TreeDoc → Course → Type 0
  MayPutIn t (found x) = Unit {0}
  MayPutIn t (needs n) = U n.delegations n.entry.name (page_of h) → PutsIn n.way t
  MayPutIn t ended = Unit {0}
  MayPutIn t (past seen) = Unit {0}

  may_behind : (g : Option DelegationsDoc) (r : RoleTree) (bs : Branches) (c : Course) → Stands g r → MayPut g bs c → MayPut g (put_branch r bs) c
  may_behind g r bs (found t) s m = tt
  may_behind g r bs (needs n) s m = λ u. put_behind n.way g r bs s (m u)
  may_behind g r bs ended s m = tt
  may_behind g r bs (past seen) s m = tt

  may_choice : (b : Bool) (g : Option DelegationsDoc) (bs : Branches) (c d : Course) → MayPut g bs c → MayPut g bs d → MayPut g bs (cond b c d)
  may_choice true g bs c d m k = m
  may_choice false g bs c d m k = k

  may_onward : (g : Option DelegationsDoc) (e : Entry) (d : HeldDoc) (bs : Branches) (c : Course) (next : Names → Course) → U g e.name (page_of d) → Under U g bs → MayPutIn d.below c
      → ((more : Names) → MayPut g (put_branch (e, Some d) bs) (next more)) → MayPut g (put_branch (e, Some d) bs) (onward (suc (wide bs)) e c next)
  may_onward g e d bs (found t) next page under m k = tt
  may_onward g e d bs (needs n) next page under m k = λ u. put_below n.way g e d bs page under (m u)
  may_onward g e d bs ended next page under m k = tt
  may_onward g e d bs (past seen) next page under m k = may_choice e.terminating g (put_branch (e, Some d) bs) ended (next seen) tt (k seen)

  put_tree : (ps : List ℕ) (t : TreeDoc) → Puts ps (top_doc t).delegations (branches_in t) → PutsIn ps t
  put_tree [] t x = absurd x
  put_tree (p ∷ ps) (tree o bs) x =
      let new = filled p (held_along ps h (slot p bs)) bs in
      subst (λ (d : TargetsDoc). Under U d.delegations new) (sym (top-filled p (held_along ps h (slot p bs)) (tree o bs))) x.1

  may_listed : (x : Option TargetDoc) (t : TreeDoc) (c : Course) → MayPut (top_doc t).delegations (branches_in t) c → MayPutIn t (or_below x c)
  may_listed (Some y) t c m = tt
  may_listed None t (found y) m = tt
  may_listed None t (needs n) m = λ u. put_tree n.way t (m u)
  may_listed None t ended m = tt
  may_listed None t (past seen) m = tt

  mutual
    may-put : (name : Named) (seen : Names) (g : Option DelegationsDoc) (bs : Branches) → Under U g bs → MayPut g bs (course name seen g bs)
    may-put name seen g no_branches under = tt
    may-put name seen g (unloaded e bs) under =
        may_choice (is_new name seen e) g (unloaded e bs) (needs (record { way = suc (wide bs) ∷ []; delegations = g; entry = e })) (course name seen g bs)
        (put_here g e bs under) (may_behind g (e, None) bs (course name seen g bs) tt (may-put name seen g bs under))
    may-put name seen g (loaded e n ss t bs) under =
        let d : HeldDoc = record { name = n; signatures = ss; below = t } in
        let rest : (more : Names) → MayPut g (loaded e n ss t bs) (course name more g bs) = λ more. may_behind g (e, Some d) bs (course name more g bs) (under.0, under.1) (may-put name more g bs under.2) in
        may_choice (is_new name seen e) g (loaded e n ss t bs) (onward (suc (wide bs)) e (course_in name (add e.name seen) t) (λ more. course name more g bs)) (course name seen g bs)
        (may_onward g e d bs (course_in name (add e.name seen) t) (λ more. course name more g bs) under.0 under.2 (may-put-in name (add e.name seen) t under.1) rest) (rest seen)

    may-put-in : (name : Named) (seen : Names) (t : TreeDoc) → Below U t → MayPutIn t (course_in name seen t)
    may-put-in name seen (tree o bs) under =
        may_listed (listed name o.targets) (tree o bs) (course name seen (top_doc (tree o bs)).delegations bs) (may-put name seen (top_doc (tree o bs)).delegations bs under)

  put_sought : (t : TreeDoc) (c : Course) (n : Need) → sought_by c ≡ needed n → MayPutIn t c → U n.delegations n.entry.name (page_of h) → PutsIn n.way t
  put_sought t (found x) n is m = cc
  put_sought t (needs k) n is m = let same : k ≡ n = cc in subst (λ (x : Need). U x.delegations x.entry.name (page_of h) → PutsIn x.way t) same m
  put_sought t ended n is m = cc
  put_sought t (past seen) n is m = cc

  put_along : (ps : List ℕ) (t : TreeDoc) → PutsIn ps t → Below U (along ps h t)
  put_along [] t x = absurd x
  put_along (p ∷ ps) t x = x

  pub below-put : (name : Named) (t : TreeDoc) (n : Need) → sought name t ≡ needed n → Below U t → U n.delegations n.entry.name (page_of h) → Below U (along n.way h t)
  below-put name t n is under page = put_along n.way t (put_sought t (course_in name no_names t) n is (may-put-in name no_names t under) page)

pub below-stays : (U : Relation) (name : Named) (t : TreeDoc) (n : Need) (h : HeldDoc) → sought name t ≡ needed n → Below U t → U n.delegations n.entry.name (page_of h) → IsBare h → Below U (along n.way h t)
below-stays U name t n h is under page bare = below-put U h (bare-under U h.below bare) name t n is under page
