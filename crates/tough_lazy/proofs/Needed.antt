-- The role that a search needs: there is a way to it, and it has no document.
use Rattle.std.proofs.Common.{◌≡◌, ℕ, suc, List, [], ◌∷◌, Bool, true, false, Option, Some, None, sym, ap, subst, ◌∙◌, if◌then◌else◌}
use Rattle.tough_names.specs.Named.{Named}
use Rattle.tough_schema.specs.Delegations.{DelegationsDoc}
use Rattle.tough_schema.specs.Search.{Names, no_names, add, is_new, listed}
use Rattle.tough_schema.specs.Target.{TargetDoc}
use Rattle.tough_schema.specs.Tree.{Entry}
use Rattle.tough_schema.specs.Below.{branches_in}
use Rattle.tough_schema.specs.Putting.{wide, has, slot, role_on, role_along, role_below, IsOpen, IsOpenIn}
use Rattle.tough_schema.specs.Whole.{TreeDoc, tree, Branches, no_branches, unloaded, loaded, HeldDoc, RoleTree, put_branch, top_doc}
use Rattle.tough_schema.proofs.Exchanges.{on-here, on-behind, has-here, slot-here, has-most, has-behind, slot-behind}
use Rattle.tough_lazy.specs.Course.{Need, Course, found, needs, ended, past, onward, or_below, course, course_in, needed, sought, sought_by}

-- the way leads to an entry without a document
abbrev pub LeadsTo : List ℕ → Entry → Branches → Type 0
LeadsTo [] e bs = ⊥
LeadsTo (p ∷ ps) e bs = (has p bs ≡ true) × IsOpen ps (slot p bs) × (role_below ps (role_on p bs) ≡ Some (e, None))

to_here : (e : Entry) (bs : Branches) → LeadsTo (suc (wide bs) ∷ []) e (unloaded e bs)
to_here e bs = (has-here (e, None) bs, tt, on-here (e, None) bs)

to_below : (ps : List ℕ) (e f : Entry) (d : HeldDoc) (bs : Branches) → LeadsTo ps e (branches_in d.below) → LeadsTo (suc (wide bs) ∷ ps) e (put_branch (f, Some d) bs)
to_below [] e f d bs h = absurd h
to_below (p ∷ ps) e f d bs h = (
  has-here (f, Some d) bs,
  subst (IsOpen (p ∷ ps)) (sym (slot-here (f, Some d) bs)) (h.0, h.1),
  ap (role_below (p ∷ ps)) (on-here (f, Some d) bs) ∙ h.2,
)

to_behind : (ps : List ℕ) (e : Entry) (r : RoleTree) (bs : Branches) → LeadsTo ps e bs → LeadsTo ps e (put_branch r bs)
to_behind [] e r bs h = absurd h
to_behind (p ∷ ps) e r bs h =
    let most = has-most p bs h.0 in (
      has-behind p r bs most ∙ h.0,
      subst (IsOpen ps) (sym (slot-behind p r bs most)) h.1,
      ap (role_below ps) (on-behind p r bs most) ∙ h.2,
    )

-- what a search needs stands there
abbrev pub IsNeeded : Branches → Course → Type 0
IsNeeded bs (found t) = Unit {0}
IsNeeded bs (needs n) = LeadsTo n.way n.entry bs
IsNeeded bs ended = Unit {0}
IsNeeded bs (past seen) = Unit {0}

needed_behind : (r : RoleTree) (bs : Branches) (c : Course) → IsNeeded bs c → IsNeeded (put_branch r bs) c
needed_behind r bs (found t) h = tt
needed_behind r bs (needs n) h = to_behind n.way n.entry r bs h
needed_behind r bs ended h = tt
needed_behind r bs (past seen) h = tt

needed_choice : (b : Bool) (bs : Branches) (c d : Course) → IsNeeded bs c → IsNeeded bs d → IsNeeded bs (if b then c else d)
needed_choice true bs c d h k = h
needed_choice false bs c d h k = k

needed_then : (e : Entry) (d : HeldDoc) (bs : Branches) (c : Course) (next : Names → Course) → IsNeeded (branches_in d.below) c → ((more : Names) → IsNeeded (put_branch (e, Some d) bs) (next more))
    → IsNeeded (put_branch (e, Some d) bs) (onward (suc (wide bs)) e c next)
needed_then e d bs (found t) next h k = tt
needed_then e d bs (needs n) next h k = to_below n.way n.entry e d bs h
needed_then e d bs ended next h k = tt
needed_then e d bs (past seen) next h k = needed_choice e.terminating (put_branch (e, Some d) bs) ended (next seen) tt (k seen)

needed_listed : (o : Option TargetDoc) (bs : Branches) (c : Course) → IsNeeded bs c → IsNeeded bs (or_below o c)
needed_listed (Some t) bs c h = tt
needed_listed None bs c h = h

mutual
  needed-in : (name : Named) (seen : Names) (g : Option DelegationsDoc) (bs : Branches) → IsNeeded bs (course name seen g bs)
  needed-in name seen g no_branches = tt
  needed-in name seen g (unloaded e bs) =
      needed_choice (is_new name seen e) (unloaded e bs) (needs (record { way = suc (wide bs) ∷ []; delegations = g; entry = e })) (course name seen g bs)
      (to_here e bs) (needed_behind (e, None) bs (course name seen g bs) (needed-in name seen g bs))
  needed-in name seen g (loaded e n ss t bs) =
      let d : HeldDoc = record { name = n; signatures = ss; below = t } in
      let rest : (more : Names) → IsNeeded (loaded e n ss t bs) (course name more g bs) = λ more. needed_behind (e, Some d) bs (course name more g bs) (needed-in name more g bs) in
      needed_choice (is_new name seen e) (loaded e n ss t bs) (onward (suc (wide bs)) e (course_in name (add e.name seen) t) (λ more. course name more g bs)) (course name seen g bs)
      (needed_then e d bs (course_in name (add e.name seen) t) (λ more. course name more g bs) (needed-below name (add e.name seen) t) rest) (rest seen)

  needed-below : (name : Named) (seen : Names) (t : TreeDoc) → IsNeeded (branches_in t) (course_in name seen t)
  needed-below name seen (tree o bs) = needed_listed (listed name o.targets) bs (course name seen (top_doc (tree o bs)).delegations bs) (needed-in name seen (top_doc (tree o bs)).delegations bs)

needed_sought : (bs : Branches) (c : Course) (n : Need) → sought_by c ≡ needed n → IsNeeded bs c → LeadsTo n.way n.entry bs
needed_sought bs (found t) n is h = cc
needed_sought bs (needs m) n is h = let same : m ≡ n = cc in subst (λ (x : Need). LeadsTo x.way x.entry bs) same h
needed_sought bs ended n is h = cc
needed_sought bs (past seen) n is h = cc

pub leads : (name : Named) (t : TreeDoc) (n : Need) → sought name t ≡ needed n → LeadsTo n.way n.entry (branches_in t)
leads name t n is = needed_sought (branches_in t) (course_in name no_names t) n is (needed-below name no_names t)

is_open : (ps : List ℕ) (e : Entry) (t : TreeDoc) → LeadsTo ps e (branches_in t) → IsOpenIn ps t
is_open [] e t h = absurd h
is_open (p ∷ ps) e t h = (h.0, h.1)

is_bare : (ps : List ℕ) (e : Entry) (t : TreeDoc) → LeadsTo ps e (branches_in t) → role_along ps t ≡ Some (e, None)
is_bare [] e t h = absurd h
is_bare (p ∷ ps) e t h = h.2

pub needed-open : (name : Named) (t : TreeDoc) (n : Need) → sought name t ≡ needed n → IsOpenIn n.way t
needed-open name t n is = is_open n.way n.entry t (leads name t n is)

pub needed-bare : (name : Named) (t : TreeDoc) (n : Need) → sought name t ≡ needed n → role_along n.way t ≡ Some (n.entry, None)
needed-bare name t n is = is_bare n.way n.entry t (leads name t n is)
