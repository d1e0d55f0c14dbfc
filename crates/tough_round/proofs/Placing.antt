-- The document that took its place in a tree stands under the delegations that it was signed for.
use Rattle.std.proofs.Common.{◌≡◌, ℕ, List, [], ◌∷◌, ◌++◌, Bool, true, false, ◌||◌, cond, is_some, option_map, Option, Some, None, ◌⊎◌, inl, inr, refl, sym, ap, ap₂, subst, ◌∙◌}
use Rattle.std.specs.Prelude.{if◌then◌else◌}
use Rattle.std.specs.Map.{lookup}
use Rattle.std.specs.Str.{bytes_eq}
use Rattle.std.proofs.lemmas.Bool.{true≢false, false≢true}
use Rattle.std.proofs.lemmas.Slice.Eq.{bytes_eq-Decides}
use Rattle.tough_decoded.specs.Spelled.{Spelled}
use Rattle.tough_keys.specs.Key.{KeyDoc}
use Rattle.tough_json.proofs.lemmas.Write.{some-inj}
use Rattle.tough_roles.specs.Signature.{SignatureDoc, SignedDoc}
use Rattle.tough_schema.specs.Tree.{Entry}
use Rattle.tough_schema.specs.Delegations.{DelegationsDoc}
use Rattle.tough_schema.specs.Targets.{TargetsDoc}
use Rattle.tough_schema.specs.Whole.{TreeDoc, tree, Branches, no_branches, unloaded, loaded, HeldDoc, RoleTree, DelegationsTree, top_doc, entries_in, put_branch}
use Rattle.tough_schema.specs.Fresh.{carriers, carriers_below}
use Rattle.tough_schema.specs.Seek.{Sought, found, missing, undocumented, undelegated, if_found, or_next, seek, seek_in, standing, standing_in, first_named, keys_or_none}
use Rattle.tough_schema.specs.Put.{is_role, with_document, with_document_in}
use Rattle.tough_update.specs.growth.Full.{AreFull, IsFull}
use Rattle.tough_update.specs.growth.Once.{is_among, Distinct}
use Rattle.tough_update.specs.growth.Under.{page_of, Relation, Under, Below}
use Rattle.tough_release.specs.Holding.{delegations_top}

-- ---- tests

pub or-false : (a b : Bool) → (a || b) ≡ false → (a ≡ false) × (b ≡ false)
or-false true b h = cc
or-false false b h = (refl, h)

or-true : (a b : Bool) → b ≡ true → (a || b) ≡ true
or-true true b h = refl
or-true false b h = h

-- ---- names

among-append : (n : List ℕ) (xs ys : List (List ℕ)) → is_among n (xs ++ ys) ≡ (is_among n xs || is_among n ys)
among-append n [] ys = refl
among-append n (x ∷ xs) ys = or-assoc (bytes_eq x n) (is_among n xs) (is_among n ys) (is_among n (xs ++ ys)) (among-append n xs ys) where
  or-assoc : (a b c d : Bool) → d ≡ (b || c) → (a || d) ≡ ((a || b) || c)
  or-assoc true b c d h = refl
  or-assoc false b c d h = h

neither : (n : List ℕ) (xs ys : List (List ℕ)) → is_among n (xs ++ ys) ≡ false → (is_among n xs ≡ false) × (is_among n ys ≡ false)
neither n xs ys h = or-false (is_among n xs) (is_among n ys) (sym (among-append n xs ys) ∙ h)

distinct-right : (xs ys : List (List ℕ)) → Distinct (xs ++ ys) → Distinct ys
distinct-right [] ys h = h
distinct-right (x ∷ xs) ys h = distinct-right xs ys h.1

distinct-left : (xs ys : List (List ℕ)) → Distinct (xs ++ ys) → Distinct xs
distinct-left [] ys h = tt
distinct-left (x ∷ xs) ys h = ((neither x xs ys h.0).0, distinct-left xs ys h.1)

equal : (a b : List ℕ) → bytes_eq a b ≡ true → a ≡ b
equal a b h = (bytes_eq-Decides a b).0 h

side-at : (n x : List ℕ) (xs ys : List (List ℕ)) (b : Bool) → bytes_eq x n ≡ b → is_among x (xs ++ ys) ≡ false → (b || is_among n xs) ≡ true → (is_among n xs ≡ true → is_among n ys ≡ false) → is_among n ys ≡ false
side-at n x xs ys true is out h rest = subst (λ (m : List ℕ). is_among m ys ≡ false) (equal x n is) (neither x xs ys out).1
side-at n x xs ys false is out h rest = rest h

-- one that stands on the left doesn't on the right
other-side : (n : List ℕ) (xs ys : List (List ℕ)) → Distinct (xs ++ ys) → is_among n xs ≡ true → is_among n ys ≡ false
other-side n [] ys d h = cc
other-side n (x ∷ xs) ys d h = side-at n x xs ys (bytes_eq x n) refl d.0 h (other-side n xs ys d.1)

-- ---- lookups

first-append : {A : Type 0} (test : List ℕ → Bool) (xs ys : List (List ℕ × A)) (a : A) → lookup test xs ≡ Some a → lookup test (xs ++ ys) ≡ Some a
first-append test [] ys a h = cc
first-append test (x ∷ xs) ys a h = at (test x.0) h (first-append test xs ys a) where
  at : (b : Bool) → cond b (Some x.1) (lookup test xs) ≡ Some a → (lookup test xs ≡ Some a → lookup test (xs ++ ys) ≡ Some a) → cond b (Some x.1) (lookup test (xs ++ ys)) ≡ Some a
  at true h next = h
  at false h next = next h

none-append : {A : Type 0} (test : List ℕ → Bool) (xs ys : List (List ℕ × A)) → lookup test xs ≡ None → lookup test (xs ++ ys) ≡ lookup test ys
none-append test [] ys h = refl
none-append test (x ∷ xs) ys h = at (test x.0) h (none-append test xs ys) where
  at : (b : Bool) → cond b (Some x.1) (lookup test xs) ≡ None → (lookup test xs ≡ None → lookup test (xs ++ ys) ≡ lookup test ys) → cond b (Some x.1) (lookup test (xs ++ ys)) ≡ lookup test ys
  at true h next = cc
  at false h next = next h

-- ---- the search

module _ (name : List ℕ) where
  found-next : (s next : Sought) → is_role s ≡ true → is_role (or_next (if_found s) next) ≡ true
  found-next (found r) next h = refl
  found-next missing next h = cc
  found-next undocumented next h = cc
  found-next undelegated next h = cc

  missed-next : (s next : Sought) → is_role s ≡ false → or_next (if_found s) next ≡ next
  missed-next (found r) next h = cc
  missed-next missing next h = refl
  missed-next undocumented next h = refl
  missed-next undelegated next h = refl

  unfound-below : (all : DelegationsTree) (t : TreeDoc) (bs : Branches) (c : Bool) → is_role (seek_in name t) ≡ c → is_role (or_next (if_found (seek_in name t)) (seek name bs)) ≡ false
      → (is_role (seek_in name t) ≡ false → (is_among name (carriers_below t) ≡ false) × (first_named name (standing_in t) ≡ None))
      → (is_role (seek name bs) ≡ false → (is_among name (carriers bs) ≡ false) × (first_named name (standing all bs) ≡ None))
      → (is_among name (carriers_below t ++ carriers bs) ≡ false) × (first_named name (standing_in t ++ standing all bs) ≡ None)
  unfound-below all t bs true is h f g = absurd (true≢false (sym (found-next (seek_in name t) (seek name bs) is) ∙ h))
  unfound-below all t bs false is h f g =
      let p = f is in
      let q = g (sym (ap is_role (missed-next (seek_in name t) (seek name bs) is)) ∙ h) in
      (among-append name (carriers_below t) (carriers bs) ∙ ap₂ (λ x y. x || y) p.0 q.0, none-append (λ n. bytes_eq n name) (standing_in t) (standing all bs) p.1 ∙ q.1)

  unfound-at : (all : DelegationsTree) (r : RoleTree) (t : TreeDoc) (bs : Branches) (b : Bool) → is_role (if b then found r else or_next (if_found (seek_in name t)) (seek name bs)) ≡ false
      → (is_role (seek_in name t) ≡ false → (is_among name (carriers_below t) ≡ false) × (first_named name (standing_in t) ≡ None))
      → (is_role (seek name bs) ≡ false → (is_among name (carriers bs) ≡ false) × (first_named name (standing all bs) ≡ None))
      → ((b || is_among name (carriers_below t ++ carriers bs)) ≡ false) × (cond b (Some all) (first_named name (standing_in t ++ standing all bs)) ≡ None)
  unfound-at all r t bs true h f g = absurd (true≢false h)
  unfound-at all r t bs false h f g = unfound-below all t bs (is_role (seek_in name t)) refl h f g

  -- in a full tree what isn't found isn't there
  mutual
    unfound : (all : DelegationsTree) (bs : Branches) → AreFull bs → is_role (seek name bs) ≡ false → (is_among name (carriers bs) ≡ false) × (first_named name (standing all bs) ≡ None)
    unfound all no_branches full h = (refl, refl)
    unfound all (unloaded e bs) full h = absurd full
    unfound all (loaded e n ss t bs) full h =
        unfound-at all (e, Some (record { name = n; signatures = ss; below = t })) t bs (bytes_eq e.name name) h (unfound-in t full.1) (unfound all bs full.2)

    unfound-in : (t : TreeDoc) → IsFull t → is_role (seek_in name t) ≡ false → (is_among name (carriers_below t) ≡ false) × (first_named name (standing_in t) ≡ None)
    unfound-in (tree o bs) full h = unfound (keys_or_none o.keys, bs) bs full h

  -- ---- what is found stands in delegations, and has a document after it got one

  first-at : (all d : DelegationsTree) (t : TreeDoc) (bs : Branches) (c : Bool) → is_role (seek_in name t) ≡ c → first_named name (standing_in t ++ standing all bs) ≡ Some d
      → (is_role (seek_in name t) ≡ true → (x : DelegationsTree) × (first_named name (standing_in t) ≡ Some x)) → c ≡ true → first_named name (standing_in t) ≡ Some d
  first-at all d t bs c is h f there =
      let x = f (is ∙ there) in
      x.1 ∙ (sym (first-append (λ n. bytes_eq n name) (standing_in t) (standing all bs) x.0 x.1) ∙ h)

  stands-next : (all : DelegationsTree) (t : TreeDoc) (bs : Branches) (c : Bool) → is_role (seek_in name t) ≡ c → is_role (or_next (if_found (seek_in name t)) (seek name bs)) ≡ true
      → (is_role (seek_in name t) ≡ true → (x : DelegationsTree) × (first_named name (standing_in t) ≡ Some x))
      → (is_role (seek name bs) ≡ true → (x : DelegationsTree) × (first_named name (standing all bs) ≡ Some x))
      → (x : DelegationsTree) × (first_named name (standing_in t ++ standing all bs) ≡ Some x)
  stands-next all t bs true is h f g = let x = f is in (x.0, first-append (λ n. bytes_eq n name) (standing_in t) (standing all bs) x.0 x.1)
  stands-next all t bs false is h f g =
      let q = g (sym (ap is_role (missed-next (seek_in name t) (seek name bs) is)) ∙ h) in
      any-append (standing_in t) (standing all bs) q.0 q.1 where
        any-append : (xs ys : List (List ℕ × DelegationsTree)) (a : DelegationsTree) → first_named name ys ≡ Some a → (x : DelegationsTree) × (first_named name (xs ++ ys) ≡ Some x)
        any-append [] ys a h = (a, h)
        any-append (x ∷ xs) ys a h = at (bytes_eq x.0 name) (any-append xs ys a h) where
          at : (b : Bool) → (y : DelegationsTree) × (first_named name (xs ++ ys) ≡ Some y) → (y : DelegationsTree) × (cond b (Some x.1) (first_named name (xs ++ ys)) ≡ Some y)
          at true r = (x.1, refl)
          at false r = r

  stands-at : (all : DelegationsTree) (r : RoleTree) (t : TreeDoc) (bs : Branches) (b : Bool) → is_role (if b then found r else or_next (if_found (seek_in name t)) (seek name bs)) ≡ true
      → (is_role (seek_in name t) ≡ true → (x : DelegationsTree) × (first_named name (standing_in t) ≡ Some x))
      → (is_role (seek name bs) ≡ true → (x : DelegationsTree) × (first_named name (standing all bs) ≡ Some x))
      → (x : DelegationsTree) × (cond b (Some all) (first_named name (standing_in t ++ standing all bs)) ≡ Some x)
  stands-at all r t bs true h f g = (all, refl)
  stands-at all r t bs false h f g = stands-next all t bs (is_role (seek_in name t)) refl h f g

  stands-bare : (all : DelegationsTree) (e : Entry) (bs : Branches) (b : Bool) → is_role (if b then found (e, None) else undocumented) ≡ true → (x : DelegationsTree) × (cond b (Some all) (first_named name (standing all bs)) ≡ Some x)
  stands-bare all e bs true h = (all, refl)
  stands-bare all e bs false h = absurd (false≢true h)

  mutual
    stands : (all : DelegationsTree) (bs : Branches) → is_role (seek name bs) ≡ true → (x : DelegationsTree) × (first_named name (standing all bs) ≡ Some x)
    stands all no_branches h = absurd (false≢true h)
    stands all (unloaded e bs) h = stands-bare all e bs (bytes_eq e.name name) h
    stands all (loaded e n ss t bs) h = stands-at all (e, Some (record { name = n; signatures = ss; below = t })) t bs (bytes_eq e.name name) h (stands-in t) (stands all bs)

    stands-in : (t : TreeDoc) → is_role (seek_in name t) ≡ true → (x : DelegationsTree) × (first_named name (standing_in t) ≡ Some x)
    stands-in (tree o bs) h = stands (keys_or_none o.keys, bs) bs h

  -- ---- the tree with the document

  module _ (h : HeldDoc) where
    kept-bare : (e : Entry) (bs : Branches) (b : Bool) → entries_in (if b then put_branch (e, Some h) bs else unloaded e bs) ≡ e ∷ entries_in bs
    kept-bare e bs true = refl
    kept-bare e bs false = refl

    kept-loaded : (e : Entry) (n : List ℕ) (ss : List SignatureDoc) (t u : TreeDoc) (bs cs : Branches) (b c : Bool) → entries_in cs ≡ entries_in bs → entries_in (if b then put_branch (e, Some h) bs else (if c then loaded e n ss u bs else loaded e n ss t cs)) ≡ e ∷ entries_in bs
    kept-loaded e n ss t u bs cs true c k = refl
    kept-loaded e n ss t u bs cs false true k = refl
    kept-loaded e n ss t u bs cs false false k = ap (λ l. e ∷ l) k

    entries-kept : (bs : Branches) → entries_in (with_document_in name h bs) ≡ entries_in bs
    entries-kept no_branches = refl
    entries-kept (unloaded e bs) = kept-bare e bs (bytes_eq e.name name)
    entries-kept (loaded e n ss t bs) = kept-loaded e n ss t (with_document name h t) bs (with_document_in name h bs) (bytes_eq e.name name) (is_role (seek_in name t)) (entries-kept bs)

    has-bare : (e : Entry) (bs : Branches) (b : Bool) → bytes_eq e.name name ≡ b → is_role (if b then found (e, None) else undocumented) ≡ true → is_among name (carriers (if b then put_branch (e, Some h) bs else unloaded e bs)) ≡ true
    has-bare e bs true is r = ap (λ b. b || is_among name (carriers_below h.below ++ carriers bs)) is
    has-bare e bs false is r = absurd (false≢true r)

    has-loaded : (e : Entry) (n : List ℕ) (ss : List SignatureDoc) (t u : TreeDoc) (bs cs : Branches) (r : RoleTree) (b c : Bool) → bytes_eq e.name name ≡ b → is_role (seek_in name t) ≡ c → is_role (if b then found r else or_next (if_found (seek_in name t)) (seek name bs)) ≡ true
        → (is_role (seek_in name t) ≡ true → is_among name (carriers_below u) ≡ true) → (is_role (seek name bs) ≡ true → is_among name (carriers cs) ≡ true)
        → is_among name (carriers (if b then put_branch (e, Some h) bs else (if c then loaded e n ss u bs else loaded e n ss t cs))) ≡ true
    has-loaded e n ss t u bs cs r true c is inside k f g = ap (λ b. b || is_among name (carriers_below h.below ++ carriers bs)) is
    has-loaded e n ss t u bs cs r false true is inside k f g =
        or-true (bytes_eq e.name name) _ (among-append name (carriers_below u) (carriers bs) ∙ ap (λ b. b || is_among name (carriers bs)) (f inside))
    has-loaded e n ss t u bs cs r false false is inside k f g =
        or-true (bytes_eq e.name name) _ (among-append name (carriers_below t) (carriers cs) ∙ or-true (is_among name (carriers_below t)) (is_among name (carriers cs)) (g (sym (ap is_role (missed-next (seek_in name t) (seek name bs) inside)) ∙ k)))

    mutual
      has-name : (bs : Branches) → is_role (seek name bs) ≡ true → is_among name (carriers (with_document_in name h bs)) ≡ true
      has-name no_branches k = absurd (false≢true k)
      has-name (unloaded e bs) k = has-bare e bs (bytes_eq e.name name) refl k
      has-name (loaded e n ss t bs) k =
          has-loaded e n ss t (with_document name h t) bs (with_document_in name h bs) (e, Some (record { name = n; signatures = ss; below = t })) (bytes_eq e.name name) (is_role (seek_in name t)) refl refl k (has-name-in t) (has-name bs)

      has-name-in : (t : TreeDoc) → is_role (seek_in name t) ≡ true → is_among name (carriers_below (with_document name h t)) ≡ true
      has-name-in (tree o bs) k = has-name bs k

    -- ---- what holds of all but this document, and of it under the delegations that it was signed for, holds of all

    module _ (U : Relation) where
      -- the role has this name and stands in delegations, or else the relation holds
      abbrev pub Opened : Relation
      Opened g n p = ((n ≡ name) × (is_some g ≡ true)) ⊎ U g n p

      settled : (g : Option DelegationsDoc) (n : List ℕ) (p : SignedDoc TargetsDoc) → bytes_eq n name ≡ false → Opened g n p → U g n p
      settled g n p differs (inl k) = absurd (true≢false (sym ((bytes_eq-Decides n name).1 k.0) ∙ differs))
      settled g n p differs (inr k) = k

      mutual
        free : (g : Option DelegationsDoc) (bs : Branches) → is_among name (carriers bs) ≡ false → Under Opened g bs → Under U g bs
        free g no_branches out k = tt
        free g (unloaded e bs) out k = free g bs out k
        free g (loaded e n ss t bs) out k =
            let p = or-false (bytes_eq e.name name) (is_among name (carriers_below t ++ carriers bs)) out in
            let q = neither name (carriers_below t) (carriers bs) p.1 in
            (settled g e.name (record { role = top_doc t; signatures = ss }) p.0 k.0, free-in t q.0 k.1, free g bs q.1 k.2)

        free-in : (t : TreeDoc) → is_among name (carriers_below t) ≡ false → Below Opened t → Below U t
        free-in (tree o bs) out k = free (top_doc (tree o bs)).delegations bs out k

      abbrev IsSigned : DelegationsTree → Type 0
      IsSigned d = U (Some (delegations_top d)) name (page_of h)

      abbrev Fits : Option DelegationsDoc → DelegationsTree → Type 0
      Fits g all = is_some g ≡ true → g ≡ Some (delegations_top all)

      placed-head : (g : Option DelegationsDoc) (all d : DelegationsTree) (n : List ℕ) → Some all ≡ Some d → IsSigned d → Fits g all → Opened g n (page_of h) → U g n (page_of h)
      placed-head g all d n first s fits (inl k) =
          let same : all ≡ d = some-inj first in
          let g-is : g ≡ Some (delegations_top d) = fits k.1 ∙ ap (λ (x : DelegationsTree). Some (delegations_top x)) same in
          subst (λ (x : List ℕ). U g x (page_of h)) (sym k.0) (subst (λ (x : Option DelegationsDoc). U x name (page_of h)) (sym g-is) s)
      placed-head g all d n first s fits (inr k) = k

      placed : (g : Option DelegationsDoc) (all d : DelegationsTree) (e : Entry) (bs : Branches) → bytes_eq e.name name ≡ true → Some all ≡ Some d → IsSigned d → Fits g all
          → Distinct (carriers (put_branch (e, Some h) bs)) → Under Opened g (put_branch (e, Some h) bs) → Under U g (put_branch (e, Some h) bs)
      placed g all d e bs is first s fits once k =
          let out = neither name (carriers_below h.below) (carriers bs) (subst (λ (m : List ℕ). is_among m (carriers_below h.below ++ carriers bs) ≡ false) (equal e.name name is) once.0) in
          (placed-head g all d e.name first s fits k.0, free-in h.below out.0 k.1, free g bs out.1 k.2)

      put-bare : (g : Option DelegationsDoc) (all d : DelegationsTree) (e : Entry) (bs : Branches) (b : Bool) → bytes_eq e.name name ≡ b → is_role (if b then found (e, None) else undocumented) ≡ true
          → cond b (Some all) (first_named name (standing all bs)) ≡ Some d → IsSigned d → Fits g all
          → Distinct (carriers (if b then put_branch (e, Some h) bs else unloaded e bs)) → Under Opened g (if b then put_branch (e, Some h) bs else unloaded e bs) → Under U g (if b then put_branch (e, Some h) bs else unloaded e bs)
      put-bare g all d e bs true is r first s fits once k = placed g all d e bs is first s fits once k
      put-bare g all d e bs false is r first s fits once k = absurd (false≢true r)

      put-loaded : (g : Option DelegationsDoc) (all d : DelegationsTree) (e : Entry) (n : List ℕ) (ss : List SignatureDoc) (t : TreeDoc) (bs : Branches) (r : RoleTree) (b c : Bool)
          → bytes_eq e.name name ≡ b → is_role (seek_in name t) ≡ c → is_role (if b then found r else or_next (if_found (seek_in name t)) (seek name bs)) ≡ true
          → cond b (Some all) (first_named name (standing_in t ++ standing all bs)) ≡ Some d → IsSigned d → Fits g all
          → (let new = if b then put_branch (e, Some h) bs else (if c then loaded e n ss (with_document name h t) bs else loaded e n ss t (with_document_in name h bs)) in
          AreFull new → Distinct (carriers new) → Under Opened g new
          → ((x : DelegationsTree) → is_role (seek_in name t) ≡ true → first_named name (standing_in t) ≡ Some x → IsSigned x → IsFull (with_document name h t) → Distinct (carriers_below (with_document name h t)) → Below Opened (with_document name h t) → Below U (with_document name h t))
          → (is_role (seek name bs) ≡ true → first_named name (standing all bs) ≡ Some d → AreFull (with_document_in name h bs) → Distinct (carriers (with_document_in name h bs)) → Under Opened g (with_document_in name h bs) → Under U g (with_document_in name h bs))
          → Under U g new)
      put-loaded g all d e n ss t bs r true c is inside there first s fits full once k below rest = placed g all d e bs is first s fits once k
      put-loaded g all d e n ss t bs r false true is inside there first s fits full once k below rest =
          let new = with_document name h t in (
            settled g e.name (record { role = top_doc new; signatures = ss }) is k.0,
            below d inside (first-at all d t bs true inside first (stands-in t) refl) s full.1 (distinct-left (carriers_below new) (carriers bs) once.1) k.1,
            free g bs (other-side name (carriers_below new) (carriers bs) once.1 (has-name-in t inside)) k.2,
          )
      put-loaded g all d e n ss t bs r false false is inside there first s fits full once k below rest =
          let new = with_document_in name h bs in
          let out = unfound-in t full.1 inside in (
            settled g e.name (record { role = top_doc t; signatures = ss }) is k.0,
            free-in t out.0 k.1,
            rest (sym (ap is_role (missed-next (seek_in name t) (seek name bs) inside)) ∙ there) (sym (none-append (λ m. bytes_eq m name) (standing_in t) (standing all bs) out.1) ∙ first) full.2 (distinct-right (carriers_below t) (carriers new) once.1) k.2,
          )

      fits-put : (o : Option (List (Spelled × KeyDoc))) (bs cs : Branches) → entries_in cs ≡ entries_in bs → is_some (option_map (λ ks. let x : DelegationsDoc = record { keys = ks; roles = entries_in cs } in x) o) ≡ true
          → option_map (λ ks. let x : DelegationsDoc = record { keys = ks; roles = entries_in cs } in x) o ≡ Some (delegations_top (keys_or_none o, bs))
      fits-put None bs cs k some = absurd (false≢true some)
      fits-put (Some ks) bs cs k some = ap (λ (es : List Entry). let x : DelegationsDoc = record { keys = ks; roles = es } in Some x) k

      mutual
        put-under : (g : Option DelegationsDoc) (all d : DelegationsTree) (bs : Branches) → is_role (seek name bs) ≡ true → first_named name (standing all bs) ≡ Some d → IsSigned d → Fits g all
            → AreFull (with_document_in name h bs) → Distinct (carriers (with_document_in name h bs)) → Under Opened g (with_document_in name h bs) → Under U g (with_document_in name h bs)
        put-under g all d no_branches there first s fits full once k = absurd (false≢true there)
        put-under g all d (unloaded e bs) there first s fits full once k = put-bare g all d e bs (bytes_eq e.name name) refl there first s fits once k
        put-under g all d (loaded e n ss t bs) there first s fits full once k =
            put-loaded g all d e n ss t bs (e, Some (record { name = n; signatures = ss; below = t })) (bytes_eq e.name name) (is_role (seek_in name t)) refl refl there first s fits full once k
            (λ x a b y f o u. put-below t x a b y f o u) (λ a b f o u. put-under g all d bs a b s fits f o u)

        pub put-below : (t : TreeDoc) (d : DelegationsTree) → is_role (seek_in name t) ≡ true → first_named name (standing_in t) ≡ Some d → IsSigned d
            → IsFull (with_document name h t) → Distinct (carriers_below (with_document name h t)) → Below Opened (with_document name h t) → Below U (with_document name h t)
        put-below (tree o bs) d there first s full once k =
            put-under (top_doc (tree o (with_document_in name h bs))).delegations (keys_or_none o.keys, bs) d bs there first s (fits-put o.keys bs (with_document_in name h bs) (entries-kept bs)) full once k
