-- What holds of each document of a tree.
use Rattle.std.proofs.Common.{◌≡◌, ℕ, ◌+◌, List, [], ◌∷◌, ◌++◌, map, length, Option, Some, None, inl, inr, refl, sym, ap, ap₂, subst, ◌∙◌}
use Rattle.std.proofs.lemmas.List.{map-append}
use Rattle.std.specs.List.{AllByRecursion}
use Rattle.tough_roles.specs.Reaches.{IsAmong}
use Rattle.tough_schema.specs.Tree.{Entry}
use Rattle.tough_schema.specs.Delegations.{DelegationsDoc}
use Rattle.tough_schema.specs.Whole.{TreeDoc, tree, Branches, no_branches, unloaded, loaded, HeldDoc, RoleTree, top_doc}
use Rattle.tough_schema.specs.Fresh.{carriers, carriers_below}
use Rattle.tough_schema.specs.Preorder.{Occurrence, preorder, preorder_below}
use Rattle.tough_schema.specs.Entries.{entries}
use Rattle.tough_update.specs.growth.Full.{AreFull, IsFull}
use Rattle.tough_update.specs.growth.Under.{page_of, Relation, Under, Below}

-- ---- lists

pub all-append : {X : Type 0} (P : X → Type 0) (xs ys : List X) → AllByRecursion P xs → AllByRecursion P ys → AllByRecursion P (xs ++ ys)
all-append P [] ys a b = b
all-append P (x ∷ xs) ys a b = (a.0, all-append P xs ys a.1 b)

pub among-left : {X : Type 0} (x : X) (xs ys : List X) → IsAmong x xs → IsAmong x (xs ++ ys)
among-left x [] ys h = absurd h
among-left x (y ∷ xs) ys (inl h) = inl h
among-left x (y ∷ xs) ys (inr h) = inr (among-left x xs ys h)

pub among-right : {X : Type 0} (x : X) (xs ys : List X) → IsAmong x ys → IsAmong x (xs ++ ys)
among-right x [] ys h = h
among-right x (y ∷ xs) ys h = inr (among-right x xs ys h)

-- ---- relations between documents

module _ (A B : Relation) (f : (g : Option DelegationsDoc) (n : List ℕ) (p : _) → A g n p → B g n p) where
  mutual
    pub weaker-under : (g : Option DelegationsDoc) (bs : Branches) → Under A g bs → Under B g bs
    weaker-under g no_branches h = tt
    weaker-under g (unloaded e bs) h = weaker-under g bs h
    weaker-under g (loaded e n ss t bs) h = (f g e.name (page_of (record { name = n; signatures = ss; below = t })) h.0, weaker-below t h.1, weaker-under g bs h.2)

    pub weaker-below : (t : TreeDoc) → Below A t → Below B t
    weaker-below (tree o bs) h = weaker-under (top_doc (tree o bs)).delegations bs h

module _ (A B : Relation) where
  abbrev pub Both : Relation
  Both g n p = A g n p × B g n p

  mutual
    pub both-under : (g : Option DelegationsDoc) (bs : Branches) → Under A g bs → Under B g bs → Under Both g bs
    both-under g no_branches h k = tt
    both-under g (unloaded e bs) h k = both-under g bs h k
    both-under g (loaded e n ss t bs) h k = ((h.0, k.0), both-below t h.1 k.1, both-under g bs h.2 k.2)

    pub both-below : (t : TreeDoc) → Below A t → Below B t → Below Both t
    both-below (tree o bs) h k = both-under (top_doc (tree o bs)).delegations bs h k

-- what holds of the delegations of the top document and of each below it holds of those that each role stands in
module _ (P : Option DelegationsDoc → Type 0) where
  mutual
    stands-under : (g : Option DelegationsDoc) (bs : Branches) → P g → Under (λ d n p. P p.role.delegations) g bs → Under (λ d n p. P d) g bs
    stands-under g no_branches top h = tt
    stands-under g (unloaded e bs) top h = stands-under g bs top h
    stands-under g (loaded e n ss t bs) top h = (top, stands-below t h.0 h.1, stands-under g bs top h.2)

    pub stands-below : (t : TreeDoc) → P (top_doc t).delegations → Below (λ d n p. P p.role.delegations) t → Below (λ d n p. P d) t
    stands-below (tree o bs) top h = stands-under (top_doc (tree o bs)).delegations bs top h

-- ---- the roles in preorder

roles_in : ℕ → Branches → List RoleTree
roles_in k bs = map (λ o. o.role) (preorder k bs)

-- what holds of the role's document, if it has one
abbrev pub OfDocument : (List ℕ → HeldDoc → Type 0) → RoleTree → Type 0
OfDocument P (e, None) = Unit {0}
OfDocument P (e, Some h) = P e.name h

module _ (Q : List ℕ → HeldDoc → Type 0) (U : Relation) (f : (g : Option DelegationsDoc) (n : List ℕ) (h : HeldDoc) → U g n (page_of h) → Q n h) where
  mutual
    all-under : (k : ℕ) (g : Option DelegationsDoc) (bs : Branches) → Under U g bs → AllByRecursion (OfDocument Q) (map (λ o. o.role) (preorder k bs))
    all-under k g no_branches h = tt
    all-under k g (unloaded e bs) h = (tt, all-under (k + 1) g bs h)
    all-under k g (loaded e n ss t bs) h =
        let inside = preorder_below (k + 1) t in
        let rest = preorder (k + 1 + length inside) bs in (
          f g e.name (record { name = n; signatures = ss; below = t }) h.0,
          subst (AllByRecursion (OfDocument Q)) (sym (map-append (λ (o : Occurrence). o.role) inside rest))
              (all-append (OfDocument Q) (map (λ o. o.role) inside) (map (λ o. o.role) rest) (all-in (k + 1) t h.1) (all-under (k + 1 + length inside) g bs h.2)),
        )

    all-in : (k : ℕ) (t : TreeDoc) → Below U t → AllByRecursion (OfDocument Q) (map (λ o. o.role) (preorder_below k t))
    all-in k (tree o bs) h = all-under k (top_doc (tree o bs)).delegations bs h

  pub all-entries : (t : TreeDoc) → Below U t → AllByRecursion (OfDocument Q) (entries t)
  all-entries t h = all-in 0 t h

-- what holds of each document in preorder holds below
module _ (U : Relation) (Q : Entry → HeldDoc → Type 0) (f : (g : Option DelegationsDoc) (e : Entry) (h : HeldDoc) → h.name ≡ e.name → Q e h → U g e.name (page_of h)) where
  mutual
    under-all : (k : ℕ) (g : Option DelegationsDoc) (bs : Branches) → AreFull bs → ((e : Entry) (h : HeldDoc) → IsAmong (e, Some h) (map (λ o. o.role) (preorder k bs)) → Q e h) → Under U g bs
    under-all k g no_branches full q = tt
    under-all k g (unloaded e bs) full q = absurd full
    under-all k g (loaded e n ss t bs) full q =
        let inside = preorder_below (k + 1) t in
        let rest = preorder (k + 1 + length inside) bs in
        let whole = map-append (λ (o : Occurrence). o.role) inside rest in
        let held : HeldDoc = record { name = n; signatures = ss; below = t } in (
          f g e held full.0 (q e held (inl refl)),
          below-all (k + 1) t full.1 (λ d h i. q d h (inr (subst (IsAmong (d, Some h)) (sym whole) (among-left (d, Some h) (map (λ o. o.role) inside) (map (λ o. o.role) rest) i)))),
          under-all (k + 1 + length inside) g bs full.2 (λ d h i. q d h (inr (subst (IsAmong (d, Some h)) (sym whole) (among-right (d, Some h) (map (λ o. o.role) inside) (map (λ o. o.role) rest) i)))),
        )

    below-all : (k : ℕ) (t : TreeDoc) → IsFull t → ((e : Entry) (h : HeldDoc) → IsAmong (e, Some h) (map (λ o. o.role) (preorder_below k t)) → Q e h) → Below U t
    below-all k (tree o bs) full q = under-all k (top_doc (tree o bs)).delegations bs full q

  pub below-entries : (t : TreeDoc) → IsFull t → ((e : Entry) (h : HeldDoc) → IsAmong (e, Some h) (entries t) → Q e h) → Below U t
  below-entries t full q = below-all 0 t full q

-- ---- the names of the roles that have a document

abbrev pub named_in : List RoleTree → List (List ℕ)
named_in [] = []
named_in ((e, None) ∷ rs) = named_in rs
named_in ((e, Some h) ∷ rs) = e.name ∷ named_in rs

named-append : (xs ys : List RoleTree) → named_in (xs ++ ys) ≡ named_in xs ++ named_in ys
named-append [] ys = refl
named-append ((e, None) ∷ xs) ys = named-append xs ys
named-append ((e, Some h) ∷ xs) ys = ap (λ l. e.name ∷ l) (named-append xs ys)

mutual
  named-under : (k : ℕ) (bs : Branches) → named_in (map (λ o. o.role) (preorder k bs)) ≡ carriers bs
  named-under k no_branches = refl
  named-under k (unloaded e bs) = named-under (k + 1) bs
  named-under k (loaded e n ss t bs) =
      let inside = preorder_below (k + 1) t in
      let rest = preorder (k + 1 + length inside) bs in
      ap (λ l. e.name ∷ l)
      (ap named_in (map-append (λ (o : Occurrence). o.role) inside rest) ∙ named-append (map (λ o. o.role) inside) (map (λ o. o.role) rest) ∙ ap₂ (λ x y. x ++ y) (named-below (k + 1) t) (named-under (k + 1 + length inside) bs))

  named-below : (k : ℕ) (t : TreeDoc) → named_in (map (λ o. o.role) (preorder_below k t)) ≡ carriers_below t
  named-below k (tree o bs) = named-under k bs

pub named-entries : (t : TreeDoc) → named_in (entries t) ≡ carriers_below t
named-entries t = named-below 0 t
