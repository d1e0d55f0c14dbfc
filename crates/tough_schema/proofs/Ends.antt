-- Where a search stops, over lists of occurrences.
use Rattle.std.proofs.Common.{◌≡◌, ℕ, zero, suc, ◌+◌, ◌<◌, ◌≤◌, List, [], ◌∷◌, ◌++◌, length, Bool, true, false, ◌&&◌, Option, Some, None, refl, ap, arith, if◌then◌else◌, filter, length-append}
use Rattle.std.proofs.lemmas.Bool.{lt-ltb, le-ltb}
use Rattle.tough_schema.specs.Whole.{TreeDoc, tree, Branches, no_branches, unloaded, loaded}
use Rattle.tough_schema.specs.Preorder.{Occurrence, stop, preorder, preorder_below}
use Rattle.tough_schema.specs.Search.{Names, is_new, add, reached_from, earlier, first_end, is_before, searched}
use Rattle.tough_schema.specs.Found.{last_end}
use Rattle.tough_schema.specs.Visited.{ends}
use Rattle.tough_names.specs.Named.{Named}

-- the places of these entries and the ends of their subtrees are between a and b
abbrev pub Within : ℕ → ℕ → List Occurrence → Type 0
Within a b [] = Unit {0}
Within a b (o ∷ os) = (a ≤ o.start) × (stop o ≤ b) × Within a b os

pub within-append : (a b : ℕ) (xs ys : List Occurrence) → Within a b xs → Within a b ys → Within a b (xs ++ ys)
within-append a b [] ys x y = y
within-append a b (o ∷ xs) ys x y = (x.0, x.1, within-append a b xs ys x.2 y)

pub within-weaker : (a b c d : ℕ) (xs : List Occurrence) → c ≤ a → b ≤ d → Within a b xs → Within c d xs
within-weaker a b c d [] l h x = tt
within-weaker a b c d (o ∷ xs) l h x = (omega (arith, x.0), omega (arith, x.1), within-weaker a b c d xs l h x.2)

pub within-cond : (a b : ℕ) (t : Bool) (xs ys : List Occurrence) → Within a b xs → Within a b ys → Within a b (if t then xs else ys)
within-cond a b true xs ys x y = x
within-cond a b false xs ys x y = y

pub within-reached : (a b : ℕ) (name : Named) (skip : ℕ) (seen : Names) (xs : List Occurrence) → Within a b xs → Within a b (reached_from name skip seen xs)
within-reached a b name skip seen [] x = tt
within-reached a b name (suc skip) seen (o ∷ xs) x = within-reached a b name skip seen xs x.2
within-reached a b name zero seen (o ∷ xs) x =
    within-cond a b (is_new name seen o.role.0) (o ∷ reached_from name zero (add o.role.0.name seen) xs) (reached_from name o.below seen xs)
    (x.0, x.1, within-reached a b name zero (add o.role.0.name seen) xs x.2) (within-reached a b name o.below seen xs x.2)

mutual
  pub within-preorder : (k : ℕ) (bs : Branches) → Within k (k + length (preorder k bs)) (preorder k bs)
  within-preorder k no_branches = tt
  within-preorder k (unloaded e bs) = (omega arith, omega arith, within-weaker (k + 1) (k + 1 + length (preorder (k + 1) bs)) k (k + length (preorder k (unloaded e bs))) (preorder (k + 1) bs) (omega arith) (omega arith) (within-preorder (k + 1) bs))
  within-preorder k (loaded e n signatures t bs) =
      let inside = preorder_below (k + 1) t in
      let rest = preorder (k + 1 + length inside) bs in
      let size = length-append inside rest in (
        omega arith,
        omega (arith, size),
        within-append k (k + suc (length (inside ++ rest))) inside rest (within-weaker (k + 1) (k + 1 + length inside) k (k + suc (length (inside ++ rest))) inside (omega arith) (omega (arith, size)) (within-below (k + 1) t))
            (within-weaker (k + 1 + length inside) (k + 1 + length inside + length rest) k (k + suc (length (inside ++ rest))) rest (omega arith) (omega (arith, size)) (within-preorder (k + 1 + length inside) bs)),
      )

  pub within-below : (k : ℕ) (t : TreeDoc) → Within k (k + length (preorder_below k t)) (preorder_below k t)
  within-below k (tree o bs) = within-preorder k bs

-- ---- the first end

-- where the search stops: a permissive one does not
abbrev pub end_of : Bool → List Occurrence → Option ℕ
end_of permissive [] = None
end_of permissive (o ∷ os) = if ends permissive o.role.0 then earlier (stop o) (end_of permissive os) else end_of permissive os

-- an end is after the first place, and not after the last end
abbrev pub IsEndWithin : ℕ → ℕ → Option ℕ → Type 0
IsEndWithin a b None = Unit {0}
IsEndWithin a b (Some m) = (a < m) × (m ≤ b)

end-earlier : (a b k : ℕ) (q : Option ℕ) → a < k → k ≤ b → IsEndWithin a b q → IsEndWithin a b (earlier k q)
end-earlier a b k None l h x = (l, h)
end-earlier a b k (Some m) l h x = (omega (arith, x.0), omega (arith, x.1))

end-within-at : (t : Bool) (a b k : ℕ) (q : Option ℕ) → a < k → k ≤ b → IsEndWithin a b q → IsEndWithin a b (if t then earlier k q else q)
end-within-at true a b k q l h x = end-earlier a b k q l h x
end-within-at false a b k q l h x = x

pub end-within : (permissive : Bool) (a b : ℕ) (xs : List Occurrence) → Within a b xs → IsEndWithin a b (end_of permissive xs)
end-within permissive a b [] x = tt
end-within permissive a b (o ∷ xs) x = end-within-at (ends permissive o.role.0) a b (stop o) (end_of permissive xs) (omega (arith, x.0)) x.1 (end-within permissive a b xs x.2)

-- ---- what is before the end

pub filter-keeps : (a b m : ℕ) (xs : List Occurrence) → Within a b xs → b ≤ m → filter (is_before (Some m)) xs ≡ xs
filter-keeps a b m [] x h = refl
filter-keeps a b m (o ∷ xs) x h = rw (lt-ltb o.start m (omega (arith, x.1))) (ap (λ (l : List Occurrence). o ∷ l) (filter-keeps a b m xs x.2 h))

pub filter-drops : (a b m : ℕ) (xs : List Occurrence) → Within a b xs → m ≤ a → filter (is_before (Some m)) xs ≡ []
filter-drops a b m [] x h = refl
filter-drops a b m (o ∷ xs) x h = rw (le-ltb o.start m (omega (arith, x.0))) (filter-drops a b m xs x.2 h)

pub filter-all : (xs : List Occurrence) → filter (is_before None) xs ≡ xs
filter-all [] = refl
filter-all (o ∷ xs) = ap (λ (l : List Occurrence). o ∷ l) (filter-all xs)

-- what is before the end
abbrev pub before_end : Bool → List Occurrence → List Occurrence
before_end permissive xs = filter (is_before (end_of permissive xs)) xs

-- ---- the definition's own words

end_of-permissive : (xs : List Occurrence) → end_of true xs ≡ None
end_of-permissive [] = refl
end_of-permissive (o ∷ xs) = elim o.role.0.terminating as (λ (b : Bool). (if b && false then earlier (stop o) (end_of true xs) else end_of true xs) ≡ None) [ true ↦ end_of-permissive xs | false ↦ end_of-permissive xs ]

end_of-strict : (xs : List Occurrence) → end_of false xs ≡ first_end xs
end_of-strict [] = refl
end_of-strict (o ∷ xs) = rw (end_of-strict xs) (elim o.role.0.terminating as (λ (b : Bool). (if b && true then earlier (stop o) (first_end xs) else first_end xs) ≡ (if b then earlier (stop o) (first_end xs) else first_end xs)) [ true ↦ refl | false ↦ refl ])

pub end_of-last : (permissive : Bool) (xs : List Occurrence) → end_of permissive xs ≡ last_end permissive xs
end_of-last true xs = end_of-permissive xs
end_of-last false xs = end_of-strict xs

pub before_end-searched : (permissive : Bool) (xs : List Occurrence) → before_end permissive xs ≡ searched permissive xs
before_end-searched true xs = rw (end_of-permissive xs) (filter-all xs)
before_end-searched false xs = rw (end_of-strict xs) refl
