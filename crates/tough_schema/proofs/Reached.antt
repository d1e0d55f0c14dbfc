-- What is reached of roles, one run after another.
use Rattle.std.proofs.Common.{◌≡◌, ℕ, ◌+◌, List, [], ◌∷◌, ◌++◌, length, Bool, true, false, Some, None, refl, sym, ap, append_assoc}
use Rattle.tough_schema.specs.Whole.{TreeDoc, tree, Branches, no_branches, unloaded, loaded}
use Rattle.tough_schema.specs.Preorder.{Occurrence, preorder, preorder_below}
use Rattle.tough_schema.specs.Search.{Names, add, is_new, reached_from}
use Rattle.tough_names.specs.Named.{Named}

-- the names after these entries were reached
abbrev pub names_after : Names → List Occurrence → Names
names_after seen [] = seen
names_after seen (o ∷ os) = names_after (add o.role.0.name seen) os

pub names_after-append : (seen : Names) (xs ys : List Occurrence) → names_after seen (xs ++ ys) ≡ names_after (names_after seen xs) ys
names_after-append seen [] ys = refl
names_after-append seen (x ∷ xs) ys = names_after-append (add x.role.0.name seen) xs ys

pub skip_all : (name : Named) (seen : Names) (xs ys : List Occurrence) → reached_from name (length xs) seen (xs ++ ys) ≡ reached_from name 0 seen ys
skip_all name seen [] ys = refl
skip_all name seen (x ∷ xs) ys = skip_all name seen xs ys

skip_exactly : (name : Named) (seen : Names) (xs : List Occurrence) → reached_from name (length xs) seen xs ≡ []
skip_exactly name seen [] = refl
skip_exactly name seen (x ∷ xs) = skip_exactly name seen xs

pub step-new : (name : Named) (seen : Names) (o : Occurrence) (os : List Occurrence) → is_new name seen o.role.0 ≡ true → reached_from name 0 seen (o ∷ os) ≡ o ∷ reached_from name 0 (add o.role.0.name seen) os
step-new name seen o os h = rw h refl

pub step-old : (name : Named) (seen : Names) (o : Occurrence) (os : List Occurrence) → is_new name seen o.role.0 ≡ false → reached_from name 0 seen (o ∷ os) ≡ reached_from name o.below seen os
step-old name seen o os h = rw h refl

-- whatever follows xs: first what is reached of xs, and then what is reached of what follows
pub record Splits (name : Named) (xs : List Occurrence) : Type 0 where
  pub always : (seen : Names) (ys : List Occurrence) → reached_from name 0 seen (xs ++ ys) ≡ reached_from name 0 seen xs ++ reached_from name 0 (names_after seen (reached_from name 0 seen xs)) ys

pub splits-nil : (name : Named) → Splits name []
splits-nil name = record { always = λ seen ys. refl }

splits-append : (name : Named) (xs zs : List Occurrence) → Splits name xs → Splits name zs → Splits name (xs ++ zs)
splits-append name xs zs x z = record {
  always = λ seen ys.
      let first = reached_from name 0 seen xs in
      let second = reached_from name 0 (names_after seen first) zs in
      rw (append_assoc xs zs ys, x.always seen (zs ++ ys), z.always (names_after seen first) ys, x.always seen zs, names_after-append seen first second) (sym (append_assoc first second (reached_from name 0 (names_after (names_after seen first) second) ys)));
}

splits-subtree-at : (name : Named) (o : Occurrence) (inside : List Occurrence) → o.below ≡ length inside → Splits name inside → (seen : Names) (ys : List Occurrence) (b : Bool) → is_new name seen o.role.0 ≡ b
    → reached_from name 0 seen (o ∷ (inside ++ ys)) ≡ reached_from name 0 seen (o ∷ inside) ++ reached_from name 0 (names_after seen (reached_from name 0 seen (o ∷ inside))) ys
splits-subtree-at name o inside size i seen ys true h =
    rw (step-new name seen o (inside ++ ys) h, step-new name seen o inside h) (ap (λ (l : List Occurrence). o ∷ l) (i.always (add o.role.0.name seen) ys))
splits-subtree-at name o inside size i seen ys false h =
    rw (step-old name seen o (inside ++ ys) h, step-old name seen o inside h, size, skip_all name seen inside ys, skip_exactly name seen inside) refl

splits-subtree : (name : Named) (o : Occurrence) (inside : List Occurrence) → o.below ≡ length inside → Splits name inside → Splits name (o ∷ inside)
splits-subtree name o inside size i = record { always = λ seen ys. splits-subtree-at name o inside size i seen ys (is_new name seen o.role.0) refl }

mutual
  pub splits : (name : Named) (k : ℕ) (bs : Branches) → Splits name (preorder k bs)
  splits name k no_branches = splits-nil name
  splits name k (unloaded e bs) = splits-append name (record { role = (e, None); start = k; below = 0 } ∷ []) (preorder (k + 1) bs) (splits-subtree name (record { role = (e, None); start = k; below = 0 }) [] refl (splits-nil name)) (splits name (k + 1) bs)
  splits name k (loaded e n signatures t bs) =
      let inside = preorder_below (k + 1) t in
      let o : Occurrence = record { role = (e, Some (record { name = n; signatures = signatures; below = t })); start = k; below = length inside } in
      splits-append name (o ∷ inside) (preorder (k + 1 + length inside) bs) (splits-subtree name o inside refl (splits_below name (k + 1) t)) (splits name (k + 1 + length inside) bs)

  pub splits_below : (name : Named) (k : ℕ) (t : TreeDoc) → Splits name (preorder_below k t)
  splits_below name k (tree o bs) = splits name k bs
