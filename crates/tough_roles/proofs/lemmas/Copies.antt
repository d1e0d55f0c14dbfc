-- A copy of a list has the documents of the list.
use Rattle.std.proofs.Common.{◌≡◌, List, [], ◌∷◌, map, refl, ap, ◌∙◌}
use Rattle.std.specs.List.{AllZip}

-- each item has the document of the one that it was copied from
pub same_docs : {X Y : Type 0} (doc : X → Y) (R : X → X → Type 0) → ((x y : X) → R x y → doc y ≡ doc x) → (xs ys : List X) → AllZip R xs ys → map doc ys ≡ map doc xs
same_docs doc R h [] [] z = refl
same_docs doc R h [] (y ∷ ys) z = absurd z
same_docs doc R h (x ∷ xs) [] z = absurd z
same_docs doc R h (x ∷ xs) (y ∷ ys) z = ap (λ d. d ∷ map doc ys) (h x y z.0) ∙ ap (λ ds. doc x ∷ ds) (same_docs doc R h xs ys z.1)

-- the same of the entries of a map
pub same_entries : {K X L Y : Type 0} (key : K → L) (doc : X → Y) (xs ys : List (K × X)) → AllZip (λ p q. (key q.0 ≡ key p.0) × (doc q.1 ≡ doc p.1)) xs ys → map {B = L × Y} (λ e. (key e.0, doc e.1)) ys ≡ map {B = L × Y} (λ e. (key e.0, doc e.1)) xs
same_entries {K} {X} {L} {Y} key doc xs ys z =
    let e : K × X → L × Y = λ p. (key p.0, doc p.1) in
    same_docs e (λ p q. (key q.0 ≡ key p.0) × (doc q.1 ≡ doc p.1)) (λ x y h. ap (λ k. (k, doc y.1)) h.0 ∙ ap (λ d. (key x.0, d)) h.1) xs ys z
