-- A tree is valid where no listed name is missing.
use Rattle.std.proofs.Common.{◌≡◌, ◌↔◌, List, [], ◌∷◌, Bool, true, false, not, cond, Option, Some, None, refl}
use Rattle.std.specs.List.{AllByRecursion, find}
use Rattle.tough_schema.specs.Whole.{TreeDoc}
use Rattle.tough_schema.specs.Entries.{listed_names, is_found, first_missing, IsValid}

all-at : {A : Type 0} (b : Bool) (x : A) (rest : Option A) (All : Type 0) → (All ↔ (rest ≡ None)) → ((b ≡ true) × All) ↔ (cond (not b) (Some x) rest ≡ None)
all-at true x rest All (there, back) = (λ h. there h.1, λ h. (refl, back h))
all-at false x rest All (there, back) = (λ h. cc, λ h. cc)

all-pass : {A : Type 0} (test : A → Bool) (xs : List A) → AllByRecursion (λ x. test x ≡ true) xs ↔ (find (λ x. not (test x)) xs ≡ None)
all-pass test [] = (λ h. refl, λ h. tt)
all-pass test (x ∷ xs) = all-at (test x) x (find (λ y. not (test y)) xs) (AllByRecursion (λ y. test y ≡ true) xs) (all-pass test xs)

pub valid-missing : (t : TreeDoc) → IsValid t ↔ (first_missing t ≡ None)
valid-missing t = all-pass (is_found t) (listed_names t)
