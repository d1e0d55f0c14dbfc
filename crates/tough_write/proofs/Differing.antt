-- Digests that are compared: what is so, and what is told, where they differ and where they don't.
use Rattle.std.proofs.Common.{◌≡◌, ◌≢◌, ℕ, List, Option, Some, Bool, true, false, not, refl, sym, ◌∙◌, subst}
use Rattle.std.specs.Prelude.{IsSomeAnd}
use Rattle.std.specs.Str.{bytes_eq}
use Rattle.std.proofs.lemmas.Slice.Eq.{bytes_eq-Decides}
use Rattle.tough_write.specs.declared.error.OutputError.{OutputError}
use Rattle.tough_write.specs.Errors.{TellsMismatch}

told-false : (b : Bool) → true ≡ not b → b ≡ false
told-false true h = cc
told-false false h = refl

told-true : (b : Bool) → false ≡ not b → b ≡ true
told-true true h = refl
told-true false h = cc

module _ (x y a b : List ℕ) (first : a ≡ x) (second : b ≡ y) where
  pub differ : true ≡ not (bytes_eq a b) → x ≢ y
  differ told same = let other = told-false (bytes_eq a b) told in let equal = (bytes_eq-Decides a b).1 (first ∙ (same ∙ sym second)) in cc

  pub agree : false ≡ not (bytes_eq a b) → x ≡ y
  agree told = sym first ∙ ((bytes_eq-Decides a b).0 (told-true (bytes_eq a b) told) ∙ second)

  pub tells : (context : List ℕ) (e : OutputError) → TellsMismatch context a b e → TellsMismatch context x y e
  tells context e h = subst (λ c. TellsMismatch context c y e) first (subst (λ c. TellsMismatch context a c e) second h)

  -- the second was calculated
  pub tells_back : (context : List ℕ) (e : OutputError) → TellsMismatch context b a e → TellsMismatch context y x e
  tells_back context e h = subst (λ c. TellsMismatch context y c e) first (subst (λ c. TellsMismatch context c a e) second h)

pub some : {A : Type 0} (o : Option A) (x : A) (P : A → Type 0) → o ≡ Some x → P x → IsSomeAnd o P
some o x P is h = rw is h
