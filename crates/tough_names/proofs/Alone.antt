-- A name's raw text decides alone which names are equal, and how they are ordered: the resolved text follows from it.
use Rattle.std.proofs.Common.{◌≡◌, ℕ, Bool, true, false, ◌&&◌, List, refl, sym, ◌∙◌, ap, Result, Ok, bytes_eq}
use Rattle.std.specs.Cmp.Lexicographic.{slice_cmp}
use Rattle.std.proofs.lemmas.Cmp.{nat_list_cmp_total, tied_itself}
use Rattle.std.proofs.lemmas.Map.Lookups.{exact_bytes}
use Rattle.std.proofs.lemmas.Slice.Eq.{bytes_eq-Decides}
use Rattle.std.specs.declared.cmp.Ordering.{Ordering}
use Rattle.std.specs.declared.cmp.Ordering.TheVariants.{Less, Equal, Greater}
use Rattle.std.specs.Ordering.{nat_cmp, ordering_then}
use Rattle.tough_names.specs.declared.name.NameError.{NameError}
use Rattle.tough_names.specs.Named.{Named, clean, by_raw_then_resolved}

within : (r : Result (List ℕ) NameError) (x y : List ℕ) → r ≡ Ok x → r ≡ Ok y → x ≡ y
within r x y e f = cc

-- the names resolve alike
alike : (a b : Named) → clean a.raw ≡ Ok a.resolved → clean b.raw ≡ Ok b.resolved → a.raw ≡ b.raw → a.resolved ≡ b.resolved
alike a b p q e = within (clean b.raw) a.resolved b.resolved (sym (ap clean e) ∙ p) q

ordered-at : (o : Ordering) (a b : List ℕ) → (o ≡ Equal → a ≡ b) → o ≡ ordering_then o (slice_cmp nat_cmp a b)
ordered-at Less a b h = refl
ordered-at Equal a b h = sym (ap (λ t. slice_cmp nat_cmp t b) (h refl) ∙ tied_itself nat_list_cmp_total b)
ordered-at Greater a b h = refl

pub ordered : (a b : Named) → clean a.raw ≡ Ok a.resolved → clean b.raw ≡ Ok b.resolved → slice_cmp nat_cmp a.raw b.raw ≡ by_raw_then_resolved a b
ordered a b p q = ordered-at (slice_cmp nat_cmp a.raw b.raw) a.resolved b.resolved (λ e. alike a b p q (exact_bytes a.raw b.raw e))

equal-at : (t : Bool) (a b : List ℕ) → (t ≡ true → a ≡ b) → t ≡ (t && bytes_eq a b)
equal-at true a b h = sym ((bytes_eq-Decides a b).1 (h refl))
equal-at false a b h = refl

pub equal : (a b : Named) → clean a.raw ≡ Ok a.resolved → clean b.raw ≡ Ok b.resolved → bytes_eq a.raw b.raw ≡ (bytes_eq a.raw b.raw && bytes_eq a.resolved b.resolved)
equal a b p q = equal-at (bytes_eq a.raw b.raw) a.resolved b.resolved (λ e. alike a b p q ((bytes_eq-Decides a.raw b.raw).0 e))
