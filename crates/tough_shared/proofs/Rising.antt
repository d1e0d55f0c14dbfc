-- The numbers of receipts rise along steps.
use Rattle.std.proofs.Common.{◌≡◌, ◌≤◌, ◌+◌, ◌++◌, ◌∷◌, [], ℕ, List, length, Result, Ok, Err, ap, ◌∙◌, inl, inr, arith, length-append}
use Rattle.tough_keys.specs.Same.{Verifies}
use Rattle.tough_checks.specs.declared.checks.StepError.{StepError}
use Rattle.tough_vault.specs.declared.entry.Receipt.{Receipt}
use Rattle.tough_vault.specs.Act.{Act}
use Rattle.tough_vault.specs.Journal.{Note, Broken, note_of, number_of, entry_of}
use Rattle.tough_shared.specs.Rising.{RiseFrom, number_in, numbers_in, Walks}
use Rattle.tough_shared.proofs.Going.{GoesOn}

module _ {K R : Type 0} (keeps : Verifies → K → Act → Result R StepError → K → Type 0) (number : R → ℕ) (next : K → ℕ) (verifies : Verifies)
    (rises : (k : K) (act : Act) (r : R) (new : K) → keeps verifies k act (Ok r) new → (next k ≤ number r) × (number r + 1 ≤ next new))
    (stays : (k : K) (act : Act) (e : StepError) (new : K) → keeps verifies k act (Err e) new → next k ≤ next new) where
  behind : (result : Result R StepError) (k new : K) (act : Act) (least : ℕ) (ns : List ℕ) → least ≤ next k → keeps verifies k act result new
      → ((l : ℕ) → l ≤ next new → RiseFrom l ns) → RiseFrom least (number_in number result ++ ns)
  behind (Ok r) k new act least ns le h rest = let x = rises k act r new h in (omega (arith, le, x.0), rest (number r + 1) x.1)
  behind (Err e) k new act least ns le h rest = let x = stays k act e new h in rest least (omega (arith, le, x))

  pub rise : (steps : List (Act × Result R StepError)) (k new : K) (least : ℕ) → least ≤ next k → Walks keeps verifies k steps new → RiseFrom least (numbers_in number steps)
  rise [] k new least le w = tt
  rise (p ∷ ps) k new least le w = behind p.1 k w.0 p.0 least (numbers_in number ps) le w.1 (λ l h. rise ps w.0 new l h w.2)

-- a journal that goes on grows by the entry of its receipt
pub one-more : (old new : List Note) (r : Receipt) → GoesOn old new (Ok r) → (length old ≤ number_of r) × (number_of r + 1 ≤ length new)
one-more old new r g =
    let m : length new ≡ length old + 1 = ap length g.0 ∙ length-append old (note_of (entry_of r) ∷ []) in
    (omega (arith, g.1), omega (arith, g.1, m))

pub no-less : (old new : List Note) (e : StepError) → GoesOn old new (Err e) → length old ≤ length new
no-less old new e (inl s) = let m : length new ≡ length old = ap length s in omega (arith, m)
no-less old new e (inr s) = let m : length new ≡ length old + 1 = ap length s ∙ length-append old (Broken ∷ []) in omega (arith, m)

pub as-long : (old new : List Note) → new ≡ old → length old ≤ length new
as-long old new s = let m : length new ≡ length old = ap length s in omega (arith, m)

pub at-least : (a b : ℕ) → a ≡ b → b ≤ a
at-least a b e = omega (arith, e)

pub from-same : (a : ℕ) → a ≤ a
from-same a = omega arith
