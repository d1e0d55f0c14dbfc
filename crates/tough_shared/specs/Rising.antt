-- Numbers of receipts that rise.
use Rattle.std.specs.Prelude.{◌≡◌, ◌+◌, ◌≤◌, ◌++◌, ◌∷◌, [], ℕ, List, Result, Ok, Err, ⊤}
use Rattle.tough_keys.specs.Same.{Verifies}
use Rattle.tough_checks.specs.declared.checks.StepError.{StepError}
use Rattle.tough_vault.specs.Act.{Act}

-- the first is at least this, and each is above the one before it
abbrev pub RiseFrom : ℕ → List ℕ → Type 0
RiseFrom least [] = ⊤
RiseFrom least (n ∷ ns) = (least ≤ n) × RiseFrom (n + 1) ns

-- the number of the receipt, where a step succeeded
abbrev pub number_in : {R : Type 0} → (R → ℕ) → Result R StepError → List ℕ
number_in number (Ok r) = number r ∷ []
number_in number (Err e) = []

-- the numbers of the receipts of the steps that succeeded, in their order
abbrev pub numbers_in : {R : Type 0} → (R → ℕ) → List (Act × Result R StepError) → List ℕ
numbers_in number [] = []
numbers_in number (p ∷ ps) = number_in number p.1 ++ numbers_in number ps

module _ {K R : Type 0} (keeps : Verifies → K → Act → Result R StepError → K → Type 0) (verifies : Verifies) where
  -- steps, one after another, led a keeper from one state to the other
  abbrev pub Walks : K → List (Act × Result R StepError) → K → Type 0
  Walks k [] new = new ≡ k
  Walks k (p ∷ ps) new = (next : K) × keeps verifies k p.0 p.1 next × Walks next ps new
