-- Two steps of a keeper, whichever it is.
use Rattle.std.specs.Prelude.{ℕ, ℤ, List, [], ◌∷◌, Result, Ok}
use Rattle.tough_keys.specs.Same.{Verifies}
use Rattle.tough_checks.specs.declared.checks.StepError.{StepError}
use Rattle.tough_vault.specs.Act.{Act, NoteTime}
use Rattle.tough_trust.specs.Steps.{Keeping, TakesStep}
use Rattle.tough_shared.specs.Rising.{Walks}
use Rattle.tough_rising.specs.Rising.{RiseBelow}

-- a keeper with these receipts
abbrev pub keeping : {K R : Type 0} → K → List R → Keeping K R
keeping k rs = record { keeper = k; receipts = rs }

module _ {K R : Type 0} (keeps : Verifies → K → Act → Result R StepError → K → Type 0) (verifies : Verifies) where
  -- The keeper noted one moment and then another, and gave these receipts (TUF specification 5.3).
  pub record NotesTwo (first second : ℤ) (old : K) (one two : R) (new : K) : Type 0 where
    -- all that `receipts_rise` asks
    pub walked : Walks keeps verifies old ((NoteTime first, Ok one) ∷ (NoteTime second, Ok two) ∷ []) new
    -- all that `steps` asks of the first step: the keeper had no receipt, so its receipts rise, whatever their numbers are
    pub mid : K
    pub rise : (number : R → ℕ) (next : ℕ) → RiseBelow number next []
    pub stepped : TakesStep keeps verifies (NoteTime first) (keeping old []) (Ok (tt {0})) (keeping mid (one ∷ []))
    -- the second step, whose receipt is put by after the first one's
    pub stepped_again : TakesStep keeps verifies (NoteTime second) (keeping mid (one ∷ [])) (Ok (tt {0})) (keeping new (one ∷ two ∷ []))
