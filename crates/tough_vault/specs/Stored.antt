-- Files by name, and what a call on a device does to them.
use Rattle.std.specs.Prelude.{◌≡◌, ◌≢◌, ℕ, ◌+◌, ◌%◌, ◌^◌, List, Option, Some, Result, IsErrOf}
use Rattle.tough_vault.specs.declared.store.StoreError.{StoreError}
use Rattle.tough_vault.specs.declared.store.StoreError.TheVariants.{Failed}

-- the bytes of each file that is there, by its name
abbrev pub Files : Type 0
Files = List ℕ → Option (List ℕ)

-- the file has these bytes
abbrev pub Is : List ℕ → Option (List ℕ)
Is bytes = Some bytes

abbrev pub SameFiles : Files → Files → Type 0
SameFiles old new = (name : List ℕ) → new name ≡ old name

abbrev pub SameElsewhere : List ℕ → Files → Files → Type 0
SameElsewhere name old new = (other : List ℕ) → other ≢ name → new other ≡ old other

-- a device failed exactly where the count of its failures went on by one
pub record HasCause {T : Type 0} (before now : ℕ) (result : Result T StoreError) : Type 0 where
  pub failed : IsErrOf result Failed → now ≡ (before + 1) % 2 ^ 64
  pub quiet : (IsErrOf result Failed → ⊥) → now ≡ before
