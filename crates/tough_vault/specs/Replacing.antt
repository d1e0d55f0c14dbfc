-- What the calls of a store that change its files do, each with its outcome; and the one that writes a file and removes two others.
use Rattle.std.specs.Prelude.{◌≡◌, ◌⊎◌, ◌≢◌, ℕ, ◌+◌, ◌%◌, ◌^◌, List, None, Result, Ok, Err, Bool, true, OnOk, IsErrOf}
use Rattle.tough_vault.specs.Stored.{Files, Is, SameFiles, SameElsewhere, HasCause}
use Rattle.tough_vault.specs.declared.store.StoreError.{StoreError}
use Rattle.tough_vault.specs.declared.store.StoreError.TheVariants.{Failed, Memory}
use Rattle.tough_vault.specs.declared.store.Replaced.{Replaced}
use Rattle.tough_vault.specs.declared.store.Replaced.TheVariants.{Unwritten, Written}

module _ {S : Type 0} (tells : Bool) (files : S → Files) (count : S → ℕ) where
  -- One write of a file: where it succeeded, the file has the bytes; no other file changes, and where memory was refused
  -- none does; the device's failures are counted.
  pub record Fills (file bytes : List ℕ) (old new : S) (outcome : Result Unit StoreError) : Type 0 where
    pub written : OnOk outcome (tells ≡ true → files new file ≡ Is bytes)
    pub elsewhere : tells ≡ true → SameElsewhere file (files old) (files new)
    pub memory : IsErrOf outcome Memory → tells ≡ true → SameFiles (files old) (files new)
    pub cause : HasCause (count old) (count new) outcome

  -- One removal of a file: where it succeeded, the file is gone; no other file changes, and where memory was refused none
  -- does; the device's failures are counted.
  pub record Removes (file : List ℕ) (old new : S) (outcome : Result Unit StoreError) : Type 0 where
    pub removed : OnOk outcome (tells ≡ true → files new file ≡ None)
    pub elsewhere : tells ≡ true → SameElsewhere file (files old) (files new)
    pub memory : IsErrOf outcome Memory → tells ≡ true → SameFiles (files old) (files new)
    pub cause : HasCause (count old) (count new) outcome

  -- The file was written, and then two others were to be removed, the second also where the first wasn't.
  pub record FillsAndRemoves (file bytes first second : List ℕ) (old new : S) (one two : Result Unit StoreError) : Type 0 where
    pub filled : S
    pub removed : S
    pub fills : Fills file bytes old filled (Ok (tt {0}))
    pub tried_first : Removes first filled removed one
    pub tried_second : Removes second removed new two

  -- A file is replaced and two others are removed; where it wasn't written, nothing is removed.
  abbrev pub Replaces : List ℕ → List ℕ → List ℕ → List ℕ → S → S → Replaced → Type 0
  Replaces file bytes first second old new (Unwritten e) = Fills file bytes old new (Err e)
  Replaces file bytes first second old new (Written one two) = FillsAndRemoves file bytes first second old new one two

-- how many removals were tried
abbrev pub removals_after : Replaced → ℕ → ℕ
removals_after (Unwritten e) before = before
removals_after (Written one two) before = (before + 2) % 2 ^ 64

-- the count of a device's failures after a call with this outcome
abbrev pub count_after : Result Unit StoreError → ℕ → ℕ
count_after (Err Failed) before = (before + 1) % 2 ^ 64
count_after (Err Memory) before = before
count_after (Ok u) before = before

abbrev pub failures_after : Replaced → ℕ → ℕ
failures_after (Unwritten e) before = count_after (Err e) before
failures_after (Written one two) before = count_after two (count_after one before)

-- the device failed at the write, or at a removal
abbrev pub HasFailed : Replaced → Type 0
HasFailed (Unwritten e) = e ≡ Failed
HasFailed (Written one two) = IsErrOf one Failed ⊎ IsErrOf two Failed
