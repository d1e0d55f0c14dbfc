-- What a step is, and what it does to the parts of a vault.
use Rattle.std.specs.Prelude.{◌≡◌, ◌≢◌, ◌⊎◌, ℕ, ◌+◌, ◌%◌, ◌^◌, List, [], ◌∷◌, ◌++◌, length, Option, None, Some, Result, Ok, Err, Bool, true, IfOk, IfErr, OnOk, IsErrOf, string_bytes}
use Rattle.tough_vault.specs.Replacing.{Removes}
use Rattle.tough_vault.specs.Stored.{Files, SameFiles, SameElsewhere}
use Rattle.tough_vault.specs.declared.store.StoreError.{StoreError}
use Rattle.tough_vault.specs.declared.store.StoreError.TheVariants as device
use Rattle.tough_vault.specs.declared.entry.Receipt.{Receipt}
use Rattle.tough_checks.specs.declared.checks.StepError.{StepError}
use Rattle.tough_checks.specs.declared.checks.StepError.TheVariants.{Refused, DatastoreOpen, DatastoreCreate, DatastoreRemove, Memory}
use Rattle.tough_checks.specs.Files.{timestamp_file, snapshot_file}
use Rattle.tough_vault.specs.Journal.{Note, Cleared, Broken, Last, applied, note_of, number_of, entry_of}
use Rattle.tough_checks.specs.Checks.{Reason, reason_of}

-- A step that writes one file.
pub record Step : Type 0 where
  pub file : List ℕ  -- its file
  pub reads : Bool  -- whether the file is read before it is written
  pub before : Option Reason  -- the first check that refuses before the file is read
  pub after : Option (List ℕ) → Option Reason  -- the first that refuses after, by what the file held
  pub bytes : Option (List ℕ)  -- what is written, where there is a text
  pub entry : Option (List ℕ) → Note  -- what is noted, by what the file held

-- the parts of a vault, as contracts see them
pub record Parts (S : Type 0) : Type 0 where
  pub store : S
  pub notes : List Note
  pub tip : Last

-- the entry was added, and the tip went with it
pub record IsNoted {S : Type 0} (note : Note) (old new : Parts S) : Type 0 where
  pub notes : new.notes ≡ old.notes ++ note ∷ []
  pub tip : new.tip ≡ applied old.tip note

-- the receipt has the number of the entry and a copy of it
pub record IsReceipt (k : ℕ) (note : Note) (r : Receipt) : Type 0 where
  pub number : number_of r ≡ k
  pub entry : note_of (entry_of r) ≡ note

-- a step tells the fault of this file's removal
abbrev pub TellsRemoval : List ℕ → StoreError → StepError → Type 0
TellsRemoval file device.Failed (DatastoreRemove path) = string_bytes path ≡ file
TellsRemoval file device.Memory Memory = Unit {0}
TellsRemoval file _ _ = ⊥

-- the write failed
abbrev pub IsUnwritten : StepError → Type 0
IsUnwritten (DatastoreCreate path) = Unit {0}
IsUnwritten _ = ⊥

-- a read of this file may find this: where the store tells its files, what it holds
abbrev pub Finds : Bool → Files → List ℕ → Option (List ℕ) → Type 0
Finds tells files name found = tells ≡ true → found ≡ files name

-- How the step ends: where both removals succeeded, the entry is noted, and the receipt tells it; else Broken is noted,
-- and the answer is the fault of the first that failed.
abbrev pub EndsRemoval : {S : Type 0} → Note → Result Unit StoreError → Result Unit StoreError → Parts S → Parts S → Result Receipt StepError → Type 0
EndsRemoval note (Err fault) second old new (Err e) = IsNoted Broken old new × TellsRemoval timestamp_file fault e
EndsRemoval note (Ok u) (Err fault) old new (Err e) = IsNoted Broken old new × TellsRemoval snapshot_file fault e
EndsRemoval note (Ok u) (Ok v) old new (Ok r) = IsNoted note old new × IsReceipt (length old.notes) note r
EndsRemoval note _ _ old new result = ⊥

module _ {S : Type 0} (tells : Bool) (files : S → Files) (count : S → ℕ) where
  -- all checks pass on what the file holds
  pub record Passes (step : Step) (store : S) (found : Option (List ℕ)) : Type 0 where
    pub finds : Finds tells (files store) step.file found
    pub before : step.before ≡ None
    pub after : step.after found ≡ None

  -- this check is the first that refuses
  abbrev pub IsFirst : Step → S → Reason → Type 0
  IsFirst step store r =
      (step.before ≡ Some r)
      ⊎ ((step.before ≡ None) × ((found : Option (List ℕ)) × Finds tells (files store) step.file found × (step.after found ≡ Some r)))

  -- why a step was refused, with the store before and after
  abbrev pub Why : Step → S → S → StepError → Type 0
  Why step old new (Refused c) = IsFirst step old (reason_of c)
  Why step old new (DatastoreOpen path) = (string_bytes path ≡ step.file) × (step.reads ≡ true) × (step.before ≡ None) × (count new ≢ count old)
  Why step old new (DatastoreCreate path) = (string_bytes path ≡ step.file) × ((found : Option (List ℕ)) × Passes step old found) × (count new ≢ count old)
  Why step old new (DatastoreRemove path) = ⊥
  Why step old new Memory = Unit {0}

  -- what a success does, by what the file held
  pub record Does (step : Step) (old new : Parts S) (r : Receipt) (found : Option (List ℕ)) : Type 0 where
    pub passes : Passes step old.store found
    pub noted : IsNoted (step.entry found) old new
    pub receipt : IsReceipt (length old.notes) (step.entry found) r

  -- The contract of the five steps that write.
  pub record Takes (step : Step) (old new : Parts S) (result : Result Receipt StepError) : Type 0 where
    -- success: every check passed, exactly one entry is noted, and the receipt tells it
    pub done : IfOk result (λ r. (found : Option (List ℕ)) × Does step old new r found)
    -- success: the file has the bytes
    pub stored : OnOk result ((step.bytes ≢ None) × (tells ≡ true → files new.store step.file ≡ step.bytes))
    -- refusal: the first check that refuses, or a device's fault in its place, or want of memory
    pub why : IfErr result (Why step old.store new.store)
    -- a failed write notes Broken, and the tip stays
    pub broken : IfErr result (λ e. IsUnwritten e → IsNoted Broken old new)
    -- any other refusal changes nothing
    pub same : IfErr result (λ e. (IsUnwritten e → ⊥) → (new.notes ≡ old.notes) × (new.tip ≡ old.tip) × (tells ≡ true → SameFiles (files old.store) (files new.store)))
    -- no other file changes
    pub elsewhere : tells ≡ true → SameElsewhere step.file (files old.store) (files new.store)

  -- Both removals are tried: that of the timestamp, and then that of the snapshot, also where the first failed.
  pub record RemovesBoth (old new : S) (first second : Result Unit StoreError) : Type 0 where
    pub between : S
    pub timestamp : Removes tells files count timestamp_file old between first
    pub snapshot : Removes tells files count snapshot_file between new second

  -- Both removals were tried, and the step that notes this entry ended by the first that failed.
  pub record Tried (note : Note) (old new : Parts S) (result : Result Receipt StepError) : Type 0 where
    pub first : Result Unit StoreError
    pub second : Result Unit StoreError
    pub removes : RemovesBoth old.store new.store first second
    pub ends : EndsRemoval note first second old new result

  -- The contract of `clear_rotated`: both removals are tried; only want of memory before the first changes nothing.
  abbrev pub Clears : Parts S → Parts S → Result Receipt StepError → Type 0
  Clears old new result = ((result ≡ Err Memory) × (new ≡ old)) ⊎ Tried Cleared old new result

-- a step made at most one of the calls that change a store's files, so that whatever call is its last, the store is the one before the step or the one behind it
abbrev pub ChangesOnce : {S : Type 0} → (S → ℕ) → S → S → Type 0
ChangesOnce changes old new = (changes new ≡ changes old) ⊎ (changes new ≡ (changes old + 1) % 2 ^ 64)

-- a step that did anything has tried to remove two files
abbrev pub TriesTwo : {S : Type 0} → (S → ℕ) → Parts S → Parts S → Type 0
TriesTwo removals old new = (new ≡ old) ⊎ (removals new.store ≡ (removals old.store + 2) % 2 ^ 64)
