-- The last part of a step that forgets timestamp and snapshot.
use Rattle.std.specs.Prelude.{◌≡◌, ◌⊎◌, ℕ, List, Option, None, Some, Result, Ok, Err, Bool, true, string_bytes}
use Rattle.tough_checks.specs.Files.{root_file, timestamp_file, snapshot_file}
use Rattle.tough_checks.specs.declared.checks.StepError.{StepError}
use Rattle.tough_checks.specs.declared.checks.StepError.TheVariants.{Memory}
use Rattle.tough_vault.specs.declared.entry.Receipt.{Receipt}
use Rattle.tough_vault.specs.declared.parts.Prepared.{Prepared}
use Rattle.tough_vault.specs.declared.rotated.Names.{Names}
use Rattle.tough_vault.specs.Journal.{Note, Root, Cleared, Broken, note_of}
use Rattle.tough_vault.specs.Parts.{IsFault, Writes}
use Rattle.tough_vault.specs.Step.{Parts, IsNoted, IsUnwritten, Tried}
use Rattle.tough_vault.specs.Stored.{Files, SameFiles, SameElsewhere}

abbrev pub IsOfBoth : Names → Type 0
IsOfBoth names = (string_bytes names.timestamp ≡ timestamp_file) × (string_bytes names.snapshot ≡ snapshot_file)

-- what is noted once both files were removed: a root, where one of this version was stored before
abbrev pub note_after : Option ℕ → Note
note_after None = Cleared
note_after (Some version) = Root version true

-- the entry of a root that cleared
abbrev pub IsClearing : Note → Type 0
IsClearing (Root version true) = Unit {0}
IsClearing _ = ⊥

module _ {S : Type 0} (tells : Bool) (files : S → Files) (count : S → ℕ) where
  -- the root was written, and then both removals were tried
  pub record Written (version : ℕ) (bytes : List ℕ) (old new : Parts S) (result : Result Receipt StepError) : Type 0 where
    pub between : S
    pub stored : tells ≡ true → files between root_file ≡ Some bytes
    pub elsewhere : tells ≡ true → SameElsewhere root_file (files old.store) (files between)
    pub tried : Tried tells files count (Root version true) (record { store = between; notes = old.notes; tip = old.tip }) new result

  -- the root wasn't written
  pub record Unwritten (old new : Parts S) (e : StepError) : Type 0 where
    pub fault : IsFault tells files count root_file old.store new.store e
    pub broken : IsUnwritten e → IsNoted Broken old new
    pub same : e ≡ Memory → (new.notes ≡ old.notes) × (new.tip ≡ old.tip) × (tells ≡ true → SameFiles (files old.store) (files new.store))
    pub elsewhere : tells ≡ true → SameElsewhere root_file (files old.store) (files new.store)

  abbrev pub IsUnwrittenAs : Parts S → Parts S → Result Receipt StepError → Type 0
  IsUnwrittenAs old new (Ok r) = ⊥
  IsUnwrittenAs old new (Err e) = Unwritten old new e

  abbrev pub WritesAnew : ℕ → List ℕ → Parts S → Parts S → Result Receipt StepError → Type 0
  WritesAnew version bytes old new result = Written version bytes old new result ⊎ IsUnwrittenAs old new result

  -- The last part of a root's step: where the entry says so, timestamp and snapshot are removed after the write.
  abbrev pub ConcludesAs : Note → Prepared → Parts S → Parts S → Result Receipt StepError → Type 0
  ConcludesAs (Root version true) p old new result = WritesAnew version p.bytes.items old new result
  ConcludesAs _ p old new result = Writes tells files count root_file (note_of p.entry) p.bytes.items old new result

  abbrev pub ConcludesRoot : Result Prepared StepError → Parts S → Parts S → Result Receipt StepError → Type 0
  ConcludesRoot (Ok p) old new result = ConcludesAs (note_of p.entry) p old new result
  ConcludesRoot (Err e) old new result = (result ≡ Err e) × (new ≡ old)
