-- Steps of a vault over a store in memory.
use Rattle.std.specs.Prelude.{◌≡◌, ℕ, ℤ, List, [], ◌∷◌, ◌++◌, true, false, Ok, Option}
use Rattle.tough_keys.specs.Demo.{demo_verifies}
use Rattle.tough_roles.specs.Policy.{Policy}
use Rattle.tough_roles.specs.Root.{RootDoc}
use Rattle.tough_roles.specs.Signature.{SignedDoc}
use Rattle.tough_roles.specs.Snapshot.{SnapshotDoc}
use Rattle.tough_roles.specs.Timestamp.{TimestampDoc}
use Rattle.tough_vault.specs.Act.{Act, NoteTime, PutRoot, AdvanceTimestamp, AdvanceSnapshot, Acts}
use Rattle.tough_vault.specs.Journal.{Note, has_broken, has_cleared}
use Rattle.tough_vault.specs.Memory.{memory_files}
use Rattle.tough_vault.specs.Step.{Parts}
use Rattle.tough_vault.specs.declared.entry.Receipt.{Receipt}
use Rattle.tough_vault.specs.declared.memory.MemoryStore.{MemoryStore}
use Rattle.tough_trust.specs.Vaults.{ReadsBack}
use Rattle.tough_world.specs.Steps.{Taken, AllProper, AllRead, AllUnder, Trail, all_notes}

-- such a store never fails
abbrev pub no_failure : MemoryStore → ℕ
no_failure s = 0

-- the entry tells neither a write that failed nor a clearing
abbrev pub IsPlain : Note → Type 0
IsPlain note = (has_broken (note ∷ []) ≡ false) × (has_cleared (note ∷ []) ≡ false)

-- the vault took the step, and noted one plain entry
pub record Took (act : Act) (old new : Parts MemoryStore) : Type 0 where
  pub receipt : Receipt
  pub note : Note
  pub acts : Acts true memory_files no_failure demo_verifies act old new (Ok receipt)
  pub back : ReadsBack act
  pub added : new.notes ≡ old.notes ++ note ∷ []
  pub plain : IsPlain note

abbrev pub acts_of : List Taken → List Act
acts_of [] = []
acts_of (x ∷ xs) = x.act ∷ acts_of xs

-- steps, one after another
abbrev pub AllTook : List Act → Parts MemoryStore → Parts MemoryStore → Type 0
AllTook [] old new = new ≡ old
AllTook (act ∷ rest) old new = (mid : Parts MemoryStore) × Took act old mid × AllTook rest mid new

-- All that `steps_go_on` and `roots_rise` ask of steps with these acts, and `sections_go_on` of a section of them.
pub record HasTrail (acts : List Act) : Type 0 where
  pub before : List Taken
  pub section : List Taken
  pub after : List Taken
  pub old : MemoryStore
  pub new : MemoryStore
  pub P : Option Policy
  pub Q : Option Policy
  pub trail : Trail true memory_files no_failure demo_verifies old (before ++ (section ++ after)) new
  pub are : acts_of (before ++ (section ++ after)) ≡ acts
  pub proper : AllProper (before ++ (section ++ after))
  pub read : AllRead (before ++ (section ++ after))
  pub under : AllUnder P Q (before ++ (section ++ after))
  pub unbroken : has_broken (all_notes (before ++ (section ++ after))) ≡ false
  pub uncleared : has_cleared (all_notes (before ++ (section ++ after))) ≡ false
  pub proper_in : AllProper section
  pub under_in : AllUnder P Q section
  pub unbroken_in : has_broken (all_notes section) ≡ false
  pub uncleared_in : has_cleared (all_notes section) ≡ false

-- a moment is noted; a root, a timestamp and a snapshot are accepted (TUF specification 5.3 to 5.5)
abbrev pub four_acts : ℤ → SignedDoc RootDoc → SignedDoc TimestampDoc → ℕ → SignedDoc SnapshotDoc → List Act
four_acts start root t listed s = NoteTime start ∷ PutRoot root ∷ AdvanceTimestamp root.role t start true ∷ AdvanceSnapshot root.role listed s start true ∷ []

-- such steps, of an update that begins at this moment
abbrev pub HasAccepted : ℤ → Type 0
HasAccepted start = (root : SignedDoc RootDoc) × (t : SignedDoc TimestampDoc) × (listed : ℕ) × (s : SignedDoc SnapshotDoc) × HasTrail (four_acts start root t listed s)
