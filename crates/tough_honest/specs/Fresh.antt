-- A keeper over a store that held nothing, as far as an update has come.
use Rattle.std.specs.Prelude.{◌≡◌, ◌<◌, ℕ, ℤ, List, [], ◌∷◌, Option, None, Result, Ok, Err, ⊤}
use Rattle.tough_roles.specs.Root.{RootDoc}
use Rattle.tough_roles.specs.Signature.{SignedDoc}
use Rattle.tough_checks.specs.Files.{time_file, root_file, timestamp_file, snapshot_file}
use Rattle.tough_vault.specs.Stored.{Files}
use Rattle.tough_vault.specs.Step.{Parts}
use Rattle.tough_trust.specs.Failure.{Failure}
use Rattle.tough_trust.specs.Failure as failure
use Rattle.tough_update.specs.Stages.{LoadedDoc, WantedDoc, PendingDoc, StageDoc}
use Rattle.tough_update.specs.Stages as at
use Rattle.tough_update.specs.Answered.{AnswerDoc}
use Rattle.tough_update.specs.Answered as got
use Rattle.tough_honest.specs.Serves.{FaultHasMemory}

-- ---- how far an update is: 0 until it has noted the time, 1 until it has stored a root, 2 until it has accepted a timestamp, 3 until it has
-- accepted a snapshot, and then 4

abbrev pub wanted_phase : WantedDoc → ℕ
wanted_phase (at.Root w) = 1
wanted_phase (at.Timestamp b) = 2
wanted_phase (at.Snapshot b t listed) = 3
wanted_phase (at.Targets k listed) = 4
wanted_phase (at.Role k roles listed) = 4

abbrev pub pending_phase : PendingDoc → ℕ
pending_phase (at.NoteTime now) = 0
pending_phase (at.PutRoot w) = 1
pending_phase (at.PutLast w) = 1
pending_phase (at.PutTimestamp b t) = 2
pending_phase (at.PutSnapshot k listed) = 3
pending_phase (at.PutTargets k d) = 4
pending_phase (at.PutDelegated k roles name d) = 4

abbrev pub phase : StageDoc → ℕ
phase at.Moment = 0
phase (at.Fetch w r) = wanted_phase w
phase (at.Step p) = pending_phase p
phase (at.ReadRoot w) = 1
phase (at.Done r) = 4
phase at.Taken = 4

-- what is still to be accepted for the first time isn't there
pub record Untouched {S : Type 0} (files : S → Files) (n : ℕ) (k : Parts S) : Type 0 where
  pub time : n < 1 → (files k.store time_file ≡ None) × (k.tip.time ≡ None)
  pub root : n < 2 → (files k.store root_file ≡ None) × (k.tip.root ≡ None)
  pub timestamp : n < 3 → (files k.store timestamp_file ≡ None) × (k.tip.timestamp ≡ None)
  pub snapshot : n < 4 → (files k.store snapshot_file ≡ None) × (k.tip.snapshot ≡ None)

-- ---- answers without a fault of a device and of memory, at this moment

abbrev pub IsNoFault : Failure → Type 0
IsNoFault (failure.DatastoreOpen path) = ⊥
IsNoFault (failure.DatastoreCreate path) = ⊥
IsNoFault (failure.DatastoreRemove path) = ⊥
IsNoFault failure.Memory = ⊥
IsNoFault _ = ⊤

abbrev pub StepIsFine : Result Unit Failure → Type 0
StepIsFine (Ok u) = ⊤
StepIsFine (Err f) = IsNoFault f

abbrev pub ReadIsFine : Result (Option (SignedDoc RootDoc)) Failure → Type 0
ReadIsFine (Ok r) = ⊤
ReadIsFine (Err f) = IsNoFault f

abbrev pub IsFine : ℤ → AnswerDoc → Type 0
IsFine now (got.Moment t) = t ≡ now
IsFine now (got.Stored r) = ReadIsFine r
IsFine now (got.Bytes bytes) = ⊤
IsFine now (got.NotStarted f) = FaultHasMemory f
IsFine now (got.Cut f) = FaultHasMemory f
IsFine now (got.Step r) = StepIsFine r

abbrev pub AllFine : ℤ → List AnswerDoc → Type 0
AllFine now [] = ⊤
AllFine now (a ∷ rest) = IsFine now a × AllFine now rest

-- an outcome that tells no fault of a device and no want of memory
abbrev pub IsFineOutcome : Result LoadedDoc Failure → Type 0
IsFineOutcome (Ok l) = ⊤
IsFineOutcome (Err f) = IsNoFault f
