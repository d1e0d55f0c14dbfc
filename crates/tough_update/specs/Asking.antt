-- The files that an update asks for (TUF specification 1.0, sections 5.3 to 5.6), over any answers.
use Rattle.std.specs.Prelude.{◌≡◌, ◌≤◌, ◌⊎◌, ℕ, ℤ, ◌+◌, zero, suc, List, [], ◌∷◌, ◌++◌, length, codes, Bool, Option, None, Some, Ok}
use Rattle.std.specs.List.{AllByRecursion}
use Rattle.tough_keys.specs.Same.{Verifies}
use Rattle.tough_roles.specs.Signature.{SignedDoc}
use Rattle.tough_roles.specs.Root.{RootDoc}
use Rattle.tough_roles.specs.Timestamp.{TimestampDoc, MetafileDoc}
use Rattle.tough_roles.specs.Snapshot.{SnapshotDoc}
use Rattle.tough_vault.specs.Act.{Act, AdvanceTimestamp, AdvanceSnapshot}
use Rattle.tough_checks.specs.Documents.{root_in}
use Rattle.tough_roles.specs.Timestamp.{metafile_in}
use Rattle.tough_checks.specs.Files.{snapshot_file, targets_file}
use Rattle.tough_net.specs.declared.limits.Limits.{Limits}
use Rattle.tough_trust.specs.Requests.{RequestDoc, root_request, timestamp_request, snapshot_request, targets_request, role_request}
use Rattle.tough_update.specs.Stages.{CoreDoc}
use Rattle.tough_update.specs.Questions.{Question}
use Rattle.tough_update.specs.Questions as ask
use Rattle.tough_update.specs.Answered.{AnswerDoc}
use Rattle.tough_update.specs.Answered as got
use Rattle.tough_update.specs.Machine.{question, answered}
use Rattle.tough_update.specs.Trusted.{Chain, IsHandedIn}
use Rattle.tough_update.specs.Runs.{run, WasStored}

-- ---- which file is asked for

-- this step was asked for, and it succeeded
pub record HasTaken (verifies : Verifies) (c : CoreDoc) (answers : List AnswerDoc) (act : Act) : Type 0 where
  pub before : List AnswerDoc
  pub after : List AnswerDoc
  pub all : answers ≡ before ++ got.Step (Ok (tt {0})) ∷ after
  pub asked : question (run verifies c before) ≡ ask.Step act

-- the walk may begin with the root that was handed in, or with one that was answered where the stored root was asked for
abbrev pub MayBegin : Verifies → CoreDoc → List AnswerDoc → SignedDoc RootDoc → Type 0
MayBegin verifies c answers r = IsHandedIn verifies c.setting.trusted r ⊎ WasStored verifies c answers r

-- the root after one that ends a chain from the root that the walk began with
pub record AsksRoot (verifies : Verifies) (c : CoreDoc) (answers : List AnswerDoc) (r : RequestDoc) : Type 0 where
  pub last : SignedDoc RootDoc
  pub chain : Chain verifies (MayBegin verifies c answers) last
  pub is : r ≡ root_request c.setting.limits (last.role.head.version + 1)

-- the snapshot, as the timestamp that was accepted lists it
pub record AsksSnapshot (verifies : Verifies) (c : CoreDoc) (answers : List AnswerDoc) (r : RequestDoc) : Type 0 where
  pub root : RootDoc
  pub timestamp : SignedDoc TimestampDoc
  pub start : ℤ
  pub accepted : HasTaken verifies c answers (AdvanceTimestamp root timestamp start c.setting.enforced)
  pub entry : MetafileDoc
  pub listed : metafile_in timestamp.role.meta snapshot_file ≡ Some entry
  pub is : r ≡ snapshot_request c.setting.limits root.consistent_snapshot entry

-- the targets, as the snapshot that was accepted lists them
pub record AsksTargets (verifies : Verifies) (c : CoreDoc) (answers : List AnswerDoc) (r : RequestDoc) : Type 0 where
  pub root : RootDoc
  pub version : ℕ
  pub snapshot : SignedDoc SnapshotDoc
  pub start : ℤ
  pub accepted : HasTaken verifies c answers (AdvanceSnapshot root version snapshot start c.setting.enforced)
  pub entry : MetafileDoc
  pub listed : metafile_in snapshot.role.meta targets_file ≡ Some entry
  pub is : r ≡ targets_request c.setting.limits root.consistent_snapshot entry

-- the document of a delegated role, as the snapshot that was accepted lists it
pub record AsksRole (verifies : Verifies) (c : CoreDoc) (answers : List AnswerDoc) (r : RequestDoc) : Type 0 where
  pub root : RootDoc
  pub version : ℕ
  pub snapshot : SignedDoc SnapshotDoc
  pub start : ℤ
  pub accepted : HasTaken verifies c answers (AdvanceSnapshot root version snapshot start c.setting.enforced)
  pub name : List ℕ
  pub entry : MetafileDoc
  pub listed : metafile_in snapshot.role.meta (name ++ codes ".json") ≡ Some entry
  pub is : r ≡ role_request c.setting.limits root.consistent_snapshot name entry

-- one of the five kinds of file
abbrev pub AsksFile : Verifies → CoreDoc → List AnswerDoc → RequestDoc → Type 0
AsksFile verifies c answers r = AsksRoot verifies c answers r ⊎ ((r ≡ timestamp_request c.setting.limits) ⊎ (AsksSnapshot verifies c answers r ⊎ (AsksTargets verifies c answers r ⊎ AsksRole verifies c answers r)))

-- ---- how many files are asked for

-- the file that was asked for, where a fetch of it was answered
abbrev pub fetched : Question → AnswerDoc → List RequestDoc
fetched (ask.Fetch r) (got.Bytes bytes) = r ∷ []
fetched (ask.Fetch r) (got.NotStarted f) = r ∷ []
fetched (ask.Fetch r) (got.Cut f) = r ∷ []
fetched _ _ = []

-- the files that were fetched, or couldn't be, in order
abbrev pub requests : Verifies → CoreDoc → List AnswerDoc → List RequestDoc
requests verifies c [] = []
requests verifies c (a ∷ rest) = fetched (question c) a ++ requests verifies (answered verifies c a) rest

-- so many roots, one after another, from the one after this version
abbrev pub roots_after : Limits → ℕ → ℕ → List RequestDoc
roots_after l version zero = []
roots_after l version (suc n) = root_request l (version + 1) ∷ roots_after l (version + 1) n

-- the version of the root that was handed in
abbrev pub first_version : Option (SignedDoc RootDoc) → ℕ
first_version None = 0
first_version (Some r) = r.role.head.version

-- the document of some delegated role, as some entry says
abbrev pub IsOfRole : Limits → RequestDoc → Type 0
IsOfRole l r = (consistent : Bool) × (name : List ℕ) × (entry : MetafileDoc) × (r ≡ role_request l consistent name entry)

-- a walk may begin with a root of this version
abbrev pub BeginsAt : Verifies → CoreDoc → List AnswerDoc → ℕ → Type 0
BeginsAt verifies c answers version =
    (version ≡ first_version (root_in c.setting.trusted)) ⊎ ((r : SignedDoc RootDoc) × WasStored verifies c answers r × (version ≡ r.role.head.version))

-- Roots one after another, from the one after the root that the walk began with and at most as many as the limit allows; then at most three
-- files; and then documents of delegated roles.
pub record AsksFew (verifies : Verifies) (c : CoreDoc) (answers : List AnswerDoc) : Type 0 where
  pub first : ℕ
  pub begins : BeginsAt verifies c answers first
  pub roots : ℕ
  pub few : roots ≤ c.setting.limits.max_root_updates
  pub others : List RequestDoc
  pub roles : List RequestDoc
  pub all : requests verifies c answers ≡ roots_after c.setting.limits first roots ++ (others ++ roles)
  pub three : length others ≤ 3
  pub delegated : AllByRecursion (IsOfRole c.setting.limits) roles
