-- The states of an update (TUF specification 1.0, section 5): each stage waits for one answer, and has what is known by then.
use Rattle.std.specs.Prelude.{ℕ, ℤ, List, [], ◌∷◌, ◌++◌, Bool, true, Result}
use Rattle.tough_roles.specs.Signature.{SignedDoc}
use Rattle.tough_roles.specs.Root.{RootDoc}
use Rattle.tough_roles.specs.Timestamp.{TimestampDoc}
use Rattle.tough_roles.specs.Snapshot.{SnapshotDoc}
use Rattle.tough_schema.specs.Putting.{along}
use Rattle.tough_schema.specs.Whole.{TreeDoc, HeldDoc}
use Rattle.tough_update.specs.delegations.Growing.{WorkDoc}
use Rattle.tough_net.specs.declared.limits.Limits.{Limits}
use Rattle.tough_trust.specs.Failure.{Failure}
use Rattle.tough_trust.specs.Requests.{RequestDoc}

-- ---- what is known

-- a walk from root to root: when the update began, the root that the walk began with, and the last one
pub record WalkDoc : Type 0 where
  pub start : ℤ
  pub first : SignedDoc RootDoc
  pub last : SignedDoc RootDoc

-- the root that the walk ended with
pub record BaseDoc : Type 0 where
  pub start : ℤ
  pub root : SignedDoc RootDoc

pub record KnownDoc : Type 0 where
  pub start : ℤ
  pub root : SignedDoc RootDoc
  pub timestamp : SignedDoc TimestampDoc
  pub snapshot : SignedDoc SnapshotDoc

-- the bytes of a delegated role's document, as they were received, under the role's name
abbrev pub ReceivedDoc : Type 0
ReceivedDoc = List ℕ × List ℕ

-- the delegated roles as far as their documents were fetched
pub record RolesDoc : Type 0 where
  pub work : WorkDoc
  pub received : List ReceivedDoc

-- what an update ends with; the targets have the documents of the delegated roles, as far as they were loaded
pub record LoadedDoc : Type 0 where
  pub known : KnownDoc
  pub targets : SignedDoc TreeDoc
  pub received : List ReceivedDoc

-- a role's document at the end of the way, of which these bytes were received
abbrev pub with_role : List ℕ → HeldDoc → List ℕ → LoadedDoc → LoadedDoc
with_role way h bytes l = record l { targets = record l.targets { role = along way h l.targets.role }; received = l.received ++ (h.name, bytes) ∷ [] }

-- ---- the stages; each waits for one answer

-- what a file is fetched for
pub data WantedDoc : Type 0 where
  -- the root after the walk's last one
  Root : WalkDoc → WantedDoc
  Timestamp : BaseDoc → WantedDoc
  -- the version that the timestamp lists
  Snapshot : BaseDoc → SignedDoc TimestampDoc → ℕ → WantedDoc
  -- the version that the snapshot lists
  Targets : KnownDoc → ℕ → WantedDoc
  -- the same, for the role whose document is wanted
  Role : KnownDoc → RolesDoc → ℕ → WantedDoc

-- a step on the store that is to be taken
pub data PendingDoc : Type 0 where
  NoteTime : ℤ → PendingDoc
  PutRoot : WalkDoc → PendingDoc
  -- the walk is at its end
  PutLast : WalkDoc → PendingDoc
  PutTimestamp : BaseDoc → SignedDoc TimestampDoc → PendingDoc
  -- the version that the timestamp lists
  PutSnapshot : KnownDoc → ℕ → PendingDoc
  PutTargets : KnownDoc → SignedDoc TreeDoc → PendingDoc
  -- under this name
  PutDelegated : KnownDoc → RolesDoc → List ℕ → SignedDoc TreeDoc → PendingDoc

pub data StageDoc : Type 0 where
  Moment : StageDoc
  -- the stored root is to be read; the walk is at the root that was handed in
  ReadRoot : WalkDoc → StageDoc
  Fetch : WantedDoc → RequestDoc → StageDoc
  Step : PendingDoc → StageDoc
  Done : Result LoadedDoc Failure → StageDoc
  -- the outcome was handed out
  Taken : StageDoc

-- what the caller set: the bytes of the root that is trusted, the limits, whether expiry counts, and whether the documents of delegated roles are
-- loaded too
pub record SettingDoc : Type 0 where
  pub trusted : List ℕ
  pub limits : Limits
  pub enforced : Bool
  pub whole : Bool

pub record CoreDoc : Type 0 where
  pub setting : SettingDoc
  pub stage : StageDoc

-- a whole update by these bytes of a root, to which nothing was answered yet
abbrev pub new_core : List ℕ → Limits → Bool → CoreDoc
new_core trusted limits enforced = record { setting = record { trusted = trusted; limits = limits; enforced = enforced; whole = true }; stage = Moment }

-- the update that loads the documents of delegated roles too, or doesn't
abbrev pub reaching : Bool → CoreDoc → CoreDoc
reaching whole c = record { setting = record c.setting { whole = whole }; stage = c.stage }

-- the update whose outcome was handed out
abbrev pub handed_out : CoreDoc → CoreDoc
handed_out c = record { setting = c.setting; stage = Taken }
