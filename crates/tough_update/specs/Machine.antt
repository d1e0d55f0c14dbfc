-- An update as a machine (TUF specification 1.0, section 5): what is asked next, and what an answer makes of it. An answer of a kind that
-- isn't waited for changes nothing.
use Rattle.std.specs.Prelude.{ℕ, ℤ, List, Option, Some, None, Bool, not, if◌then◌else◌, Result, Ok, Err}
use Rattle.tough_keys.specs.Same.{Verifies}
use Rattle.tough_roles.specs.Root.{RootDoc}
use Rattle.tough_roles.specs.Signature.{SignedDoc}
use Rattle.tough_roles.specs.Timestamp.{TimestampDoc, MetafileDoc}
use Rattle.tough_roles.specs.Snapshot.{SnapshotDoc}
use Rattle.tough_roles.specs.declared.role_type.RoleType.TheVariants as role
use Rattle.tough_checks.specs.Checks.{MissingSnapshotMeta, SnapshotTargetsMetaMissing, ExpiredMetadata, is_expired}
use Rattle.tough_checks.specs.Documents.{timestamp_in, snapshot_in}
use Rattle.tough_roles.specs.Timestamp.{metafile_in}
use Rattle.tough_checks.specs.Files.{snapshot_file, targets_file}
use Rattle.tough_vault.specs.Act.{Act}
use Rattle.tough_vault.specs.Act as act
use Rattle.tough_net.specs.declared.limits.Limits.{Limits}
use Rattle.tough_trust.specs.declared.fault.Fault.{Fault}
use Rattle.tough_trust.specs.Failure.{Failure, ParseMetadata, Checked}
use Rattle.tough_trust.specs.Walk.{first_root, next_root, next_request}
use Rattle.tough_trust.specs.Faults.{fault_failure, ends_start, ends_stream}
use Rattle.tough_trust.specs.Outcomes.{unless, if_read, holds_json, and_then}
use Rattle.tough_trust.specs.Requests.{RequestDoc, timestamp_request, snapshot_request, targets_request}
use Rattle.tough_trust.specs.delegations.Bare.{top_page}
use Rattle.tough_trust.specs.Listed.{by_root, targets_text, judged}
use Rattle.tough_update.specs.Delegated.{targets_stored, role_given, new_role}
use Rattle.tough_update.specs.Stages.{WalkDoc, BaseDoc, KnownDoc, WantedDoc, PendingDoc, StageDoc, SettingDoc, CoreDoc}
use Rattle.tough_update.specs.Stages as at
use Rattle.tough_update.specs.Questions.{Question}
use Rattle.tough_update.specs.Questions as ask
use Rattle.tough_update.specs.Answered.{AnswerDoc}
use Rattle.tough_update.specs.Answered as got

-- ---- roots (TUF specification 5.2 and 5.3)

-- this root is to be fetched; where there is none, the walk is at its end
abbrev pub ask_root : WalkDoc → Option RequestDoc → StageDoc
ask_root w None = at.Step (at.PutLast w)
ask_root w (Some r) = at.Fetch (at.Root w) r

-- the walk goes on from a root
abbrev pub walked : Limits → WalkDoc → Result StageDoc Failure
walked l w = and_then (next_request l w.first.role.head.version w.last.role.head.version) (λ r. Ok (ask_root w r))

-- the root that was handed in stands, and the stored one is to be read
abbrev pub began : Verifies → List ℕ → ℤ → Result StageDoc Failure
began verifies trusted start = and_then (first_root verifies trusted) (λ root. Ok (at.ReadRoot (record { start = start; first = root; last = root })))

-- the walk begins with the stored root, where there is one, else with the root that was handed in
abbrev pub walk_from : WalkDoc → Option (SignedDoc RootDoc) → WalkDoc
walk_from w None = w
walk_from w (Some r) = record { start = w.start; first = r; last = r }

abbrev pub root_read : Limits → WalkDoc → Result (Option (SignedDoc RootDoc)) Failure → Result StageDoc Failure
root_read l w r = and_then r (λ o. walked l (walk_from w o))

abbrev pub new_root : Verifies → WalkDoc → List ℕ → Result StageDoc Failure
new_root verifies w bytes = and_then (next_root verifies w.last.role bytes) (λ root. Ok (at.Step (at.PutRoot (record { start = w.start; first = w.first; last = root }))))

abbrev pub base_of : WalkDoc → BaseDoc
base_of w = record { start = w.start; root = w.last }

-- the last root was stored: its expiry, and then the timestamp
abbrev pub walk_ended : Limits → Bool → WalkDoc → Result StageDoc Failure
walk_ended l enforced w = unless (Checked (ExpiredMetadata role.Root w.last.role.head.expires w.start)) (not (is_expired enforced w.start w.last.role.head.expires))
    (Ok (at.Fetch (at.Timestamp (base_of w)) (timestamp_request l)))

-- ---- the timestamp (TUF specification 5.4)

abbrev pub new_timestamp : BaseDoc → List ℕ → Result StageDoc Failure
new_timestamp b bytes = if_read (ParseMetadata role.Timestamp (holds_json bytes)) (timestamp_in bytes) (λ t. Ok (at.Step (at.PutTimestamp b t)))

-- the snapshot is to be fetched as the timestamp's entry says
abbrev pub want_snapshot : Limits → BaseDoc → SignedDoc TimestampDoc → Option MetafileDoc → Result StageDoc Failure
want_snapshot l b t None = Err (Checked (MissingSnapshotMeta t.role.head.version))
want_snapshot l b t (Some m) = Ok (at.Fetch (at.Snapshot b t m.version) (snapshot_request l b.root.role.consistent_snapshot m))

-- ---- the snapshot (TUF specification 5.5)

abbrev pub known_of : BaseDoc → SignedDoc TimestampDoc → SignedDoc SnapshotDoc → KnownDoc
known_of b t s = record { start = b.start; root = b.root; timestamp = t; snapshot = s }

abbrev pub new_snapshot : BaseDoc → SignedDoc TimestampDoc → ℕ → List ℕ → Result StageDoc Failure
new_snapshot b t listed bytes = if_read (ParseMetadata role.Snapshot (holds_json bytes)) (snapshot_in bytes) (λ s. Ok (at.Step (at.PutSnapshot (known_of b t s) listed)))

-- ---- the targets (TUF specification 5.6)

-- they are to be fetched as the snapshot's entry says
abbrev pub want_targets : Limits → KnownDoc → Option MetafileDoc → Result StageDoc Failure
want_targets l k None = Err (Checked (SnapshotTargetsMetaMissing k.snapshot.role.head.version))
want_targets l k (Some m) = Ok (at.Fetch (at.Targets k m.version) (targets_request l k.root.role.consistent_snapshot m))

abbrev pub new_targets : Verifies → Bool → KnownDoc → ℕ → List ℕ → Result StageDoc Failure
new_targets verifies enforced k listed bytes = and_then (judged verifies enforced k.start (by_root k.root.role) listed bytes) (λ d. Ok (at.Step (at.PutTargets k d)))

-- ---- fetches that gave no bytes

-- a fetch of the file of this name gave no bytes: where it is a root's, it may end the walk
abbrev pub unfetched : WantedDoc → Bool → List ℕ → Fault → Result StageDoc Failure
unfetched (at.Root w) ends name f = if ends then Ok (at.Step (at.PutLast w)) else Err (fault_failure name f)
unfetched _ ends name f = Err (fault_failure name f)

-- ---- files that came, and steps that were taken

abbrev pub read_wanted : Verifies → SettingDoc → WantedDoc → RequestDoc → List ℕ → Result StageDoc Failure
read_wanted verifies s (at.Root w) r bytes = new_root verifies w bytes
read_wanted verifies s (at.Timestamp b) r bytes = new_timestamp b bytes
read_wanted verifies s (at.Snapshot b t listed) r bytes = new_snapshot b t listed bytes
read_wanted verifies s (at.Targets k listed) r bytes = new_targets verifies s.enforced k listed bytes
read_wanted verifies s (at.Role k roles listed) r bytes = new_role verifies s k roles listed r.name bytes

abbrev pub after : Verifies → SettingDoc → PendingDoc → Result StageDoc Failure
after verifies s (at.NoteTime now) = began verifies s.trusted now
after verifies s (at.PutRoot w) = walked s.limits w
after verifies s (at.PutLast w) = walk_ended s.limits s.enforced w
after verifies s (at.PutTimestamp b t) = want_snapshot s.limits b t (metafile_in t.role.meta snapshot_file)
after verifies s (at.PutSnapshot k listed) = want_targets s.limits k (metafile_in k.snapshot.role.meta targets_file)
after verifies s (at.PutTargets k d) = targets_stored s k d
after verifies s (at.PutDelegated k roles name d) = role_given s.limits k roles d

-- ---- answers

abbrev pub stage_after : Verifies → SettingDoc → StageDoc → AnswerDoc → Result StageDoc Failure
stage_after verifies s at.Moment (got.Moment now) = Ok (at.Step (at.NoteTime now))
stage_after verifies s (at.ReadRoot w) (got.Stored r) = root_read s.limits w r
stage_after verifies s (at.Fetch w r) (got.Bytes bytes) = read_wanted verifies s w r bytes
stage_after verifies s (at.Fetch w r) (got.NotStarted f) = unfetched w (ends_start f) r.name f
stage_after verifies s (at.Fetch w r) (got.Cut f) = unfetched w (ends_stream f) r.name f
stage_after verifies s (at.Step p) (got.Step (Ok u)) = after verifies s p
stage_after verifies s (at.Step p) (got.Step (Err f)) = Err f
stage_after verifies s stage a = Ok stage

-- a failure ends the update
abbrev pub settled : Result StageDoc Failure → StageDoc
settled (Ok stage) = stage
settled (Err f) = at.Done (Err f)

-- what an answer makes of the machine
abbrev pub answered : Verifies → CoreDoc → AnswerDoc → CoreDoc
answered verifies c a = record { setting = c.setting; stage = settled (stage_after verifies c.setting c.stage a) }

-- ---- questions

-- the step that is to be taken
abbrev pub act_at : Bool → PendingDoc → Act
act_at enforced (at.NoteTime now) = act.NoteTime now
act_at enforced (at.PutRoot w) = act.PutRoot w.last
act_at enforced (at.PutLast w) = act.PutRoot w.last
act_at enforced (at.PutTimestamp b t) = act.AdvanceTimestamp b.root.role t b.start enforced
act_at enforced (at.PutSnapshot k listed) = act.AdvanceSnapshot k.root.role listed k.snapshot k.start enforced
act_at enforced (at.PutTargets k d) = act.PutDocument targets_file (targets_text (top_page d))
act_at enforced (at.PutDelegated k roles name d) = act.PutDocument name (targets_text (top_page d))

abbrev pub question_at : Bool → StageDoc → Question
question_at enforced at.Moment = ask.Moment
question_at enforced (at.ReadRoot w) = ask.Stored w.first.role.head.version
question_at enforced (at.Fetch w r) = ask.Fetch r
question_at enforced (at.Step p) = ask.Step (act_at enforced p)
question_at enforced _ = ask.Ready

-- what is asked next
abbrev pub question : CoreDoc → Question
question c = question_at c.setting.enforced c.stage
