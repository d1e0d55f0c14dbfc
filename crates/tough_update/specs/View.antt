-- The machine of the program, seen as plain data.
use Rattle.std.specs.Prelude.{ℕ, Bool, true, false, List, Option, Some, None, Result, Ok, Err, map, option_map, string_bytes}
use Rattle.jiff.specs.declared.timestamp.Timestamp.{Timestamp as Instant}
use Rattle.tough_roles.specs.Signature.{signed_doc}
use Rattle.tough_roles.specs.Root.{root_doc}
use Rattle.tough_roles.specs.declared.root.Root.{Root}
use Rattle.tough_roles.specs.declared.signed.Signed.{Signed}
use Rattle.tough_roles.specs.declared.timestamp.Timestamp.{Timestamp}
use Rattle.tough_roles.specs.declared.snapshot.Snapshot.{Snapshot}
use Rattle.tough_schema.specs.declared.targets.Targets.{Targets}
use Rattle.tough_roles.specs.Timestamp.{timestamp_doc}
use Rattle.tough_roles.specs.Snapshot.{snapshot_doc}
use Rattle.tough_schema.specs.Whole.{tree_doc}
use Rattle.tough_update.specs.delegations.View.{work_doc}
use Rattle.tough_checks.specs.Checks.{enforces}
use Rattle.tough_checks.specs.DocumentName.{name_of}
use Rattle.tough_trust.specs.Failure.{Failure, failure_of}
use Rattle.tough_trust.specs.declared.error.UpdateError.{UpdateError}
use Rattle.tough_update.specs.declared.ask.Ask.{Ask}
use Rattle.tough_update.specs.declared.ask.Ask.TheVariants as wants
use Rattle.tough_update.specs.declared.ask.Answer.{Answer}
use Rattle.tough_update.specs.declared.ask.Answer.TheVariants as by
use Rattle.tough_update.specs.declared.stage.Walk.{Walk}
use Rattle.tough_update.specs.declared.stage.Base.{Base}
use Rattle.tough_update.specs.declared.stage.Known.{Known}
use Rattle.tough_update.specs.declared.stage.Loaded.{Loaded}
use Rattle.tough_update.specs.declared.stage.Received.{Received}
use Rattle.tough_update.specs.declared.stage.Roles.{Roles}
use Rattle.tough_update.specs.declared.stage.Wanted.{Wanted}
use Rattle.tough_update.specs.declared.stage.Wanted.TheVariants as wanted
use Rattle.tough_update.specs.declared.stage.Pending.{Pending}
use Rattle.tough_update.specs.declared.stage.Pending.TheVariants as pending
use Rattle.tough_update.specs.declared.stage.Stage.{Stage}
use Rattle.tough_update.specs.declared.stage.Stage.TheVariants as in_stage
use Rattle.tough_update.specs.declared.turns.Setting.{Setting}
use Rattle.tough_update.specs.declared.extent.Extent.{Extent}
use Rattle.tough_update.specs.declared.extent.Extent.TheVariants as reach
use Rattle.tough_update.specs.declared.counts.Counts.{Counts}
use Rattle.tough_update.specs.declared.machine.Core.{Core}
use Rattle.tough_vault.specs.Looking.{look_doc}
use Rattle.tough_trust.specs.View.{request_doc, act_of, read_doc, step_doc}
use Rattle.tough_update.specs.Stages.{WalkDoc, BaseDoc, KnownDoc, ReceivedDoc, RolesDoc, LoadedDoc, WantedDoc, PendingDoc, StageDoc, SettingDoc, CoreDoc}
use Rattle.tough_update.specs.Stages as at
use Rattle.tough_update.specs.Questions.{Question}
use Rattle.tough_update.specs.Questions as ask
use Rattle.tough_update.specs.Answered.{AnswerDoc}
use Rattle.tough_update.specs.Answered as got

-- ---- questions and answers

abbrev pub question_of : Ask → Question
question_of wants.Moment = ask.Moment
question_of (wants.Stored first) = ask.Stored first
question_of (wants.Fetch r) = ask.Fetch (request_doc r.now)
question_of (wants.Step a) = ask.Step (act_of a)
question_of wants.Ready = ask.Ready

abbrev pub answer_doc : Answer → AnswerDoc
answer_doc (by.Moment now) = got.Moment now.nanosecond
answer_doc (by.Stored r) = got.Stored (read_doc (look_doc r))
answer_doc (by.Bytes v) = got.Bytes v.items
answer_doc (by.NotStarted f) = got.NotStarted f
answer_doc (by.Cut f) = got.Cut f
answer_doc (by.Step r) = got.Step (step_doc r)

-- ---- stages

-- of the two, the later one where there is one
abbrev pub latest : {A : Type 0} → A → Option A → A
latest first None = first
latest first (Some later) = later

abbrev pub walk_doc : Walk → WalkDoc
walk_doc w = record { start = w.start.nanosecond; first = signed_doc root_doc w.first; last = signed_doc root_doc (latest w.first w.later) }

abbrev pub base_doc : Base → BaseDoc
base_doc b = record { start = b.start.nanosecond; root = signed_doc root_doc b.root }

abbrev pub known_doc : Known → KnownDoc
known_doc k = record { start = k.start.nanosecond; root = signed_doc root_doc k.root; timestamp = signed_doc timestamp_doc k.timestamp; snapshot = signed_doc snapshot_doc k.snapshot }

-- the documents of an update that succeeded
abbrev pub root_of : Loaded → Signed Root
root_of l = l.known.root

-- when the update began
abbrev pub start_of : Loaded → Instant
start_of l = l.known.start

abbrev pub timestamp_of : Loaded → Signed Timestamp
timestamp_of l = l.known.timestamp

abbrev pub snapshot_of : Loaded → Signed Snapshot
snapshot_of l = l.known.snapshot

abbrev pub targets_of : Loaded → Signed Targets
targets_of l = l.targets

abbrev pub received_of : Loaded → List Received
received_of l = l.received.items

-- ---- delegated roles

abbrev pub received_doc : Received → ReceivedDoc
received_doc r = (string_bytes r.role, r.bytes.items)

abbrev pub received_docs : List Received → List ReceivedDoc
received_docs rs = map received_doc rs

abbrev pub roles_doc : Roles → RolesDoc
roles_doc r = record { work = work_doc r.growth; received = received_docs r.received.items }

-- ---- the outcome

abbrev pub loaded_doc : Loaded → LoadedDoc
loaded_doc l = record { known = known_doc l.known; targets = signed_doc tree_doc l.targets; received = received_docs l.received.items }

abbrev pub outcome_doc : Result Loaded UpdateError → Result LoadedDoc Failure
outcome_doc (Ok l) = Ok (loaded_doc l)
outcome_doc (Err e) = Err (failure_of e)

abbrev pub wanted_doc : Wanted → WantedDoc
wanted_doc (wanted.Root w) = at.Root (walk_doc w)
wanted_doc (wanted.Timestamp b) = at.Timestamp (base_doc b)
wanted_doc (wanted.Snapshot b t listed) = at.Snapshot (base_doc b) (signed_doc timestamp_doc t) listed
wanted_doc (wanted.Targets k listed) = at.Targets (known_doc k) listed
wanted_doc (wanted.Role k roles listed) = at.Role (known_doc k) (roles_doc roles) listed

abbrev pub pending_doc : Pending → PendingDoc
pending_doc (pending.NoteTime now) = at.NoteTime now.nanosecond
pending_doc (pending.PutRoot w) = at.PutRoot (walk_doc w)
pending_doc (pending.PutLast w) = at.PutLast (walk_doc w)
pending_doc (pending.PutTimestamp b t) = at.PutTimestamp (base_doc b) (signed_doc timestamp_doc t)
pending_doc (pending.PutSnapshot k listed) = at.PutSnapshot (known_doc k) listed
pending_doc (pending.PutTargets k d) = at.PutTargets (known_doc k) (signed_doc tree_doc d)
pending_doc (pending.PutDelegated k roles name d) = at.PutDelegated (known_doc k) (roles_doc roles) (name_of name) (signed_doc tree_doc d)

abbrev pub stage_doc : Stage → StageDoc
stage_doc in_stage.Moment = at.Moment
stage_doc (in_stage.ReadRoot w) = at.ReadRoot (walk_doc w)
stage_doc (in_stage.Fetch w r) = at.Fetch (wanted_doc w) (request_doc r)
stage_doc (in_stage.Step p) = at.Step (pending_doc p)
stage_doc (in_stage.Done r) = at.Done (outcome_doc r)
stage_doc in_stage.Taken = at.Taken

-- the documents of delegated roles are loaded too
abbrev pub is_whole : Extent → Bool
is_whole reach.Whole = true
is_whole reach.TopLevel = false

abbrev pub setting_doc : Setting → SettingDoc
setting_doc s = record { trusted = s.trusted.now; limits = s.limits; enforced = enforces s.enforcement; whole = is_whole s.extent }

-- how much it fetched and keeps
abbrev pub counts_of : Core → Counts
counts_of c = c.counts

-- the name of the file that it last asked for
abbrev pub last_file_of : Core → Option (List ℕ)
last_file_of c = option_map string_bytes c.last_file

abbrev pub core_doc : Core → CoreDoc
core_doc c = record { setting = record { trusted = c.trusted.items; limits = c.limits; enforced = enforces c.enforcement; whole = is_whole c.extent }; stage = stage_doc c.stage }
