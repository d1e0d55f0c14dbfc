-- Files that serve documents, and the answers of an honest transport, clock and store (TUF specification 1.0, section 5).
use Rattle.std.specs.Prelude.{◌≡◌, ◌≢◌, ℕ, ℤ, ◌+◌, ◌-◌, ◌^◌, ◌<◌, ◌≤◌, ◌==◌, List, [], ◌∷◌, length, map, sum_by, Option, Some, None, option_and_then, Bool, true, false, ⊤, Ok, Err, if◌then◌else◌}
use Rattle.tough_net.specs.declared.error.TransportError.{TransportError}
use Rattle.tough_net.specs.declared.error.TransportErrorKind.TheVariants as kind
use Rattle.tough_net.specs.Errors.{error_kind}
use Rattle.tough_keys.specs.Same.{Verifies}
use Rattle.tough_roles.specs.Root.{root_json}
use Rattle.tough_roles.specs.Timestamp.{MetafileDoc, timestamp_json}
use Rattle.tough_roles.specs.Snapshot.{snapshot_json}
use Rattle.tough_roles.specs.Chain.{ReachesUnder}
use Rattle.tough_roles.specs.declared.role_type.RoleType.TheVariants as role
use Rattle.tough_roles.specs.Signature.{SignedDoc}
use Rattle.tough_schema.specs.Targets.{TargetsDoc, targets_json}
use Rattle.tough_schema.specs.Delegations.{DelegationsDoc}
use Rattle.tough_schema.specs.Verify.{ReachesDelegated}
use Rattle.tough_schema.specs.Fresh.{carriers_below}
use Rattle.tough_schema.specs.Whole.{TreeDoc}
use Rattle.tough_checks.specs.Checks.{Reason, or_else, is_expired}
use Rattle.tough_checks.specs.Documents.{root_in, root_text, timestamp_in, snapshot_in}
use Rattle.tough_roles.specs.Timestamp.{metafile_in}
use Rattle.tough_vault.specs.Journal.{Last}
use Rattle.tough_vault.specs.Step.{Step}
use Rattle.tough_vault.specs.Steps.{time_text, time_step, root_step, timestamp_step, snapshot_step, document_step}
use Rattle.tough_vault.specs.Act.{Act}
use Rattle.tough_vault.specs.Act as act
use Rattle.tough_checks.specs.Files.{snapshot_file, targets_file}
use Rattle.tough_trust.specs.Requests.{RequestDoc, fits_request, root_request, timestamp_request, snapshot_request, targets_request, role_request}
use Rattle.tough_schema.specs.Entries.{first_missing}
use Rattle.tough_trust.specs.delegations.Bare.{top_page}
use Rattle.tough_update.specs.growth.Full.{IsFull, fetch_order}
use Rattle.tough_update.specs.delegations.Growing.{listed_as}
use Rattle.tough_update.specs.growth.Once.{Distinct}
use Rattle.tough_update.specs.growth.Under.{Below}
use Rattle.tough_update.specs.Delegated.{metas_in, is_reserved}
use Rattle.tough_trust.specs.Listed.{targets_in, targets_text}
use Rattle.tough_trust.specs.Failure.{Checked}
use Rattle.tough_update.specs.Stages.{KnownDoc, ReceivedDoc, LoadedDoc, SettingDoc, CoreDoc, Done}
use Rattle.tough_update.specs.Questions.{Question}
use Rattle.tough_update.specs.Questions as ask
use Rattle.tough_trust.specs.declared.fault.Fault.TheVariants as fault
use Rattle.tough_update.specs.Answered.{AnswerDoc}
use Rattle.tough_update.specs.Answered as got
use Rattle.tough_update.specs.Machine.{question, answered}
use Rattle.tough_update.specs.Runs.{run}

-- what the files under these names hold
abbrev pub Files : Type 0
Files = List ℕ → Option (List ℕ)

-- ---- honest answers

-- the bytes, where they fit what was asked; else the stream fails
abbrev pub Delivers : Bool → List ℕ → AnswerDoc → Type 0
Delivers true bytes a = a ≡ got.Bytes bytes
Delivers false bytes a = (e : TransportError) × (a ≡ got.Cut (fault.Transport e)) × (error_kind e ≡ kind.Other)

-- what an honest transport answers: the file's bytes where they fit, or that there is no file
abbrev pub Gets : RequestDoc → Option (List ℕ) → AnswerDoc → Type 0
Gets r None a = (e : TransportError) × (a ≡ got.NotStarted (fault.Transport e)) × (error_kind e ≡ kind.FileNotFound)
Gets r (Some bytes) a = Delivers (fits_request r bytes) bytes a

-- nothing was accepted yet
abbrev pub nothing : Last
nothing = record { time = None; root = None; timestamp = None; snapshot = None }

-- the first check that refuses, where the step's file isn't there
abbrev pub refusal_of : Step → Option Reason
refusal_of step = or_else step.before (step.after None)

-- the same of each step, on a store that held nothing
abbrev pub refusal_at_first : Verifies → Act → Option Reason
refusal_at_first verifies (act.NoteTime now) = refusal_of (time_step nothing now)
refusal_at_first verifies (act.PutRoot root) = refusal_of (root_step verifies nothing root)
refusal_at_first verifies act.ClearRotated = None
refusal_at_first verifies (act.AdvanceTimestamp root t start enforced) = refusal_of (timestamp_step verifies root nothing t start enforced)
refusal_at_first verifies (act.AdvanceSnapshot root listed s start enforced) = refusal_of (snapshot_step verifies root nothing listed s start enforced)
refusal_at_first verifies (act.PutDocument name text) = refusal_of (document_step name text)

-- an honest store refuses where a check does
abbrev pub step_answer : Option Reason → AnswerDoc
step_answer None = got.Step (Ok (tt {0}))
step_answer (Some reason) = got.Step (Err (Checked reason))

-- the answers of these files, of a clock at this moment, and of a store that held nothing
abbrev pub Honest : Verifies → Files → ℤ → Question → AnswerDoc → Type 0
Honest verifies files now ask.Moment a = a ≡ got.Moment now
Honest verifies files now (ask.Stored first) a = a ≡ got.Stored (Ok None)
Honest verifies files now (ask.Fetch r) a = Gets r (files r.name) a
Honest verifies files now (ask.Step act) a = a ≡ step_answer (refusal_at_first verifies act)
Honest verifies files now ask.Ready a = ⊥

-- each answer is an honest one
abbrev pub AllHonest : Verifies → Files → ℤ → CoreDoc → List AnswerDoc → Type 0
AllHonest verifies files now c [] = ⊤
AllHonest verifies files now c (a ∷ rest) = Honest verifies files now (question c) a × AllHonest verifies files now (answered verifies c a) rest

-- ---- documents that can be loaded

-- the file that is asked for holds bytes that fit and are this document
pub record IsServed {D : Type 0} (files : Files) (r : RequestDoc) (reads : List ℕ → Option D) (doc : D) : Type 0 where
  pub bytes : List ℕ
  pub served : files r.name ≡ Some bytes
  pub fits : fits_request r bytes ≡ true
  pub reading : reads bytes ≡ Some doc

-- a delegated role's document is served as the snapshot lists it, has the listed version, hasn't expired, and can be stored; the delegations
-- that the role stands in vouch for it
pub record IsRoleServed (verifies : Verifies) (files : Files) (s : SettingDoc) (k : KnownDoc) (g : DelegationsDoc) (name : List ℕ) (page : SignedDoc TargetsDoc) : Type 0 where
  pub entry : MetafileDoc
  pub listed : listed_as (metas_in k) name ≡ Some entry
  pub document : IsServed files (role_request s.limits k.root.role.consistent_snapshot name entry) targets_in page
  pub signed : ReachesDelegated verifies g name targets_json page
  pub version : page.role.head.version ≡ entry.version
  pub in_time : is_expired s.enforced k.start page.role.head.expires ≡ false
  pub stored : targets_text page ≢ None

-- the same, where there are delegations
abbrev pub IsServedUnder : Verifies → Files → SettingDoc → KnownDoc → Option DelegationsDoc → List ℕ → SignedDoc TargetsDoc → Type 0
IsServedUnder verifies files s k None name page = ⊥
IsServedUnder verifies files s k (Some g) name page = IsRoleServed verifies files s k g name page

abbrev pub or_nothing : Option (List ℕ) → List ℕ
or_nothing None = []
or_nothing (Some bytes) = bytes

-- what the files hold for a role
abbrev pub role_bytes : Files → SettingDoc → KnownDoc → List ℕ → List ℕ
role_bytes files s k name = or_nothing (option_and_then (λ m. files (role_request s.limits k.root.role.consistent_snapshot name m).name) (listed_as (metas_in k) name))

-- the bytes of the delegated roles' documents, as they are received
abbrev pub all_received : Files → SettingDoc → KnownDoc → TreeDoc → List ReceivedDoc
all_received files s k t = map (λ name. (name, role_bytes files s k name)) (fetch_order t)

-- Documents that are served, from one root, that vouch for one another and haven't expired, and that can be stored. Each delegated role has
-- its document, which is loaded too, and no two roles have one name.
pub record Loadable (verifies : Verifies) (files : Files) (s : SettingDoc) (l : LoadedDoc) : Type 0 where
  pub whole : s.whole ≡ true
  pub start_text : time_text l.known.start ≢ None
  pub root : root_in s.trusted ≡ Some l.known.root
  pub root_signed : ReachesUnder verifies l.known.root.role role.Root root_json l.known.root
  pub no_next : files (root_request s.limits (l.known.root.role.head.version + 1)).name ≡ None
  pub one_update : 0 < s.limits.max_root_updates
  pub root_in_time : is_expired s.enforced l.known.start l.known.root.role.head.expires ≡ false
  pub root_stored : root_text l.known.root ≢ None
  pub timestamp : IsServed files (timestamp_request s.limits) timestamp_in l.known.timestamp
  pub timestamp_signed : ReachesUnder verifies l.known.root.role role.Timestamp timestamp_json l.known.timestamp
  pub timestamp_in_time : is_expired s.enforced l.known.start l.known.timestamp.role.head.expires ≡ false
  -- the timestamp lists the snapshot alone
  pub alone : length l.known.timestamp.role.meta ≡ 1
  pub entry : MetafileDoc
  pub listed : metafile_in l.known.timestamp.role.meta snapshot_file ≡ Some entry
  pub snapshot : IsServed files (snapshot_request s.limits l.known.root.role.consistent_snapshot entry) snapshot_in l.known.snapshot
  pub snapshot_signed : ReachesUnder verifies l.known.root.role role.Snapshot snapshot_json l.known.snapshot
  pub snapshot_version : l.known.snapshot.role.head.version ≡ entry.version
  pub snapshot_in_time : is_expired s.enforced l.known.start l.known.snapshot.role.head.expires ≡ false
  pub targets_entry : MetafileDoc
  pub targets_listed : metafile_in l.known.snapshot.role.meta targets_file ≡ Some targets_entry
  pub targets : IsServed files (targets_request s.limits l.known.root.role.consistent_snapshot targets_entry) targets_in (top_page l.targets)
  pub targets_signed : ReachesUnder verifies l.known.root.role role.Targets targets_json (top_page l.targets)
  pub targets_version : (top_page l.targets).role.head.version ≡ targets_entry.version
  pub targets_in_time : is_expired s.enforced l.known.start (top_page l.targets).role.head.expires ≡ false
  pub targets_stored : targets_text (top_page l.targets) ≢ None
  pub full : IsFull l.targets.role
  pub once : Distinct (carriers_below l.targets.role)
  pub delegated : Below (IsServedUnder verifies files s l.known) l.targets.role
  pub received : l.received ≡ all_received files s l.known l.targets.role
  pub found : first_missing l.targets.role ≡ None

-- How many answers a role's document takes: its bytes, and then a step, unless its file has a name by which nothing is stored.
abbrev pub turns_as : SettingDoc → KnownDoc → List ℕ → Option MetafileDoc → ℕ
turns_as s k name None = 0
turns_as s k name (Some m) = if is_reserved (role_request s.limits k.root.role.consistent_snapshot name m).name then 1 else 2

abbrev pub role_turns : SettingDoc → KnownDoc → List ℕ → ℕ
role_turns s k name = turns_as s k name (listed_as (metas_in k) name)

-- one answer for the root after this version, which isn't asked for behind the last number
abbrev pub walk_turns : Bool → ℕ
walk_turns true = 0
walk_turns false = 1

-- ten answers, and those for the next root and for the delegated roles
abbrev pub all_turns : SettingDoc → LoadedDoc → ℕ
all_turns s l = 10 + walk_turns (l.known.root.role.head.version == 2 ^ 64 - 1) + sum_by (role_turns s l.known) (fetch_order l.targets.role)

-- It is ready after so many answers, and not before; and then it has ended with these documents.
pub record IsLoaded (verifies : Verifies) (c : CoreDoc) (answers : List AnswerDoc) (l : LoadedDoc) : Type 0 where
  pub within : length answers ≤ all_turns c.setting l
  pub soon : length answers ≡ all_turns c.setting l → question (run verifies c answers) ≡ ask.Ready
  pub ends : question (run verifies c answers) ≡ ask.Ready → (run verifies c answers).stage ≡ Done (Ok l)
