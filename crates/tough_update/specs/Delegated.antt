-- The documents of delegated roles, as an update fetches them (TUF specification 1.0, section 5.6.7).
use Rattle.std.specs.Prelude.{ℕ, List, [], ◌∷◌, ◌++◌, Option, Bool, ◌||◌, if◌then◌else◌, Result, Ok}
use Rattle.std.specs.Str.{bytes_eq}
use Rattle.tough_names.specs.Named.{Named}
use Rattle.tough_keys.specs.Same.{Verifies}
use Rattle.tough_roles.specs.Signature.{SignedDoc}
use Rattle.tough_schema.specs.Whole.{TreeDoc}
use Rattle.tough_schema.specs.Entries.{first_missing}
use Rattle.tough_update.specs.delegations.Growing.{Metas, WorkDoc, Progress, wants, grown, first_work, wanted_name, holder_of, with_taken, go_on}
use Rattle.tough_trust.specs.delegations.Bare.{held_as}
use Rattle.tough_checks.specs.Files.{time_file, root_file, timestamp_file, snapshot_file, targets_file}
use Rattle.tough_net.specs.declared.limits.Limits.{Limits}
use Rattle.tough_trust.specs.Failure.{Failure}
use Rattle.tough_trust.specs.Listed.{HolderDoc, by_delegations, all_found, judged}
use Rattle.tough_trust.specs.Outcomes.{and_then}
use Rattle.tough_trust.specs.Requests.{role_request}
use Rattle.tough_update.specs.Stages.{KnownDoc, RolesDoc, ReceivedDoc, LoadedDoc, StageDoc, SettingDoc}
use Rattle.tough_update.specs.Stages as at

-- what the snapshot lists
abbrev pub metas_in : KnownDoc → Metas
metas_in k = k.snapshot.role.meta

-- who vouches for the document that is wanted: the delegations that its role stands in
abbrev pub role_holder : WorkDoc → HolderDoc
role_holder w = by_delegations (holder_of w) (wanted_name w)

-- the names of files that no delegated document is stored by
abbrev pub is_reserved : List ℕ → Bool
is_reserved name = bytes_eq name root_file || (bytes_eq name timestamp_file || (bytes_eq name snapshot_file || (bytes_eq name targets_file || bytes_eq name time_file)))

-- the tree is complete: each name that it lists must be found by the permissive search
abbrev pub if_found : Option Named → LoadedDoc → Result StageDoc Failure
if_found missing l = and_then (all_found missing) (λ _. Ok (at.Done (Ok l)))

abbrev pub finished : KnownDoc → List ReceivedDoc → SignedDoc TreeDoc → Result StageDoc Failure
finished k received t = if_found (first_missing t.role) (record { known = k; targets = t; received = received })

-- another document is to be fetched as the snapshot's entry says, or the tree is complete
abbrev pub grown_on : Limits → KnownDoc → List ReceivedDoc → Progress → Result StageDoc Failure
grown_on l k received (wants w m) = Ok (at.Fetch (at.Role k (record { work = w; received = received }) m.version) (role_request l k.root.role.consistent_snapshot (wanted_name w) m))
grown_on l k received (grown t) = finished k received t

-- the targets were stored
abbrev pub roles_begun : Limits → KnownDoc → SignedDoc TreeDoc → Result StageDoc Failure
roles_begun l k d = grown_on l k [] (go_on (metas_in k) (first_work (held_as [] d)))

-- the same, or, where delegated roles aren't loaded, the top-level documents are all
abbrev pub targets_stored : SettingDoc → KnownDoc → SignedDoc TreeDoc → Result StageDoc Failure
targets_stored s k d = if s.whole then roles_begun s.limits k d else finished k [] d

-- a role gets its document
abbrev pub given : WorkDoc → SignedDoc TreeDoc → WorkDoc
given w d = with_taken w w.waiting (held_as (wanted_name w) d)

abbrev pub role_given : Limits → KnownDoc → RolesDoc → SignedDoc TreeDoc → Result StageDoc Failure
role_given l k r d = grown_on l k r.received (go_on (metas_in k) (given r.work d))

-- it is stored first, by the name of its file, unless that is reserved
abbrev pub role_stored : Limits → KnownDoc → RolesDoc → List ℕ → SignedDoc TreeDoc → Result StageDoc Failure
role_stored l k r file d = if is_reserved file then role_given l k r d else Ok (at.Step (at.PutDelegated k r file d))

abbrev pub with_received : RolesDoc → List ℕ → RolesDoc
with_received r bytes = record { work = r.work; received = r.received ++ (wanted_name r.work, bytes) ∷ [] }

-- the bytes of its file came
abbrev pub new_role : Verifies → SettingDoc → KnownDoc → RolesDoc → ℕ → List ℕ → List ℕ → Result StageDoc Failure
new_role verifies s k r listed file bytes = and_then (judged verifies s.enforced k.start (role_holder r.work) listed bytes) (role_stored s.limits k (with_received r bytes) file)
