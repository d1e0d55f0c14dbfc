-- An update doesn't go back.
use Rattle.std.specs.Prelude.{◌≤◌, ℕ, List, [], Option, Some, None, not, Bool, true, false, Result, Ok, Err, if◌then◌else◌}
use Rattle.std.proofs.Common.{arith}
use Rattle.tough_keys.specs.Same.{Verifies}
use Rattle.tough_names.specs.Named.{Named}
use Rattle.tough_roles.specs.Timestamp.{MetafileDoc}
use Rattle.tough_roles.specs.Root.{RootDoc}
use Rattle.tough_roles.specs.Signature.{SignedDoc}
use Rattle.tough_roles.specs.Timestamp.{TimestampDoc}
use Rattle.tough_schema.specs.Whole.{TreeDoc}
use Rattle.tough_checks.specs.Files.{snapshot_file, targets_file}
use Rattle.tough_checks.specs.Documents.{timestamp_in, snapshot_in}
use Rattle.tough_roles.specs.Timestamp.{metafile_in}
use Rattle.tough_net.specs.declared.limits.Limits.{Limits}
use Rattle.tough_trust.specs.declared.fault.Fault.{Fault}
use Rattle.tough_trust.specs.Failure.{Failure, ParseMetadata, Checked}
use Rattle.tough_trust.specs.Faults.{ends_start, ends_stream}
use Rattle.tough_trust.specs.Listed.{all_found, judged, by_root}
use Rattle.tough_trust.specs.Outcomes.{and_then, if_read, unless, holds_json}
use Rattle.tough_trust.specs.Requests.{RequestDoc, timestamp_request}
use Rattle.tough_trust.specs.Walk.{next_request, next_root, first_root}
use Rattle.tough_trust.specs.delegations.Bare.{held_as}
use Rattle.tough_roles.specs.declared.role_type.RoleType.TheVariants as role
use Rattle.tough_checks.specs.Checks.{ExpiredMetadata, is_expired}
use Rattle.tough_update.specs.delegations.Growing.{Progress, wants, grown, go_on, first_work}
use Rattle.tough_update.specs.Delegated.{is_reserved, grown_on, if_found, role_stored, metas_in, given, with_received, role_holder}
use Rattle.tough_update.specs.Stages.{WalkDoc, BaseDoc, KnownDoc, RolesDoc, ReceivedDoc, LoadedDoc, WantedDoc, PendingDoc, StageDoc, SettingDoc}
use Rattle.tough_update.specs.Stages as at
use Rattle.tough_update.specs.Answered.{AnswerDoc}
use Rattle.tough_update.specs.Answered as got
use Rattle.tough_update.specs.Machine.{ask_root, walked, walk_from, root_read, base_of, known_of, want_snapshot, want_targets, unfetched, read_wanted, after, stage_after, settled}
use Rattle.tough_honest.specs.Fresh.{wanted_phase, phase}

abbrev Least : ℕ → Result StageDoc Failure → Type 0
Least n r = n ≤ phase (settled r)

none-left : (n : ℕ) → n ≤ 4 → (f : Failure) → Least n (Err f)
none-left n le f = le

then-least : {A : Type 0} (n : ℕ) → n ≤ 4 → (r : Result A Failure) (f : A → Result StageDoc Failure) → ((a : A) → Least n (f a)) → Least n (and_then r f)
then-least n le (Ok a) f h = h a
then-least n le (Err e) f h = le

read-least : {A : Type 0} (n : ℕ) → n ≤ 4 → (fault : Failure) (o : Option A) (f : A → Result StageDoc Failure) → ((a : A) → Least n (f a)) → Least n (if_read fault o f)
read-least n le fault None f h = le
read-least n le fault (Some a) f h = h a

unless-least : (n : ℕ) → n ≤ 4 → (f : Failure) (b : Bool) (r : Result StageDoc Failure) → Least n r → Least n (unless f b r)
unless-least n le f true r h = h
unless-least n le f false r h = le

either-least : (n : ℕ) (b : Bool) (r s : Result StageDoc Failure) → Least n r → Least n s → Least n (if b then r else s)
either-least n true r s h k = h
either-least n false r s h k = k

ask-least : (w : WalkDoc) (o : Option RequestDoc) → 1 ≤ phase (ask_root w o)
ask-least w None = omega (arith)
ask-least w (Some r) = omega (arith)

one : 1 ≤ 4
one = omega (arith)

two : 2 ≤ 4
two = omega (arith)

three : 3 ≤ 4
three = omega (arith)

four : 4 ≤ 4
four = omega (arith)

same : (n : ℕ) → n ≤ n
same n = omega (arith)

walked-least : (l : Limits) (w : WalkDoc) → Least 1 (walked l w)
walked-least l w = then-least 1 one (next_request l w.first.role.head.version w.last.role.head.version) (λ r. Ok (ask_root w r)) (ask-least w)

snapshot-least : (l : Limits) (b : BaseDoc) (t : SignedDoc TimestampDoc) (o : Option MetafileDoc) → Least 3 (want_snapshot l b t o)
snapshot-least l b t None = three
snapshot-least l b t (Some m) = same 3

targets-least : (l : Limits) (k : KnownDoc) (o : Option MetafileDoc) → Least 4 (want_targets l k o)
targets-least l k None = four
targets-least l k (Some m) = four

found-least : (o : Option Named) (l : LoadedDoc) → Least 4 (if_found o l)
found-least o l = then-least 4 four (all_found o) _ (λ u. four)

grown-least : (l : Limits) (k : KnownDoc) (received : List ReceivedDoc) (p : Progress) → Least 4 (grown_on l k received p)
grown-least l k received (wants w m) = four
grown-least l k received (grown t) = found-least _ _

stored-least : (l : Limits) (k : KnownDoc) (r : RolesDoc) (file : List ℕ) (d : SignedDoc TreeDoc) → Least 4 (role_stored l k r file d)
stored-least l k r file d = either-least 4 (is_reserved file) _ _ (grown-least l k r.received (go_on (metas_in k) (given r.work d))) four

unfetched-least : (w : WantedDoc) (ends : Bool) (name : List ℕ) (f : Fault) → Least (wanted_phase w) (unfetched w ends name f)
unfetched-least (at.Root w) true name f = same 1
unfetched-least (at.Root w) false name f = one
unfetched-least (at.Timestamp b) ends name f = two
unfetched-least (at.Snapshot b t listed) ends name f = three
unfetched-least (at.Targets k listed) ends name f = four
unfetched-least (at.Role k roles listed) ends name f = four

wanted-least : (v : Verifies) (s : SettingDoc) (w : WantedDoc) (r : RequestDoc) (bytes : List ℕ) → Least (wanted_phase w) (read_wanted v s w r bytes)
wanted-least v s (at.Root w) r bytes = then-least 1 one (next_root v w.last.role bytes) (λ root. Ok (at.Step (at.PutRoot (record { start = w.start; first = w.first; last = root })))) (λ root. same 1)
wanted-least v s (at.Timestamp b) r bytes = read-least 2 two (ParseMetadata role.Timestamp (holds_json bytes)) (timestamp_in bytes) (λ t. Ok (at.Step (at.PutTimestamp b t))) (λ t. same 2)
wanted-least v s (at.Snapshot b t listed) r bytes = read-least 3 three (ParseMetadata role.Snapshot (holds_json bytes)) (snapshot_in bytes) (λ x. Ok (at.Step (at.PutSnapshot (known_of b t x) listed))) (λ x. same 3)
wanted-least v s (at.Targets k listed) r bytes = then-least 4 four (judged v s.enforced k.start (by_root k.root.role) listed bytes) (λ d. Ok (at.Step (at.PutTargets k d))) (λ d. four)
wanted-least v s (at.Role k roles listed) r bytes = then-least 4 four (judged v s.enforced k.start (role_holder roles.work) listed bytes) (role_stored s.limits k (with_received roles bytes) r.name) (stored-least s.limits k (with_received roles bytes) r.name)

-- what a fetch leads to is no earlier
pub fetched-least : (v : Verifies) (s : SettingDoc) (w : WantedDoc) (r : RequestDoc) (a : AnswerDoc) → wanted_phase w ≤ phase (settled (stage_after v s (at.Fetch w r) a))
fetched-least v s w r (got.Moment now) = same (wanted_phase w)
fetched-least v s w r (got.Stored x) = same (wanted_phase w)
fetched-least v s w r (got.Bytes bytes) = wanted-least v s w r bytes
fetched-least v s w r (got.NotStarted f) = unfetched-least w (ends_start f) r.name f
fetched-least v s w r (got.Cut f) = unfetched-least w (ends_stream f) r.name f
fetched-least v s w r (got.Step x) = same (wanted_phase w)

-- what the stored root leads to is no earlier
pub read_root-least : (l : Limits) (w : WalkDoc) (r : Result (Option (SignedDoc RootDoc)) Failure) → Least 1 (root_read l w r)
read_root-least l w r = then-least 1 one r (λ o. walked l (walk_from w o)) (λ o. walked-least l (walk_from w o))

-- how far an update is after a step
abbrev pub next_phase : PendingDoc → ℕ
next_phase (at.NoteTime now) = 1
next_phase (at.PutRoot w) = 1
next_phase (at.PutLast w) = 2
next_phase (at.PutTimestamp b t) = 3
next_phase (at.PutSnapshot k listed) = 4
next_phase (at.PutTargets k d) = 4
next_phase (at.PutDelegated k roles name d) = 4

pub after-least : (v : Verifies) (s : SettingDoc) (p : PendingDoc) → next_phase p ≤ phase (settled (after v s p))
after-least v s (at.NoteTime now) = then-least 1 one (first_root v s.trusted) (λ root. Ok (at.ReadRoot (record { start = now; first = root; last = root }))) (λ root. same 1)
after-least v s (at.PutRoot w) = walked-least s.limits w
after-least v s (at.PutLast w) = unless-least 2 two (Checked (ExpiredMetadata role.Root w.last.role.head.expires w.start)) (not (is_expired s.enforced w.start w.last.role.head.expires))
    (Ok (at.Fetch (at.Timestamp (base_of w)) (timestamp_request s.limits))) (same 2)
after-least v s (at.PutTimestamp b t) = snapshot-least s.limits b t (metafile_in t.role.meta snapshot_file)
after-least v s (at.PutSnapshot k listed) = targets-least s.limits k (metafile_in k.snapshot.role.meta targets_file)
after-least v s (at.PutTargets k d) = either-least 4 s.whole _ _ (grown-least s.limits k [] (go_on (metas_in k) (first_work (held_as [] d)))) (found-least _ _)
after-least v s (at.PutDelegated k roles name d) = grown-least s.limits k roles.received (go_on (metas_in k) (given roles.work d))
