-- A fact of stages is kept by each answer where it is kept by each file that is read, by a root's fetch that ends the walk, and by each step.
use Rattle.std.specs.Prelude.{◌≡◌, ◌≢◌, ◌+◌, ◌-◌, ◌^◌, ◌==◌, nat_lt, not, ℤ, List, Bool, true, false, IsTrue, Option, Some, None, option_map, Result, Ok, Err, ℕ, if◌then◌else◌}
use Rattle.std.proofs.Common.{refl, ap}
use Rattle.std.proofs.lemmas.Bool.{eqb-true}
use Rattle.tough_net.specs.declared.error.TransportErrorKind.{TransportErrorKind}
use Rattle.tough_net.specs.declared.error.TransportErrorKind.TheVariants as kind
use Rattle.tough_net.specs.Errors.{error_kind}
use Rattle.tough_keys.specs.Same.{Verifies}
use Rattle.tough_roles.specs.Root.{RootDoc}
use Rattle.tough_roles.specs.Signature.{SignedDoc}
use Rattle.tough_roles.specs.declared.role_type.RoleType.TheVariants as role
use Rattle.tough_checks.specs.Checks.{ExpiredMetadata, is_expired}
use Rattle.tough_trust.specs.Failure.{Failure, MaxUpdatesExceeded, Checked}
use Rattle.tough_net.specs.declared.limits.Limits.{Limits}
use Rattle.tough_trust.specs.Walk.{first_root}
use Rattle.tough_trust.specs.Outcomes.{unless, if_read, and_then}
use Rattle.tough_trust.specs.Requests.{RequestDoc, root_request, timestamp_request}
use Rattle.tough_update.specs.Stages.{WalkDoc, WantedDoc, PendingDoc, StageDoc, SettingDoc}
use Rattle.tough_update.specs.Stages as at
use Rattle.tough_trust.specs.declared.fault.Fault.{Fault}
use Rattle.tough_trust.specs.declared.fault.Fault.TheVariants as fault
use Rattle.tough_update.specs.Answered.{AnswerDoc}
use Rattle.tough_update.specs.Answered as got
use Rattle.tough_update.specs.Machine.{ask_root, walked, began, walk_from, base_of, walk_ended, read_wanted, after, settled, stage_after}
use Rattle.tough_trust.specs.Faults.{fault_failure, is_memory, is_missing, ends_start, ends_stream}
use Rattle.tough_update.specs.Runs.{EndsWalk}

module _ (P : StageDoc → Type 0) (bad : (f : Failure) → P (at.Done (Err f))) where
  abbrev pub Fine : Result StageDoc Failure → Type 0
  Fine r = P (settled r)

  pub unless-fine : (f : Failure) (b : Bool) (r : Result StageDoc Failure) → (IsTrue b → Fine r) → Fine (unless f b r)
  unless-fine f true r good = good refl
  unless-fine f false r good = bad f

  pub if-fine : (b : Bool) (r s : Result StageDoc Failure) → (IsTrue b → Fine r) → Fine s → Fine (if b then r else s)
  if-fine true r s one two = one refl
  if-fine false r s one two = two

  pub and_then-fine : {A : Type 0} (r : Result A Failure) (f : A → Result StageDoc Failure) → ((a : A) → r ≡ Ok a → Fine (f a)) → Fine (and_then r f)
  and_then-fine (Ok a) f good = good a refl
  and_then-fine (Err e) f good = bad e

  -- where the limit allows another root, the walk is at its end or the root of the next version is asked for
  walks-on : (l : Limits) (w : WalkDoc) (n : ℕ) (fault : Failure) (more end : Bool) → (IsTrue more → IsTrue end → P (at.Step (at.PutLast w))) → (IsTrue more → P (at.Fetch (at.Root w) (root_request l n)))
      → Fine (and_then (and_then (unless fault more (if end then Ok None else Ok (Some n))) (λ version. Ok (option_map (root_request l) version))) (λ r. Ok (ask_root w r)))
  walks-on l w n fault true true ends goes = ends refl refl
  walks-on l w n fault true false ends goes = goes refl
  walks-on l w n fault false end ends goes = bad fault

  pub walking : (l : Limits) (w : WalkDoc)
      → (IsTrue (nat_lt (w.last.role.head.version - w.first.role.head.version) l.max_root_updates) → w.last.role.head.version ≡ 2 ^ 64 - 1 → P (at.Step (at.PutLast w)))
      → (IsTrue (nat_lt (w.last.role.head.version - w.first.role.head.version) l.max_root_updates) → P (at.Fetch (at.Root w) (root_request l (w.last.role.head.version + 1))))
      → Fine (walked l w)
  walking l w ends goes =
      walks-on l w (w.last.role.head.version + 1) (MaxUpdatesExceeded l.max_root_updates) (nat_lt (w.last.role.head.version - w.first.role.head.version) l.max_root_updates) (w.last.role.head.version == 2 ^ 64 - 1)
      (λ m e. ends m (eqb-true _ _ e)) goes

  -- where the last root hasn't expired, the timestamp is asked for
  pub ending : (l : Limits) (enforced : Bool) (w : WalkDoc)
      → (IsTrue (not (is_expired enforced w.start w.last.role.head.expires)) → P (at.Fetch (at.Timestamp (base_of w)) (timestamp_request l)))
      → Fine (walk_ended l enforced w)
  ending l enforced w goes =
      unless-fine (Checked (ExpiredMetadata role.Root w.last.role.head.expires w.start)) (not (is_expired enforced w.start w.last.role.head.expires)) (Ok (at.Fetch (at.Timestamp (base_of w)) (timestamp_request l))) goes

  -- the root that was handed in stands
  pub beginning : (verifies : Verifies) (trusted : List ℕ) (start : ℤ)
      → ((root : SignedDoc RootDoc) → first_root verifies trusted ≡ Ok root → P (at.ReadRoot (record { start = start; first = root; last = root })))
      → Fine (began verifies trusted start)
  beginning verifies trusted start goes = and_then-fine (first_root verifies trusted) (λ root. Ok (at.ReadRoot (record { start = start; first = root; last = root }))) goes

  -- a document was read
  pub reading : {D : Type 0} (f : Failure) (o : Option D) (to : D → StageDoc) → ((d : D) → P (to d)) → Fine (if_read f o (λ d. Ok (to d)))
  reading f None to good = bad f
  reading f (Some d) to good = good d

not-wanting : (k : TransportErrorKind) → IsTrue (not (is_memory k)) → k ≢ kind.Memory
not-wanting k h e = cc (e, ap (λ x. not (is_memory x)) e, h)

is-missing : (k : TransportErrorKind) → IsTrue (is_missing k) → k ≡ kind.FileNotFound
is-missing kind.UnsupportedUrlScheme h = cc
is-missing kind.FileNotFound h = refl
is-missing kind.Other h = cc
is-missing kind.Memory h = cc

start-ends : (f : Fault) → IsTrue (ends_start f) → EndsWalk (got.NotStarted f)
start-ends (fault.JoinUrl e) h = cc
start-ends (fault.Transport e) h = not-wanting (error_kind e) h

stream-ends : (f : Fault) → IsTrue (ends_stream f) → EndsWalk (got.Cut f)
stream-ends (fault.JoinUrl e) h = cc
stream-ends (fault.Transport e) h = is-missing (error_kind e) h

-- the answer is of the kind that the stage waits for
abbrev pub waits : StageDoc → AnswerDoc → Bool
waits at.Moment (got.Moment now) = true
waits (at.ReadRoot w) (got.Stored r) = true
waits (at.Fetch w r) (got.Bytes bytes) = true
waits (at.Fetch w r) (got.NotStarted f) = true
waits (at.Fetch w r) (got.Cut f) = true
waits (at.Step p) (got.Step r) = true
waits _ _ = false

-- what holds of a stage before an answer (P), and of the one that the answer makes (Q)
module _ (verifies : Verifies) (s : SettingDoc) (P Q : StageDoc → Type 0) (bad : (f : Failure) → Q (at.Done (Err f))) (Heard : StageDoc → AnswerDoc → Type 0) where
  -- what is to be shown, with what is heard of each answer
  pub record Kept : Type 0 where
    pub moment : (now : ℤ) → P at.Moment → Heard at.Moment (got.Moment now) → Q (at.Step (at.NoteTime now))
    pub stored : (w : WalkDoc) (r : Option (SignedDoc RootDoc)) → P (at.ReadRoot w) → Heard (at.ReadRoot w) (got.Stored (Ok r)) → Fine Q bad (walked s.limits (walk_from w r))
    pub read : (w : WantedDoc) (r : RequestDoc) (bytes : List ℕ) → P (at.Fetch w r) → Heard (at.Fetch w r) (got.Bytes bytes) → Fine Q bad (read_wanted verifies s w r bytes)
    pub ends : (w : WalkDoc) (r : RequestDoc) (a : AnswerDoc) → EndsWalk a → P (at.Fetch (at.Root w) r) → Heard (at.Fetch (at.Root w) r) a → Q (at.Step (at.PutLast w))
    pub step : (p : PendingDoc) → P (at.Step p) → Heard (at.Step p) (got.Step (Ok (tt {0}))) → Fine Q bad (after verifies s p)
    -- an answer that isn't waited for
    pub same : (stage : StageDoc) (a : AnswerDoc) → waits stage a ≡ false → stage_after verifies s stage a ≡ Ok stage → P stage → Heard stage a → Q stage

  pub keeps-answer : Kept → (stage : StageDoc) (a : AnswerDoc) → P stage → Heard stage a → Fine Q bad (stage_after verifies s stage a)
  keeps-answer k at.Moment (got.Moment now) h l = k.moment now h l
  keeps-answer k (at.ReadRoot w) (got.Stored (Ok r)) h l = k.stored w r h l
  keeps-answer k (at.ReadRoot w) (got.Stored (Err f)) h l = bad f
  keeps-answer k (at.Fetch w r) (got.Bytes bytes) h l = k.read w r bytes h l
  keeps-answer k (at.Fetch (at.Root w) r) (got.NotStarted f) h l = if-fine Q bad (ends_start f) (Ok (at.Step (at.PutLast w))) (Err (fault_failure r.name f)) (λ e. k.ends w r (got.NotStarted f) (start-ends f e) h l) (bad (fault_failure r.name f))
  keeps-answer k (at.Fetch (at.Root w) r) (got.Cut f) h l = if-fine Q bad (ends_stream f) (Ok (at.Step (at.PutLast w))) (Err (fault_failure r.name f)) (λ e. k.ends w r (got.Cut f) (stream-ends f e) h l) (bad (fault_failure r.name f))
  keeps-answer k (at.Fetch w r) (got.NotStarted f) h l = bad (fault_failure r.name f)
  keeps-answer k (at.Fetch w r) (got.Cut f) h l = bad (fault_failure r.name f)
  keeps-answer k (at.Step p) (got.Step (Ok u)) h l = k.step p h l
  keeps-answer k (at.Step p) (got.Step (Err f)) h l = bad f
  keeps-answer k stage a h l = k.same stage a refl refl h l
