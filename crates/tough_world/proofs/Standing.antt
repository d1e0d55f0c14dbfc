-- What holds of every stage of an update: each step that is asked for is proper, and a root that is to be stored was read from bytes.
use Rattle.std.proofs.Common.{◌≡◌, ◌≢◌, ℕ, List, [], ◌∷◌, Option, Some, None, Bool, true, false, IsTrue, Result, Ok, Err, if◌then◌else◌, ◌||◌, refl, sym, ap, ◌∙◌, subst, inl, inr}
use Rattle.std.proofs.lemmas.Bool.{or_parts, true≢false}
use Rattle.std.proofs.lemmas.Slice.Eq.{bytes_eq-Decides}
use Rattle.std.specs.Prelude.{⊤}
use Rattle.std.specs.Str.{bytes_eq}
use Rattle.tough_keys.specs.Same.{Verifies}
use Rattle.tough_names.specs.Named.{Named}
use Rattle.tough_roles.specs.Root.{RootDoc}
use Rattle.tough_roles.specs.Signature.{SignedDoc}
use Rattle.tough_roles.specs.Timestamp.{TimestampDoc, MetafileDoc, metafile_in}
use Rattle.tough_roles.specs.declared.role_type.RoleType.TheVariants as role
use Rattle.tough_checks.specs.Documents.{root_in, timestamp_in, snapshot_in}
use Rattle.tough_checks.specs.Files.{time_file, root_file, timestamp_file, snapshot_file, targets_file, IsFree}
use Rattle.tough_schema.specs.Whole.{TreeDoc}
use Rattle.tough_schema.specs.Entries.{first_missing}
use Rattle.tough_trust.specs.Failure.{Failure, ParseMetadata}
use Rattle.tough_trust.specs.Listed.{by_root, judged}
use Rattle.tough_trust.specs.Outcomes.{if_read, unrefused, holds_json}
use Rattle.tough_trust.specs.Requests.{RequestDoc}
use Rattle.tough_trust.specs.Walk.{first_root, root_refusal, next_root}
use Rattle.tough_trust.proofs.lemmas.Passing.{if_read-ok, unrefused-ok}
use Rattle.tough_trust.proofs.lemmas.Walking.{first-passed}
use Rattle.tough_trust.specs.delegations.Bare.{held_as}
use Rattle.tough_update.specs.Answered.{AnswerDoc}
use Rattle.tough_update.specs.Answered as got
use Rattle.tough_update.specs.Delegated.{metas_in, is_reserved, if_found, grown_on, given, role_given, role_stored, with_received, role_holder, roles_begun, finished}
use Rattle.tough_update.specs.delegations.Growing.{Progress, wants, grown, first_work, go_on}
use Rattle.tough_update.specs.Machine.{walked, walk_from, walk_ended, want_snapshot, known_of, want_targets, read_wanted, after, stage_after}
use Rattle.tough_update.specs.Promises.{Goes}
use Rattle.tough_update.specs.Stages.{WalkDoc, BaseDoc, KnownDoc, WantedDoc, PendingDoc, ReceivedDoc, RolesDoc, LoadedDoc, StageDoc, SettingDoc, CoreDoc}
use Rattle.tough_update.specs.Stages as at
use Rattle.tough_update.proofs.Turning.{Fine, and_then-fine, walking, ending, beginning, keeps-answer}
use Rattle.tough_vault.proofs.Holding.{distinct}

-- a root was read from bytes
abbrev pub WasRead : SignedDoc RootDoc → Type 0
WasRead root = (bytes : List ℕ) × (root_in bytes ≡ Some root)

-- G holds of the root that a walk stands at, which is the one that it stores
module _ (G : SignedDoc RootDoc → Type 0) where
  abbrev pub Stands : StageDoc → Type 0
  Stands (at.Step (at.PutTimestamp b t)) = (bytes : List ℕ) × (timestamp_in bytes ≡ Some t)
  Stands (at.Step (at.PutSnapshot k listed)) = (bytes : List ℕ) × (snapshot_in bytes ≡ Some k.snapshot)
  Stands (at.Step (at.PutDelegated k roles name d)) = IsFree name
  Stands (at.Step (at.NoteTime now)) = ⊤
  Stands (at.Step (at.PutRoot w)) = G w.last
  Stands (at.Step (at.PutLast w)) = G w.last
  Stands (at.Step (at.PutTargets k d)) = ⊤
  Stands at.Moment = ⊤
  Stands (at.ReadRoot w) = G w.last
  Stands (at.Fetch (at.Root w) r) = G w.last
  Stands (at.Fetch (at.Timestamp b) r) = ⊤
  Stands (at.Fetch (at.Snapshot b t listed) r) = ⊤
  Stands (at.Fetch (at.Targets k listed) r) = ⊤
  Stands (at.Fetch (at.Role k roles listed) r) = ⊤
  Stands (at.Done r) = ⊤
  Stands at.Taken = ⊤

  -- so does it of a root that a look at the stored one gives
  abbrev pub Tells : AnswerDoc → Type 0
  Tells (got.Stored (Ok (Some root))) = G root
  Tells (got.Stored (Ok None)) = ⊤
  Tells (got.Stored (Err f)) = ⊤
  Tells (got.Moment now) = ⊤
  Tells (got.Bytes bytes) = ⊤
  Tells (got.NotStarted f) = ⊤
  Tells (got.Cut f) = ⊤
  Tells (got.Step r) = ⊤

  bad : (f : Failure) → Stands (at.Done (Err f))
  bad f = tt

  abbrev Well : Result StageDoc Failure → Type 0
  Well = Fine Stands bad

  -- it holds of the root that these bytes of a caller give, and is handed on from root to root
  abbrev pub Begins : Verifies → List ℕ → Type 0
  Begins v trusted = (root : SignedDoc RootDoc) → first_root v trusted ≡ Ok root → G root

  abbrev pub HandsOn : Verifies → Type 0
  HandsOn v = (old : SignedDoc RootDoc) (bytes : List ℕ) (root : SignedDoc RootDoc) → G old → next_root v old.role bytes ≡ Ok root → G root

-- a name that isn't reserved is free
not_name : (name file : List ℕ) → bytes_eq name file ≡ false → name ≢ file
not_name name file h e = true≢false (sym ((bytes_eq-Decides name file).1 e) ∙ h)

free : (name : List ℕ) → is_reserved name ≡ false → IsFree name
free name h =
    let a = or_parts (bytes_eq name root_file) _ h in
    let b = or_parts (bytes_eq name timestamp_file) _ a.1 in
    let c = or_parts (bytes_eq name snapshot_file) _ b.1 in
    let d = or_parts (bytes_eq name targets_file) _ c.1 in
    record { time = not_name name time_file d.1; root = not_name name root_file a.0; timestamp = not_name name timestamp_file b.0; snapshot = not_name name snapshot_file c.0 }

pub targets_free : IsFree targets_file
targets_free = record { time = distinct _ _ refl; root = distinct _ _ refl; timestamp = distinct _ _ refl; snapshot = distinct _ _ refl }

-- the next root was read, and so was the first one
pub next-read : (v : Verifies) (old : RootDoc) (bytes : List ℕ) (root : SignedDoc RootDoc) → next_root v old bytes ≡ Ok root → WasRead root
next-read v old bytes root h =
    let r = if_read-ok (ParseMetadata role.Root (holds_json bytes)) (root_in bytes) (λ d. unrefused (root_refusal v old d) d) root h in
    (bytes, r.1 ∙ ap Some (unrefused-ok (root_refusal v old r.0) r.0 root r.2).1)

pub first-read : (v : Verifies) (bytes : List ℕ) (root : SignedDoc RootDoc) → first_root v bytes ≡ Ok root → WasRead root
first-read v bytes root h = (bytes, (first-passed v bytes root h).0)

from-read : (G : SignedDoc RootDoc → Type 0) (w : WalkDoc) (o : Option (SignedDoc RootDoc)) → G w.last → Tells G (got.Stored (Ok o)) → G (walk_from w o).last
from-read G w None h t = h
from-read G w (Some r) h t = t

module _ (G : SignedDoc RootDoc → Type 0) (v : Verifies) (s : SettingDoc) (hands : HandsOn G v) (begins : Begins G v s.trusted) where
  reads : {D : Type 0} (f : Failure) (o : Option D) (to : D → StageDoc) → ((d : D) → o ≡ Some d → Stands G (to d)) → Well G (if_read f o (λ d. Ok (to d)))
  reads f None to good = tt
  reads f (Some d) to good = good d refl

  else_well : (b : Bool) (r s : Result StageDoc Failure) → Well G r → (b ≡ false → Well G s) → Well G (if b then r else s)
  else_well true r s one two = one
  else_well false r s one two = two refl

  walked-stands : (w : WalkDoc) → G w.last → Well G (walked s.limits w)
  walked-stands w h = walking (Stands G) (bad G) s.limits w (λ _ _. h) (λ _. h)

  ended-stands : (w : WalkDoc) → Well G (walk_ended s.limits s.enforced w)
  ended-stands w = ending (Stands G) (bad G) s.limits s.enforced w (λ _. tt)

  want_snapshot-stands : (b : BaseDoc) (t : SignedDoc TimestampDoc) (o : Option MetafileDoc) → Well G (want_snapshot s.limits b t o)
  want_snapshot-stands b t None = tt
  want_snapshot-stands b t (Some e) = tt

  want_targets-stands : (k : KnownDoc) (o : Option MetafileDoc) → Well G (want_targets s.limits k o)
  want_targets-stands k None = tt
  want_targets-stands k (Some e) = tt

  found-stands : (o : Option Named) (l : LoadedDoc) → Well G (if_found o l)
  found-stands None l = tt
  found-stands (Some name) l = tt

  grown-stands : (k : KnownDoc) (received : List ReceivedDoc) (p : Progress) → Well G (grown_on s.limits k received p)
  grown-stands k received (wants w e) = tt
  grown-stands k received (grown t) = found-stands (first_missing t.role) (record { known = k; targets = t; received = received })

  given-stands : (k : KnownDoc) (roles : RolesDoc) (d : SignedDoc TreeDoc) → Well G (role_given s.limits k roles d)
  given-stands k roles d = grown-stands k roles.received (go_on (metas_in k) (given roles.work d))

  read-stands : (w : WantedDoc) (r : RequestDoc) (bytes : List ℕ) → Stands G (at.Fetch w r) → Well G (read_wanted v s w r bytes)
  read-stands (at.Root w) r bytes t = and_then-fine (Stands G) (bad G) (next_root v w.last.role bytes) (λ root. Ok (at.Step (at.PutRoot (record { start = w.start; first = w.first; last = root })))) (λ root is. hands w.last bytes root t is)
  read-stands (at.Timestamp b) r bytes t = reads (ParseMetadata role.Timestamp (holds_json bytes)) (timestamp_in bytes) (λ d. at.Step (at.PutTimestamp b d)) (λ d is. (bytes, is))
  read-stands (at.Snapshot b x listed) r bytes t = reads (ParseMetadata role.Snapshot (holds_json bytes)) (snapshot_in bytes) (λ d. at.Step (at.PutSnapshot (known_of b x d) listed)) (λ d is. (bytes, is))
  read-stands (at.Targets k listed) r bytes t = and_then-fine (Stands G) (bad G) (judged v s.enforced k.start (by_root k.root.role) listed bytes) (λ d. Ok (at.Step (at.PutTargets k d))) (λ d is. tt)
  read-stands (at.Role k roles listed) r bytes t =
      let kept = with_received roles bytes in
      and_then-fine (Stands G) (bad G) (judged v s.enforced k.start (role_holder roles.work) listed bytes) (role_stored s.limits k kept r.name) (λ d is.
      else_well (is_reserved r.name) (role_given s.limits k kept d) (Ok (at.Step (at.PutDelegated k kept r.name d))) (given-stands k kept d) (free r.name))

  step-stands : (p : PendingDoc) → Stands G (at.Step p) → Well G (after v s p)
  step-stands (at.NoteTime now) h = beginning (Stands G) (bad G) v s.trusted now begins
  step-stands (at.PutRoot w) h = walked-stands w h
  step-stands (at.PutLast w) h = ended-stands w
  step-stands (at.PutTimestamp b x) h = want_snapshot-stands b x (metafile_in x.role.meta snapshot_file)
  step-stands (at.PutSnapshot k listed) h = want_targets-stands k (metafile_in k.snapshot.role.meta targets_file)
  step-stands (at.PutTargets k d) h =
      else_well s.whole (roles_begun s.limits k d) (finished k [] d) (grown-stands k [] (go_on (metas_in k) (first_work (held_as [] d)))) (λ _. found-stands (first_missing d.role) (record { known = k; targets = d; received = [] }))
  step-stands (at.PutDelegated k roles name d) h = given-stands k roles d

  turn-stands : (st : StageDoc) (a : AnswerDoc) → Stands G st → Tells G a → Well G (stage_after v s st a)
  turn-stands st a h told = keeps-answer v s (Stands G) (Stands G) (bad G) (λ _ x. Tells G x) (record {
    moment = λ now t _. tt;
    stored = λ w r t l. walked-stands (walk_from w r) (from-read G w r t l);
    read = λ w r bytes t _. read-stands w r bytes t;
    ends = λ w r a _ t _. t;
    step = λ p t _. step-stands p t;
    same = λ st a _ _ t _. t;
  }) st a h told

-- it holds at this stage, and of the root that the caller's bytes give
abbrev pub Sure : (SignedDoc RootDoc → Type 0) → Verifies → CoreDoc → Type 0
Sure G v c = Stands G c.stage × Begins G v c.setting.trusted

-- after each answer
pub goes-sure : (G : SignedDoc RootDoc → Type 0) (v : Verifies) → HandsOn G v → (c d : CoreDoc) (a : AnswerDoc) → Sure G v c → Tells G a → Goes v c a d → Sure G v d
goes-sure G v hands c d a t told (inl e) = subst (λ (x : CoreDoc). Sure G v x) (sym e) (turn-stands G v c.setting hands t.1 c.stage a t.0 told, t.1)
goes-sure G v hands c d a t told (inr e) = subst (λ (x : CoreDoc). Sure G v x) (sym e) (tt, t.1)
