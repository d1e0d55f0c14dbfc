-- Where the files have no root after the one that was handed in, none is stored before the walk's end.
use Rattle.std.specs.Prelude.{◌≡◌, ℕ, ◌+◌, ℤ, List, [], Option, Some, None, ⊤, Result, Ok, Err}
use Rattle.std.proofs.Common.{sym, ap, ◌∙◌, subst}
use Rattle.tough_keys.specs.Same.{Verifies}
use Rattle.tough_names.specs.Named.{Named}
use Rattle.tough_roles.specs.Root.{RootDoc}
use Rattle.tough_roles.specs.Signature.{SignedDoc}
use Rattle.tough_roles.specs.Timestamp.{TimestampDoc, MetafileDoc, metafile_in}
use Rattle.tough_roles.specs.declared.role_type.RoleType.TheVariants as role
use Rattle.tough_checks.specs.Documents.{root_in, timestamp_in, snapshot_in}
use Rattle.tough_checks.specs.Files.{snapshot_file, targets_file}
use Rattle.tough_schema.specs.Whole.{TreeDoc}
use Rattle.tough_schema.specs.Entries.{first_missing}
use Rattle.tough_trust.specs.Failure.{Failure, ParseMetadata}
use Rattle.tough_trust.specs.Listed.{by_root, judged}
use Rattle.tough_trust.specs.Outcomes.{holds_json}
use Rattle.tough_trust.specs.Requests.{RequestDoc, root_request}
use Rattle.tough_trust.specs.Walk.{first_root}
use Rattle.tough_trust.specs.delegations.Bare.{held_as}
use Rattle.tough_trust.proofs.lemmas.Walking.{first-passed}
use Rattle.tough_update.specs.delegations.Growing.{Progress, wants, grown, go_on, begun}
use Rattle.tough_update.specs.Delegated.{metas_in, is_reserved, if_found, grown_on, given, role_given, role_stored, with_received, role_holder, roles_begun, finished}
use Rattle.tough_update.specs.Stages.{WalkDoc, BaseDoc, KnownDoc, WantedDoc, PendingDoc, ReceivedDoc, RolesDoc, LoadedDoc, StageDoc, SettingDoc}
use Rattle.tough_update.specs.Stages as at
use Rattle.tough_update.specs.Answered.{AnswerDoc}
use Rattle.tough_update.specs.Answered as got
use Rattle.tough_update.specs.Loadable.{Files, Gets, Honest}
use Rattle.tough_update.specs.Machine.{walked, walk_from, want_snapshot, known_of, want_targets, read_wanted, after, stage_after, settled, question_at}
use Rattle.tough_update.proofs.Turning.{Fine, if-fine, and_then-fine, walking, ending, beginning, reading, keeps-answer}

-- no root but the walk's last one is to be stored
abbrev pub IsAlone : PendingDoc → Type 0
IsAlone (at.PutRoot w) = ⊥
IsAlone (at.NoteTime now) = ⊤
IsAlone (at.PutLast w) = ⊤
IsAlone (at.PutTimestamp b t) = ⊤
IsAlone (at.PutSnapshot k listed) = ⊤
IsAlone (at.PutTargets k d) = ⊤
IsAlone (at.PutDelegated k roles name d) = ⊤

abbrev pub AloneAt : StageDoc → Type 0
AloneAt (at.Step p) = IsAlone p
AloneAt at.Moment = ⊤
AloneAt (at.ReadRoot w) = ⊤
AloneAt (at.Fetch w r) = ⊤
AloneAt (at.Done r) = ⊤
AloneAt at.Taken = ⊤

module _ (v : Verifies) (s : SettingDoc) (served : Files) (now : ℤ) (root : SignedDoc RootDoc) (trusted : root_in s.trusted ≡ Some root)
    (no_next : served (root_request s.limits (root.role.head.version + 1)).name ≡ None) where
  -- the walk is at the root that was handed in, and no next one is served
  abbrev pub Alone : StageDoc → Type 0
  Alone at.Moment = ⊤
  Alone (at.ReadRoot w) = w.last ≡ root
  Alone (at.Fetch (at.Root w) r) = served r.name ≡ None
  Alone (at.Fetch (at.Timestamp b) r) = ⊤
  Alone (at.Fetch (at.Snapshot b t listed) r) = ⊤
  Alone (at.Fetch (at.Targets k listed) r) = ⊤
  Alone (at.Fetch (at.Role k roles listed) r) = ⊤
  Alone (at.Step p) = IsAlone p
  Alone (at.Done r) = ⊤
  Alone at.Taken = ⊤

  bad : (f : Failure) → Alone (at.Done (Err f))
  bad f = tt

  abbrev Goes : Result StageDoc Failure → Type 0
  Goes = Fine Alone bad

  abbrev Heard : StageDoc → AnswerDoc → Type 0
  Heard stage a = Honest v served now (question_at s.enforced stage) a

  no-bytes : (r : RequestDoc) (o : Option (List ℕ)) (bytes : List ℕ) → o ≡ None → Gets r o (got.Bytes bytes) → ⊥
  no-bytes r o bytes e h = let x = subst (λ p. Gets r p (got.Bytes bytes)) e h in cc (x.1)

  walked-alone : (w : WalkDoc) → w.last ≡ root → Goes (walked s.limits w)
  walked-alone w is = walking Alone bad s.limits w (λ _ _. tt) (λ _. ap (λ (r : SignedDoc RootDoc). served (root_request s.limits (r.role.head.version + 1)).name) is ∙ no_next)

  from-alone : (w : WalkDoc) (o : Option (SignedDoc RootDoc)) → w.last ≡ root → o ≡ None → Goes (walked s.limits (walk_from w o))
  from-alone w None is e = walked-alone w is
  from-alone w (Some r) is e = absurd (cc (e))

  stored-none : (o : Option (SignedDoc RootDoc)) → got.Stored (Ok o) ≡ got.Stored (Ok None) → o ≡ None
  stored-none o e = cc (e)

  handed-in : (r : SignedDoc RootDoc) → first_root v s.trusted ≡ Ok r → r ≡ root
  handed-in r h = let e : Some r ≡ Some root = sym (first-passed v s.trusted r h).0 ∙ trusted in cc (e)

  want_snapshot-alone : (b : BaseDoc) (t : SignedDoc TimestampDoc) (o : Option MetafileDoc) → Goes (want_snapshot s.limits b t o)
  want_snapshot-alone b t None = tt
  want_snapshot-alone b t (Some m) = tt

  want_targets-alone : (k : KnownDoc) (o : Option MetafileDoc) → Goes (want_targets s.limits k o)
  want_targets-alone k None = tt
  want_targets-alone k (Some m) = tt

  found-alone : (o : Option Named) (l : LoadedDoc) → Goes (if_found o l)
  found-alone None l = tt
  found-alone (Some name) l = tt

  grown-alone : (k : KnownDoc) (received : List ReceivedDoc) (p : Progress) → Goes (grown_on s.limits k received p)
  grown-alone k received (wants w m) = tt
  grown-alone k received (grown t) = found-alone (first_missing t.role) (record { known = k; targets = t; received = received })

  given-alone : (k : KnownDoc) (roles : RolesDoc) (d : SignedDoc TreeDoc) → Goes (role_given s.limits k roles d)
  given-alone k roles d = grown-alone k roles.received (go_on (metas_in k) (given roles.work d))

  read-alone : (w : WantedDoc) (r : RequestDoc) (bytes : List ℕ) → Alone (at.Fetch w r) → Heard (at.Fetch w r) (got.Bytes bytes) → Goes (read_wanted v s w r bytes)
  read-alone (at.Root w) r bytes h l = absurd (no-bytes r (served r.name) bytes h l)
  read-alone (at.Timestamp b) r bytes h l = reading Alone bad (ParseMetadata role.Timestamp (holds_json bytes)) (timestamp_in bytes) (λ t. at.Step (at.PutTimestamp b t)) (λ t. tt)
  read-alone (at.Snapshot b t n) r bytes h l = reading Alone bad (ParseMetadata role.Snapshot (holds_json bytes)) (snapshot_in bytes) (λ d. at.Step (at.PutSnapshot (known_of b t d) n)) (λ d. tt)
  read-alone (at.Targets k n) r bytes h l = and_then-fine Alone bad (judged v s.enforced k.start (by_root k.root.role) n bytes) (λ d. Ok (at.Step (at.PutTargets k d))) (λ d _. tt)
  read-alone (at.Role k roles n) r bytes h l =
      let kept = with_received roles bytes in
      and_then-fine Alone bad (judged v s.enforced k.start (role_holder roles.work) n bytes) (role_stored s.limits k kept r.name) (λ d _.
      if-fine Alone bad (is_reserved r.name) (role_given s.limits k kept d) (Ok (at.Step (at.PutDelegated k kept r.name d))) (λ _. given-alone k kept d) tt)

  step-alone : (p : PendingDoc) → Alone (at.Step p) → Heard (at.Step p) (got.Step (Ok (tt {0}))) → Goes (after v s p)
  step-alone (at.NoteTime t) h l = beginning Alone bad v s.trusted t (λ r is. handed-in r is)
  step-alone (at.PutRoot w) h l = absurd h
  step-alone (at.PutLast w) h l = ending Alone bad s.limits s.enforced w (λ _. tt)
  step-alone (at.PutTimestamp b t) h l = want_snapshot-alone b t (metafile_in t.role.meta snapshot_file)
  step-alone (at.PutSnapshot k n) h l = want_targets-alone k (metafile_in k.snapshot.role.meta targets_file)
  step-alone (at.PutTargets k d) h l =
      if-fine Alone bad s.whole (roles_begun s.limits k d) (finished k [] d) (λ _. grown-alone k [] (begun (metas_in k) (held_as [] d))) (found-alone (first_missing d.role) (record { known = k; targets = d; received = [] }))
  step-alone (at.PutDelegated k roles name d) h l = given-alone k roles d

  pub is-alone : (stage : StageDoc) → Alone stage → AloneAt stage
  is-alone at.Moment h = tt
  is-alone (at.ReadRoot w) h = tt
  is-alone (at.Fetch w r) h = tt
  is-alone (at.Step p) h = h
  is-alone (at.Done r) h = tt
  is-alone at.Taken h = tt

  -- each honest answer keeps it
  pub turn-alone : (stage : StageDoc) (a : AnswerDoc) → Alone stage → Heard stage a → Alone (settled (stage_after v s stage a))
  turn-alone stage a h l = keeps-answer v s Alone Alone bad Heard (record {
    moment = λ t h l. tt;
    stored = λ w o h l. from-alone w o h (stored-none o l);
    read = read-alone;
    ends = λ w r a _ h l. tt;
    step = step-alone;
    same = λ st a _ _ h l. h;
  }) stage a h l
