-- A moment is noted once.
use Rattle.std.specs.Prelude.{◌≡◌, ℕ, ℤ, List, [], ◌∷◌, ◌++◌, Option, Some, None, Bool, ⊤, Ok, Err}
use Rattle.std.proofs.Common.{sym, subst, inl, inr}
use Rattle.tough_keys.specs.Same.{Verifies}
use Rattle.tough_roles.specs.Signature.{SignedDoc}
use Rattle.tough_roles.specs.Timestamp.{TimestampDoc, MetafileDoc}
use Rattle.tough_roles.specs.declared.role_type.RoleType.TheVariants as role
use Rattle.tough_checks.specs.Documents.{timestamp_in, snapshot_in}
use Rattle.tough_roles.specs.Timestamp.{metafile_in}
use Rattle.tough_checks.specs.Files.{snapshot_file, targets_file}
use Rattle.tough_vault.specs.Act.{NoteTime}
use Rattle.tough_trust.specs.Failure.{Failure, ParseMetadata}
use Rattle.tough_trust.specs.Walk.{next_root}
use Rattle.tough_trust.specs.Outcomes.{holds_json}
use Rattle.tough_trust.specs.Requests.{RequestDoc}
use Rattle.tough_trust.specs.Listed.{by_root, judged}
use Rattle.tough_update.specs.Delegated.{metas_in, is_reserved, if_found, grown_on, given, role_given, role_stored, with_received, role_holder, roles_begun, finished}
use Rattle.tough_names.specs.Named.{Named}
use Rattle.tough_schema.specs.Whole.{TreeDoc}
use Rattle.tough_schema.specs.Entries.{first_missing}
use Rattle.tough_update.specs.delegations.Growing.{Progress, wants, grown, go_on, begun}
use Rattle.tough_trust.specs.delegations.Bare.{held_as}
use Rattle.tough_update.specs.Stages.{WalkDoc, BaseDoc, KnownDoc, WantedDoc, PendingDoc, ReceivedDoc, RolesDoc, LoadedDoc, StageDoc, SettingDoc, CoreDoc}
use Rattle.tough_update.specs.Stages as at
use Rattle.tough_update.specs.Questions as ask
use Rattle.tough_update.specs.Answered.{AnswerDoc}
use Rattle.tough_update.specs.Answered as got
use Rattle.tough_update.specs.Machine.{question, question_at, answered, walked, walk_from, walk_ended, want_snapshot, known_of, want_targets, read_wanted, after, settled, stage_after}
use Rattle.tough_update.specs.Runs.{run}
use Rattle.tough_update.proofs.Turning.{Fine, if-fine, and_then-fine, walking, ending, beginning, reading, keeps-answer}
use Rattle.tough_update.proofs.Prefixes.{run-on, Parts, parts}

-- the moment was noted before
abbrev Late : StageDoc → Type 0
Late at.Moment = ⊥
Late (at.Step (at.NoteTime now)) = ⊥
Late _ = ⊤

bad : (f : Failure) → Late (at.Done (Err f))
bad f = tt

walked-late : (s : SettingDoc) (w : WalkDoc) → Fine Late bad (walked s.limits w)
walked-late s w = walking Late bad s.limits w (λ _ _. tt) (λ _. tt)

walk_ended-late : (s : SettingDoc) (w : WalkDoc) → Fine Late bad (walk_ended s.limits s.enforced w)
walk_ended-late s w = ending Late bad s.limits s.enforced w (λ _. tt)

want_snapshot-late : (s : SettingDoc) (b : BaseDoc) (t : SignedDoc TimestampDoc) (o : Option MetafileDoc) → Fine Late bad (want_snapshot s.limits b t o)
want_snapshot-late s b t None = tt
want_snapshot-late s b t (Some m) = tt

want_targets-late : (s : SettingDoc) (k : KnownDoc) (o : Option MetafileDoc) → Fine Late bad (want_targets s.limits k o)
want_targets-late s k None = tt
want_targets-late s k (Some m) = tt

found-late : (o : Option Named) (l : LoadedDoc) → Fine Late bad (if_found o l)
found-late None l = tt
found-late (Some name) l = tt

grown-late : (s : SettingDoc) (k : KnownDoc) (received : List ReceivedDoc) (p : Progress) → Fine Late bad (grown_on s.limits k received p)
grown-late s k received (wants w m) = tt
grown-late s k received (grown t) = found-late (first_missing t.role) (record { known = k; targets = t; received = received })

given-late : (s : SettingDoc) (k : KnownDoc) (roles : RolesDoc) (d : SignedDoc TreeDoc) → Fine Late bad (role_given s.limits k roles d)
given-late s k roles d = grown-late s k roles.received (go_on (metas_in k) (given roles.work d))

module _ (v : Verifies) where
  read-late : (s : SettingDoc) (w : WantedDoc) (r : RequestDoc) (bytes : List ℕ) → Fine Late bad (read_wanted v s w r bytes)
  read-late s (at.Root w) r bytes = and_then-fine Late bad (next_root v w.last.role bytes) (λ root. Ok (at.Step (at.PutRoot (record { start = w.start; first = w.first; last = root })))) (λ root _. tt)
  read-late s (at.Timestamp b) r bytes = reading Late bad (ParseMetadata role.Timestamp (holds_json bytes)) (timestamp_in bytes) (λ t. at.Step (at.PutTimestamp b t)) (λ t. tt)
  read-late s (at.Snapshot b t n) r bytes = reading Late bad (ParseMetadata role.Snapshot (holds_json bytes)) (snapshot_in bytes) (λ d. at.Step (at.PutSnapshot (known_of b t d) n)) (λ d. tt)
  read-late s (at.Targets k n) r bytes = and_then-fine Late bad (judged v s.enforced k.start (by_root k.root.role) n bytes) (λ d. Ok (at.Step (at.PutTargets k d))) (λ d _. tt)
  read-late s (at.Role k roles n) r bytes = and_then-fine Late bad (judged v s.enforced k.start (role_holder roles.work) n bytes) (role_stored s.limits k (with_received roles bytes) r.name) (λ d _.
      if-fine Late bad (is_reserved r.name) (role_given s.limits k (with_received roles bytes) d) (Ok (at.Step (at.PutDelegated k (with_received roles bytes) r.name d))) (λ _. given-late s k (with_received roles bytes) d) tt)

  step-late : (s : SettingDoc) (p : PendingDoc) → Fine Late bad (after v s p)
  step-late s (at.NoteTime now) = beginning Late bad v s.trusted now (λ root _. tt)
  step-late s (at.PutRoot w) = walked-late s w
  step-late s (at.PutLast w) = walk_ended-late s w
  step-late s (at.PutTimestamp b t) = want_snapshot-late s b t (metafile_in t.role.meta snapshot_file)
  step-late s (at.PutSnapshot k n) = want_targets-late s k (metafile_in k.snapshot.role.meta targets_file)
  step-late s (at.PutTargets k d) =
      if-fine Late bad s.whole (roles_begun s.limits k d) (finished k [] d) (λ _. grown-late s k [] (begun (metas_in k) (held_as [] d))) (found-late (first_missing d.role) (record { known = k; targets = d; received = [] }))
  step-late s (at.PutDelegated k roles name d) = given-late s k roles d

  answer-late : (s : SettingDoc) (st : StageDoc) (a : AnswerDoc) → Late st → Late (settled (stage_after v s st a))
  answer-late s st a h = keeps-answer v s Late Late bad (λ _ _. ⊤)
      (record { moment = λ now l _. absurd l; stored = λ w r _ _. walked-late s (walk_from w r); read = λ w r bytes _ _. read-late s w r bytes; ends = λ w r a _ _ _. tt; step = λ p _ _. step-late s p; same = λ st a _ _ l _. l }) st a h tt

  run-late : (answers : List AnswerDoc) (d : CoreDoc) → Late d.stage → Late (run v d answers).stage
  run-late [] d h = h
  run-late (a ∷ rest) d h = run-late rest (answered v d a) (answer-late d.setting d.stage a h)

  noting : (enforced : Bool) (st : StageDoc) (now : ℤ) → question_at enforced st ≡ ask.Step (NoteTime now) → st ≡ at.Step (at.NoteTime now)
  noting enforced (at.Step (at.NoteTime m)) now e = cc (e)
  noting enforced _ now e = absurd (cc (e))

  -- after a moment was noted none is
  noted-late : (d : CoreDoc) (now : ℤ) → d.stage ≡ at.Step (at.NoteTime now) → Late (answered v d (got.Step (Ok (tt {0})))).stage
  noted-late d now e = subst (λ st. Late (settled (stage_after v d.setting st (got.Step (Ok (tt {0})))))) (sym e) (step-late d.setting (at.NoteTime now))

  apart : (c : CoreDoc) (h r : List AnswerDoc) (now later : ℤ) → question (run v c h) ≡ ask.Step (NoteTime now) → question (run v c (h ++ got.Step (Ok (tt {0})) ∷ r)) ≡ ask.Step (NoteTime later) → ⊥
  apart c h r now later e f =
      let d = run v c h in
      let done : Late (run v (answered v d (got.Step (Ok (tt {0})))) r).stage = run-late r (answered v d (got.Step (Ok (tt {0})))) (noted-late d now (noting d.setting.enforced d.stage now e)) in
      let there : Late (run v c (h ++ got.Step (Ok (tt {0})) ∷ r)).stage = subst (λ (x : CoreDoc). Late x.stage) (sym (run-on v h c (got.Step (Ok (tt {0})) ∷ r))) done in
      subst Late (noting (run v c (h ++ got.Step (Ok (tt {0})) ∷ r)).setting.enforced (run v c (h ++ got.Step (Ok (tt {0})) ∷ r)).stage later f) there

  at-once : (c : CoreDoc) (h k : List AnswerDoc) (now later : ℤ) → question (run v c h) ≡ ask.Step (NoteTime now) → question (run v c k) ≡ ask.Step (NoteTime later)
      → Parts h k (got.Step (Ok (tt {0}))) (got.Step (Ok (tt {0}))) → h ≡ k
  at-once c h k now later f g (inl e) = e
  at-once c h k now later f g (inr (inl p)) = absurd (apart c h p.0 now later f (subst (λ x. question (run v c x) ≡ ask.Step (NoteTime later)) p.1 g))
  at-once c h k now later f g (inr (inr p)) = absurd (apart c k p.0 later now g (subst (λ x. question (run v c x) ≡ ask.Step (NoteTime now)) p.1 f))

  -- two moments that were noted stand at the same place
  pub once : (c : CoreDoc) (h k s t : List AnswerDoc) (now later : ℤ) → h ++ got.Step (Ok (tt {0})) ∷ s ≡ k ++ got.Step (Ok (tt {0})) ∷ t
      → question (run v c h) ≡ ask.Step (NoteTime now) → question (run v c k) ≡ ask.Step (NoteTime later) → h ≡ k
  once c h k s t now later e f g = at-once c h k now later f g (parts h k (got.Step (Ok (tt {0}))) (got.Step (Ok (tt {0}))) s t e)
