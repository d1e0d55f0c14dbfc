-- An update of the top-level documents comes to no delegated role.
use Rattle.std.specs.Prelude.{◌≡◌, ℕ, List, [], ◌∷◌, Option, Some, None, Bool, true, false, ⊤, Result, Ok, Err, if◌then◌else◌}
use Rattle.std.proofs.Common.{refl, sym, ap, subst}
use Rattle.tough_keys.specs.Same.{Verifies}
use Rattle.tough_roles.specs.Signature.{SignedDoc}
use Rattle.tough_roles.specs.Timestamp.{TimestampDoc, MetafileDoc}
use Rattle.tough_roles.specs.declared.role_type.RoleType.TheVariants as role
use Rattle.tough_checks.specs.Documents.{timestamp_in, snapshot_in}
use Rattle.tough_roles.specs.Timestamp.{metafile_in}
use Rattle.tough_checks.specs.Files.{snapshot_file, targets_file}
use Rattle.tough_trust.specs.Failure.{Failure, ParseMetadata}
use Rattle.tough_trust.specs.Walk.{next_root}
use Rattle.tough_trust.specs.Outcomes.{holds_json}
use Rattle.tough_trust.specs.Requests.{RequestDoc}
use Rattle.tough_trust.specs.Listed.{by_root, judged}
use Rattle.tough_trust.specs.delegations.Bare.{bare}
use Rattle.tough_trust.proofs.lemmas.Bare.{top-bare}
use Rattle.tough_trust.proofs.lemmas.Judging.{judged-ok}
use Rattle.tough_update.specs.Delegated.{if_found, roles_begun, finished, targets_stored}
use Rattle.tough_names.specs.Named.{Named}
use Rattle.tough_schema.specs.Whole.{TreeDoc}
use Rattle.tough_schema.specs.Entries.{first_missing}
use Rattle.tough_update.specs.Stages.{WalkDoc, BaseDoc, KnownDoc, WantedDoc, PendingDoc, LoadedDoc, StageDoc, SettingDoc, CoreDoc}
use Rattle.tough_update.specs.Stages as at
use Rattle.tough_update.specs.Answered.{AnswerDoc}
use Rattle.tough_update.specs.Machine.{answered, walked, walk_from, walk_ended, want_snapshot, known_of, want_targets, read_wanted, after, settled, stage_after}
use Rattle.tough_update.specs.Runs.{run, IsFresh}
use Rattle.tough_update.specs.Tops.{AsksNoRole, IsBare}
use Rattle.tough_update.proofs.Turning.{Fine, and_then-fine, walking, ending, beginning, reading, keeps-answer}

bad : (f : Failure) → AsksNoRole (at.Done (Err f))
bad f = tt

module _ (v : Verifies) (s : SettingDoc) (tops : s.whole ≡ false) where
  abbrev Well : Result StageDoc Failure → Type 0
  Well = Fine AsksNoRole bad

  walked-top : (w : WalkDoc) → Well (walked s.limits w)
  walked-top w = walking AsksNoRole bad s.limits w (λ _ _. tt) (λ _. tt)

  want_snapshot-top : (b : BaseDoc) (t : SignedDoc TimestampDoc) (o : Option MetafileDoc) → Well (want_snapshot s.limits b t o)
  want_snapshot-top b t None = tt
  want_snapshot-top b t (Some m) = tt

  want_targets-top : (k : KnownDoc) (o : Option MetafileDoc) → Well (want_targets s.limits k o)
  want_targets-top k None = tt
  want_targets-top k (Some m) = tt

  found-top : (o : Option Named) (l : LoadedDoc) → IsBare l.targets → l.received ≡ [] → Well (if_found o l)
  found-top None l b h = (b, h)
  found-top (Some name) l b h = tt

  chosen-top : (b : Bool) (k : KnownDoc) (d : SignedDoc TreeDoc) → IsBare d → b ≡ false → Well (if b then roles_begun s.limits k d else finished k [] d)
  chosen-top true k d is h = absurd (cc (h))
  chosen-top false k d is h = found-top (first_missing d.role) (record { known = k; targets = d; received = [] }) is refl

  judged-bare : (k : KnownDoc) (n : ℕ) (bytes : List ℕ) (d : SignedDoc TreeDoc) → judged v s.enforced k.start (by_root k.root.role) n bytes ≡ Ok d → IsBare d
  judged-bare k n bytes d h =
      let p = judged-ok v s.enforced k.start (by_root k.root.role) n bytes d h in
      subst IsBare (sym p.is) (ap bare (sym (top-bare p.page)))

  read-top : (w : WantedDoc) (r : RequestDoc) (bytes : List ℕ) → AsksNoRole (at.Fetch w r) → Well (read_wanted v s w r bytes)
  read-top (at.Root w) r bytes h = and_then-fine AsksNoRole bad (next_root v w.last.role bytes) (λ root. Ok (at.Step (at.PutRoot (record { start = w.start; first = w.first; last = root })))) (λ root _. tt)
  read-top (at.Timestamp b) r bytes h = reading AsksNoRole bad (ParseMetadata role.Timestamp (holds_json bytes)) (timestamp_in bytes) (λ t. at.Step (at.PutTimestamp b t)) (λ t. tt)
  read-top (at.Snapshot b t n) r bytes h = reading AsksNoRole bad (ParseMetadata role.Snapshot (holds_json bytes)) (snapshot_in bytes) (λ d. at.Step (at.PutSnapshot (known_of b t d) n)) (λ d. tt)
  read-top (at.Targets k n) r bytes h = and_then-fine AsksNoRole bad (judged v s.enforced k.start (by_root k.root.role) n bytes) (λ d. Ok (at.Step (at.PutTargets k d))) (judged-bare k n bytes)
  read-top (at.Role k roles n) r bytes h = absurd h

  step-top : (p : PendingDoc) → AsksNoRole (at.Step p) → Well (after v s p)
  step-top (at.NoteTime now) h = beginning AsksNoRole bad v s.trusted now (λ root _. tt)
  step-top (at.PutRoot w) h = walked-top w
  step-top (at.PutLast w) h = ending AsksNoRole bad s.limits s.enforced w (λ _. tt)
  step-top (at.PutTimestamp b t) h = want_snapshot-top b t (metafile_in t.role.meta snapshot_file)
  step-top (at.PutSnapshot k n) h = want_targets-top k (metafile_in k.snapshot.role.meta targets_file)
  step-top (at.PutTargets k d) h = chosen-top s.whole k d h tops
  step-top (at.PutDelegated k roles name d) h = absurd h

  answer-top : (st : StageDoc) (a : AnswerDoc) → AsksNoRole st → AsksNoRole (settled (stage_after v s st a))
  answer-top st a h = keeps-answer v s AsksNoRole AsksNoRole bad (λ _ _. ⊤) (record {
    moment = λ now _ _. tt;
    stored = λ w r _ _. walked-top (walk_from w r);
    read = λ w r bytes l _. read-top w r bytes l;
    ends = λ w r a _ _ _. tt;
    step = λ p l _. step-top p l;
    same = λ st a _ _ l _. l;
  }) st a h tt

run-top : (v : Verifies) (answers : List AnswerDoc) (c : CoreDoc) → c.setting.whole ≡ false → AsksNoRole c.stage → AsksNoRole (run v c answers).stage
run-top v [] c tops h = h
run-top v (a ∷ rest) c tops h = run-top v rest (answered v c a) tops (answer-top v c.setting tops c.stage a h)

pub asks-none : (v : Verifies) (c : CoreDoc) (answers : List AnswerDoc) → IsFresh c → c.setting.whole ≡ false → AsksNoRole (run v c answers).stage
asks-none v c answers fresh tops = run-top v answers c tops (subst AsksNoRole (sym fresh) tt)
