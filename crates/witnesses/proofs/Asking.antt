-- Which files a loadable repository without delegated roles is asked for, by an update that is answered honestly.
use Rattle.std.specs.Prelude.{◌≡◌, ◌≢◌, ℕ, suc, ℤ, ◌+◌, ◌-◌, ◌^◌, ◌<◌, ◌≤◌, ◌==◌, List, [], ◌∷◌, ◌++◌, length, map, sum_by, Option, Some, None, option_map, option_and_then, Bool, true, false, not, nat_lt, is_some, Result, Ok, Err, if◌then◌else◌}
use Rattle.std.proofs.Common.{refl, sym, ◌∙◌, ap, subst, arith, add-zero, zero-add}
use Rattle.std.proofs.lemmas.Bool.{eq-eqb, lt-ltb}
use Rattle.std.proofs.Math.Nat.{sub_self}
use Rattle.serde_json.specs.Data.{Data}
use Rattle.tough_net.specs.declared.error.TransportError.{TransportError}
use Rattle.tough_net.specs.declared.error.TransportErrorKind.TheVariants as kind
use Rattle.tough_net.specs.Errors.{error_kind}
use Rattle.tough_keys.specs.Same.{Verifies}
use Rattle.tough_roles.specs.Signature.{SignedDoc}
use Rattle.tough_roles.specs.Root.{RootDoc, root_json}
use Rattle.tough_roles.specs.Timestamp.{MetafileDoc, timestamp_json}
use Rattle.tough_roles.specs.Snapshot.{snapshot_json}
use Rattle.tough_roles.specs.Policy.{policy}
use Rattle.tough_roles.specs.Verdict.{Refused, MissingRole, RoleNotFound, verdict}
use Rattle.tough_roles.specs.Chain.{ReachesUnder, text_by}
use Rattle.tough_roles.specs.declared.role_type.RoleType.{RoleType}
use Rattle.tough_roles.specs.declared.role_type.RoleType.TheVariants as role
use Rattle.tough_roles.proofs.lemmas.Reached.{reaches-to}
use Rattle.tough_schema.specs.Targets.{TargetsDoc, targets_json}
use Rattle.tough_checks.specs.Checks.{Reason, VersionMismatch, TimestampMetaLength, MissingSnapshotMeta, SnapshotTargetsMetaMissing, ExpiredMetadata, refuse, or_else, is_expired, expiry, verified, timestamp_form, snapshot_form}
use Rattle.tough_checks.specs.Documents.{root_text, root_verdict, snapshot_verdict}
use Rattle.tough_roles.specs.Timestamp.{metafile_in}
use Rattle.tough_vault.specs.Steps.{time_text, needs}
use Rattle.tough_vault.specs.Act.{Act}
use Rattle.tough_vault.specs.Act as act
use Rattle.tough_checks.specs.Files.{snapshot_file, targets_file}
use Rattle.tough_trust.specs.Failure.{Failure, ParseTrustedMetadata, ParseMetadata, MaxUpdatesExceeded, Checked}
use Rattle.tough_trust.specs.Walk.{if_trusted, first_root}
use Rattle.tough_trust.specs.Outcomes.{holds_json, if_read, unless, and_then}
use Rattle.tough_trust.proofs.lemmas.Judging.{judged-to}
use Rattle.tough_trust.specs.Requests.{RequestDoc, fits_request, root_request, timestamp_request, snapshot_request, targets_request, role_request}
use Rattle.tough_trust.specs.Listed.{by_root, by_delegations, targets_text, targets_verdict, targets_refusal, judged}
use Rattle.tough_update.specs.Delegated.{metas_in, is_reserved, if_found, grown_on, roles_begun, role_given, role_stored, with_received, role_holder, finished}
use Rattle.tough_trust.specs.delegations.Bare.{bare, top_page, held_as}
use Rattle.tough_update.specs.growth.Full.{fetch_order}
use Rattle.tough_trust.proofs.lemmas.Bare.{top-bare}
use Rattle.tough_schema.specs.Delegations.{DelegationsDoc}
use Rattle.tough_schema.specs.Tree.{Entry}
use Rattle.tough_schema.specs.Whole.{top_doc}
use Rattle.tough_schema.specs.Entries.{first_missing}
use Rattle.tough_update.specs.Stages.{WalkDoc, BaseDoc, RolesDoc, ReceivedDoc, LoadedDoc, StageDoc, SettingDoc, CoreDoc}
use Rattle.tough_update.specs.Stages as at
use Rattle.tough_update.specs.Questions as ask
use Rattle.tough_trust.specs.declared.fault.Fault.TheVariants as fault
use Rattle.tough_update.specs.Answered.{AnswerDoc}
use Rattle.tough_update.specs.Answered as got
use Rattle.tough_update.specs.Machine.{question, question_at, settled, stage_after, ask_root, walked, want_snapshot, known_of, want_targets, new_targets}
use Rattle.tough_trust.specs.Faults.{is_memory, fault_failure}
use Rattle.tough_update.specs.Runs.{run, IsFresh}
use Rattle.tough_update.specs.Loadable.{walk_turns, Files, Delivers, Gets, refusal_at_first, step_answer, Honest, AllHonest, IsRoleServed, IsServedUnder, or_nothing, role_bytes, turns_as, role_turns, all_turns, Loadable, IsLoaded}
use Rattle.std.proofs.Common.{inl, inr}
use Rattle.std.specs.Prelude.{◌⊎◌}
use Rattle.tough_decoded.specs.Spelled.{Spelled}
use Rattle.tough_keys.specs.Key.{KeyDoc}
use Rattle.tough_names.specs.Named.{Named}
use Rattle.tough_roles.specs.Signature.{SignatureDoc}
use Rattle.tough_schema.specs.Entries.{entry_names}
use Rattle.tough_schema.specs.Whole.{TreeDoc, tree, Branches, no_branches, unloaded, loaded, OwnDoc}
use Rattle.tough_net.specs.declared.limits.Limits.{Limits}
use Rattle.tough_trust.specs.Failure.{InvalidPath}
use Rattle.tough_trust.specs.delegations.Bare.{roles_of, all_unloaded}
use Rattle.tough_update.specs.Stages.{KnownDoc}

signed-ok : {A : Type 0} (v : Verifies) (holder : RootDoc) (type : RoleType) (json : A → Option Data) (d : SignedDoc A) → ReachesUnder v holder type json d
    → verdict v (MissingRole type) type (policy holder type) (text_by json d.role) d.signatures ≡ Ok (tt {0})
signed-ok v holder type json d r =
    ap (λ p. verdict v (MissingRole type) type p (text_by json d.role) d.signatures) r.there ∙ (ap (λ t. verdict v (MissingRole type) type (Some r.asked) t d.signatures) r.canonical ∙ reaches-to v (MissingRole type) type r.asked r.text d.signatures r.reached)

gets-bytes : (r : RequestDoc) (o : Option (List ℕ)) (bytes : List ℕ) → o ≡ Some bytes → fits_request r bytes ≡ true → (x : AnswerDoc) → Gets r o x → x ≡ got.Bytes bytes
gets-bytes r o bytes e f x h = subst (λ b. Delivers b bytes x) f (subst (λ p. Gets r p x) e h)

gets-none : (r : RequestDoc) (o : Option (List ℕ)) → o ≡ None → (x : AnswerDoc) → Gets r o x → (e : TransportError) × (x ≡ got.NotStarted (fault.Transport e)) × (error_kind e ≡ kind.FileNotFound)
gets-none r o e x h = subst (λ p. Gets r p x) e h

has-text : (o : Option (List ℕ)) → o ≢ None → needs o ≡ None
has-text None h = absurd (h refl)
has-text (Some text) h = refl

none-first : (n limit : ℕ) → 0 < limit → nat_lt (n - n) limit ≡ true
none-first n limit h = ap (λ k. nat_lt k limit) (sub_self n) ∙ lt-ltb 0 limit h

-- ---- where no role is delegated to, the update ends behind the targets

finish : (missing : Option Named) (l : LoadedDoc) → (r : Result LoadedDoc Failure) × (settled (if_found missing l) ≡ at.Done r)
finish None l = (Ok l, refl)
finish (Some name) l = (Err (InvalidPath (Some name)), refl)

ends-bare : (limits : Limits) (k : KnownDoc) (ss : List SignatureDoc) (own : OwnDoc) (es : List Entry) → es ≡ [] → (r : Result LoadedDoc Failure) × (settled (roles_begun limits k (record { role = tree own (all_unloaded es); signatures = ss })) ≡ at.Done r)
ends-bare limits k ss own [] h = finish _ _
ends-bare limits k ss own (e ∷ es) h = absurd (cc (h))

no-roles : (keys : Option (List (Spelled × KeyDoc))) → roles_of (option_map (λ ks. record { keys = ks; roles = [] }) keys) ≡ []
no-roles None = refl
no-roles (Some ks) = refl

roles-end : (limits : Limits) (k : KnownDoc) (ss : List SignatureDoc) (t : TreeDoc) → entry_names t ≡ [] → (r : Result LoadedDoc Failure) × (settled (roles_begun limits k (bare (top_page (record { role = t; signatures = ss })))) ≡ at.Done r)
roles-end limits k ss (tree o no_branches) h = ends-bare limits k ss _ _ (no-roles o.keys)
roles-end limits k ss (tree o (unloaded e bs)) h = absurd (cc (h))
roles-end limits k ss (tree o (loaded e name signatures t bs)) h = absurd (cc (h))

module _ (v : Verifies) (files : Files) (s : SettingDoc) (l : LoadedDoc) (able : Loadable v files s l) where
  abbrev in_stage : StageDoc → CoreDoc
  in_stage st = record { setting = s; stage = st }

  passes : (act : Act) → refusal_at_first v act ≡ None → (x : AnswerDoc) → Honest v files l.known.start (ask.Step act) x → x ≡ got.Step (Ok (tt {0}))
  passes act e x h = h ∙ ap step_answer e

  abbrev walk : WalkDoc
  walk = record { start = l.known.start; first = l.known.root; last = l.known.root }

  abbrev base : BaseDoc
  base = record { start = l.known.start; root = l.known.root }

  time-passes : refusal_at_first v (act.NoteTime l.known.start) ≡ None
  time-passes = ap (λ o. or_else o None) (has-text (time_text l.known.start) able.start_text)

  root-passes : refusal_at_first v (act.PutRoot l.known.root) ≡ None
  root-passes =
      ap (λ w. or_else (verified role.Root w) (or_else (needs (root_text l.known.root)) None)) (signed-ok v l.known.root.role role.Root root_json l.known.root able.root_signed)
      ∙ ap (λ o. or_else o None) (has-text (root_text l.known.root) able.root_stored)

  targets-pass : refusal_at_first v (act.PutDocument targets_file (targets_text (top_page l.targets))) ≡ None
  targets-pass = ap (λ o. or_else o None) (has-text (targets_text (top_page l.targets)) able.targets_stored)

  unexpired : (type : RoleType) (expires : ℤ) → is_expired s.enforced l.known.start expires ≡ false → or_else (expiry type s.enforced l.known.start expires) None ≡ None
  unexpired type expires e = ap (λ b. or_else (refuse b (ExpiredMetadata type expires l.known.start)) None) e

  timestamp-formed : timestamp_form l.known.timestamp.role ≡ None
  timestamp-formed =
      let version = l.known.timestamp.role.head.version in
      let count = length l.known.timestamp.role.meta in
      let listing : Option MetafileDoc → Option Reason = λ o. or_else (refuse (not (is_some o)) (MissingSnapshotMeta version)) None in
      ap (λ b. or_else (refuse (not b) (TimestampMetaLength version count)) (listing (metafile_in l.known.timestamp.role.meta snapshot_file))) (eq-eqb _ _ able.alone)
      ∙ ap listing able.listed

  timestamp-passes : refusal_at_first v (act.AdvanceTimestamp l.known.root.role l.known.timestamp l.known.start s.enforced) ≡ None
  timestamp-passes =
      let in_time = or_else (expiry role.Timestamp s.enforced l.known.start l.known.timestamp.role.head.expires) None in
      ap (λ w. or_else (or_else (verified role.Timestamp w) (or_else (timestamp_form l.known.timestamp.role) None)) in_time) (signed-ok v l.known.root.role role.Timestamp timestamp_json l.known.timestamp able.timestamp_signed)
      ∙ (ap (λ o. or_else (or_else o None) in_time) timestamp-formed ∙ unexpired role.Timestamp l.known.timestamp.role.head.expires able.timestamp_in_time)

  snapshot-formed : snapshot_form l.known.snapshot.role ≡ None
  snapshot-formed = ap (λ (o : Option MetafileDoc). refuse (not (is_some o)) (SnapshotTargetsMetaMissing l.known.snapshot.role.head.version)) able.targets_listed

  snapshot-passes : refusal_at_first v (act.AdvanceSnapshot l.known.root.role able.entry.version l.known.snapshot l.known.start s.enforced) ≡ None
  snapshot-passes =
      let version = l.known.snapshot.role.head.version in
      let in_time = or_else (expiry role.Snapshot s.enforced l.known.start l.known.snapshot.role.head.expires) None in
      let rest : Result Unit Refused → Option Reason = λ w. or_else (verified role.Snapshot w) (or_else (snapshot_form l.known.snapshot.role) None) in
      ap (λ b. or_else (or_else (refuse (not b) (VersionMismatch role.Snapshot version able.entry.version)) (rest (snapshot_verdict v l.known.root.role l.known.snapshot))) in_time) (eq-eqb _ _ able.snapshot_version)
      ∙ (ap (λ w. or_else (rest w) in_time) (signed-ok v l.known.root.role role.Snapshot snapshot_json l.known.snapshot able.snapshot_signed)
      ∙ (ap (λ o. or_else (or_else o None) in_time) snapshot-formed ∙ unexpired role.Snapshot l.known.snapshot.role.head.expires able.snapshot_in_time))

  bare-text : targets_text (top_page (bare (top_page l.targets))) ≡ targets_text (top_page l.targets)
  bare-text = ap targets_text (top-bare (top_page l.targets))

  abbrev page : SignedDoc TargetsDoc
  page = top_page l.targets

  checked : targets_refusal v s.enforced l.known.start (by_root l.known.root.role) able.targets_entry.version page ≡ None
  checked =
      let expiring : Bool → Option Reason = λ b. or_else (refuse b (ExpiredMetadata role.Targets page.role.head.expires l.known.start)) None in
      let versioned : Bool → Option Reason = λ b. or_else (refuse (not b) (VersionMismatch role.Targets page.role.head.version able.targets_entry.version)) (expiring (is_expired s.enforced l.known.start page.role.head.expires)) in
      ap (λ w. or_else (verified role.Targets w) (versioned (page.role.head.version == able.targets_entry.version))) (signed-ok v l.known.root.role role.Targets targets_json page able.targets_signed)
      ∙ (ap versioned (eq-eqb _ _ able.targets_version) ∙ ap expiring able.targets_in_time)

  read : judged v s.enforced l.known.start (by_root l.known.root.role) able.targets_entry.version able.targets.bytes ≡ Ok (bare page)
  read = judged-to v s.enforced l.known.start (by_root l.known.root.role) able.targets_entry.version able.targets.bytes page able.targets.reading checked

  moves-targets : new_targets v s.enforced l.known able.targets_entry.version able.targets.bytes ≡ Ok (at.Step (at.PutTargets l.known (bare page)))
  moves-targets = ap (λ r. and_then r (λ d. Ok (at.Step (at.PutTargets l.known d)))) read

  abbrev targets_wanted : StageDoc
  targets_wanted = at.Fetch (at.Targets l.known able.targets_entry.version) (targets_request s.limits l.known.root.role.consistent_snapshot able.targets_entry)

  abbrev snapshot_wanted : StageDoc
  snapshot_wanted = at.Fetch (at.Snapshot base l.known.timestamp able.entry.version) (snapshot_request s.limits l.known.root.role.consistent_snapshot able.entry)

  abbrev root_wanted : StageDoc
  root_wanted = at.Fetch (at.Root walk) (root_request s.limits (l.known.root.role.head.version + 1))

  walk-ends : (x : AnswerDoc) → (e : TransportError) × (x ≡ got.NotStarted (fault.Transport e)) × (error_kind e ≡ kind.FileNotFound) → settled (stage_after v s root_wanted x) ≡ at.Step (at.PutLast walk)
  walk-ends x (e, is, missing) =
      let name : List ℕ = (root_request s.limits (l.known.root.role.head.version + 1)).name in
      ap (λ y. settled (stage_after v s root_wanted y)) is
      ∙ ap (λ k. settled (if not (is_memory k) then Ok (at.Step (at.PutLast walk)) else Err (fault_failure name (fault.Transport e)))) missing

  first : first_root v s.trusted ≡ Ok l.known.root
  first =
      ap (λ o. if_read (ParseTrustedMetadata (holds_json s.trusted)) o (λ d. if_trusted (root_verdict v d.role d) d)) able.root
      ∙ ap (λ w. if_trusted w l.known.root) (signed-ok v l.known.root.role role.Root root_json l.known.root able.root_signed)

  abbrev walk_wanted : Bool → StageDoc
  walk_wanted true = at.Step (at.PutLast walk)
  walk_wanted false = root_wanted

  begins : (end : Bool) → (l.known.root.role.head.version == 2 ^ 64 - 1) ≡ end → walked s.limits walk ≡ Ok (walk_wanted end)
  begins end is =
      let next : Bool → Bool → Result StageDoc Failure = λ more end. and_then (and_then (unless (MaxUpdatesExceeded s.limits.max_root_updates) more (if end then Ok None else Ok (Some (l.known.root.role.head.version + 1)))) (λ version. Ok (option_map (root_request s.limits) version))) (λ r. Ok (ask_root walk r)) in
      ap (λ b. next b (l.known.root.role.head.version == 2 ^ 64 - 1)) (none-first l.known.root.role.head.version s.limits.max_root_updates able.one_update)
      ∙ (ap (next true) is ∙ asked end)
    where
      asked : (end : Bool) → and_then (and_then (if end then Ok None else Ok (Some (l.known.root.role.head.version + 1))) (λ version. Ok (option_map (root_request s.limits) version))) (λ r. Ok (ask_root walk r)) ≡ Ok (walk_wanted end)
      asked true = refl
      asked false = refl

  abbrev is_last : Bool
  is_last = l.known.root.role.head.version == 2 ^ 64 - 1

  -- a file of one of the four
  abbrev pub IsNamed : RequestDoc → Type 0
  IsNamed r =
      (r ≡ root_request s.limits (l.known.root.role.head.version + 1))
      ⊎ ((r ≡ timestamp_request s.limits)
      ⊎ ((r ≡ snapshot_request s.limits l.known.root.role.consistent_snapshot able.entry)
      ⊎ (r ≡ targets_request s.limits l.known.root.role.consistent_snapshot able.targets_entry)))

  -- from here each file that is asked for, where all that was answered is honest, is one of them
  abbrev Asks : StageDoc → Type 0
  Asks st = (answers : List AnswerDoc) (r : RequestDoc) → AllHonest v files l.known.start (in_stage st) answers → question (run v (in_stage st) answers) ≡ ask.Fetch r → IsNamed r

  asks-on : (st next : StageDoc) → ((r : RequestDoc) → question_at s.enforced st ≡ ask.Fetch r → IsNamed r)
      → ((x : AnswerDoc) → Honest v files l.known.start (question_at s.enforced st) x → settled (stage_after v s st x) ≡ next) → Asks next → Asks st
  asks-on st next here moves go [] r h asked = here r asked
  asks-on st next here moves go (x ∷ rest) r h asked = (subst (λ y. Asks y) (sym (moves x h.0)) go) rest r h.1 asked

  -- the same where one answer alone is honest
  asks-turn : (st next : StageDoc) (a : AnswerDoc) → ((r : RequestDoc) → question_at s.enforced st ≡ ask.Fetch r → IsNamed r) → ((x : AnswerDoc) → Honest v files l.known.start (question_at s.enforced st) x → x ≡ a)
      → settled (stage_after v s st a) ≡ next → Asks next → Asks st
  asks-turn st next a here only moves go = asks-on st next here (λ x h. ap (λ y. settled (stage_after v s st y)) (only x h) ∙ moves) go

  asks-done : (r : Result LoadedDoc Failure) → Asks (at.Done r)
  asks-done o [] r h asked = absurd (cc (asked))
  asks-done o (x ∷ rest) r h asked = absurd h.0

  same-request : (q r : RequestDoc) → ask.Fetch q ≡ ask.Fetch r → r ≡ q
  same-request q r h = cc

  no-fetch : (act : Act) (r : RequestDoc) → ask.Step act ≡ ask.Fetch r → IsNamed r
  no-fetch act r h = absurd (cc (h))

  asks-roles : entry_names l.targets.role ≡ [] → Asks (settled (roles_begun s.limits l.known (bare (top_page l.targets))))
  asks-roles alone =
      let e = roles-end s.limits l.known l.targets.signatures l.targets.role alone in
      subst (λ st. Asks st) (sym e.1) (asks-done e.0)

  asks-put_targets : entry_names l.targets.role ≡ [] → Asks (at.Step (at.PutTargets l.known (bare (top_page l.targets))))
  asks-put_targets alone = asks-turn (at.Step (at.PutTargets l.known (bare (top_page l.targets)))) (settled (roles_begun s.limits l.known (bare (top_page l.targets)))) (got.Step (Ok (tt {0})))
      (no-fetch (act.PutDocument targets_file (targets_text (top_page (bare (top_page l.targets))))))
      (passes (act.PutDocument targets_file (targets_text (top_page (bare (top_page l.targets))))) (ap (λ t. refusal_at_first v (act.PutDocument targets_file t)) bare-text ∙ targets-pass))
      (ap (λ b. settled (if b then roles_begun s.limits l.known (bare (top_page l.targets)) else finished l.known [] (bare (top_page l.targets)))) able.whole) (asks-roles alone)

  asks-fetch_targets : entry_names l.targets.role ≡ [] → Asks targets_wanted
  asks-fetch_targets alone = asks-turn targets_wanted (at.Step (at.PutTargets l.known (bare page))) (got.Bytes able.targets.bytes)
      (λ r h. inr (inr (inr (same-request (targets_request s.limits l.known.root.role.consistent_snapshot able.targets_entry) r h))))
      (gets-bytes (targets_request s.limits l.known.root.role.consistent_snapshot able.targets_entry) _ able.targets.bytes able.targets.served able.targets.fits) (ap settled moves-targets) (asks-put_targets alone)

  asks-put_snapshot : entry_names l.targets.role ≡ [] → Asks (at.Step (at.PutSnapshot l.known able.entry.version))
  asks-put_snapshot alone = asks-turn (at.Step (at.PutSnapshot l.known able.entry.version)) targets_wanted (got.Step (Ok (tt {0})))
      (no-fetch (act.AdvanceSnapshot l.known.root.role able.entry.version l.known.snapshot l.known.start s.enforced))
      (passes (act.AdvanceSnapshot l.known.root.role able.entry.version l.known.snapshot l.known.start s.enforced) snapshot-passes)
      (ap (λ o. settled (want_targets s.limits l.known o)) able.targets_listed) (asks-fetch_targets alone)

  asks-fetch_snapshot : entry_names l.targets.role ≡ [] → Asks snapshot_wanted
  asks-fetch_snapshot alone = asks-turn snapshot_wanted (at.Step (at.PutSnapshot l.known able.entry.version)) (got.Bytes able.snapshot.bytes)
      (λ r h. inr (inr (inl (same-request (snapshot_request s.limits l.known.root.role.consistent_snapshot able.entry) r h))))
      (gets-bytes (snapshot_request s.limits l.known.root.role.consistent_snapshot able.entry) _ able.snapshot.bytes able.snapshot.served able.snapshot.fits)
      (ap (λ o. settled (if_read (ParseMetadata role.Snapshot (holds_json able.snapshot.bytes)) o (λ d. Ok (at.Step (at.PutSnapshot (known_of base l.known.timestamp d) able.entry.version))))) able.snapshot.reading)
      (asks-put_snapshot alone)

  asks-put_timestamp : entry_names l.targets.role ≡ [] → Asks (at.Step (at.PutTimestamp base l.known.timestamp))
  asks-put_timestamp alone = asks-turn (at.Step (at.PutTimestamp base l.known.timestamp)) snapshot_wanted (got.Step (Ok (tt {0})))
      (no-fetch (act.AdvanceTimestamp l.known.root.role l.known.timestamp l.known.start s.enforced))
      (passes (act.AdvanceTimestamp l.known.root.role l.known.timestamp l.known.start s.enforced) timestamp-passes)
      (ap (λ o. settled (want_snapshot s.limits base l.known.timestamp o)) able.listed) (asks-fetch_snapshot alone)

  asks-fetch_timestamp : entry_names l.targets.role ≡ [] → Asks (at.Fetch (at.Timestamp base) (timestamp_request s.limits))
  asks-fetch_timestamp alone = asks-turn (at.Fetch (at.Timestamp base) (timestamp_request s.limits)) (at.Step (at.PutTimestamp base l.known.timestamp)) (got.Bytes able.timestamp.bytes)
      (λ r h. inr (inl (same-request (timestamp_request s.limits) r h)))
      (gets-bytes (timestamp_request s.limits) _ able.timestamp.bytes able.timestamp.served able.timestamp.fits)
      (ap (λ o. settled (if_read (ParseMetadata role.Timestamp (holds_json able.timestamp.bytes)) o (λ d. Ok (at.Step (at.PutTimestamp base d))))) able.timestamp.reading)
      (asks-put_timestamp alone)

  asks-put_last : entry_names l.targets.role ≡ [] → Asks (at.Step (at.PutLast walk))
  asks-put_last alone = asks-turn (at.Step (at.PutLast walk)) (at.Fetch (at.Timestamp base) (timestamp_request s.limits)) (got.Step (Ok (tt {0})))
      (no-fetch (act.PutRoot l.known.root)) (passes (act.PutRoot l.known.root) root-passes)
      (let wanted : Result StageDoc Failure = Ok (at.Fetch (at.Timestamp base) (timestamp_request s.limits)) in
      ap (λ b. settled (unless (Checked (ExpiredMetadata role.Root l.known.root.role.head.expires l.known.start)) (not b) wanted)) able.root_in_time)
      (asks-fetch_timestamp alone)

  asks-fetch_root : entry_names l.targets.role ≡ [] → Asks root_wanted
  asks-fetch_root alone = asks-on root_wanted (at.Step (at.PutLast walk)) (λ r h. inl (same-request (root_request s.limits (l.known.root.role.head.version + 1)) r h))
      (λ x h. walk-ends x (gets-none (root_request s.limits (l.known.root.role.head.version + 1)) _ able.no_next x h)) (asks-put_last alone)

  asks-walk : entry_names l.targets.role ≡ [] → (end : Bool) → Asks (walk_wanted end)
  asks-walk alone true = asks-put_last alone
  asks-walk alone false = asks-fetch_root alone

  asks-read_root : entry_names l.targets.role ≡ [] → Asks (at.ReadRoot walk)
  asks-read_root alone = asks-turn (at.ReadRoot walk) (walk_wanted is_last) (got.Stored (Ok None)) (λ r h. absurd (cc (h))) (λ x h. h) (ap settled (begins is_last refl) ∙ wanted is_last) (asks-walk alone is_last)
    where
      wanted : (end : Bool) → settled (Ok (walk_wanted end)) ≡ walk_wanted end
      wanted true = refl
      wanted false = refl

  asks-note_time : entry_names l.targets.role ≡ [] → Asks (at.Step (at.NoteTime l.known.start))
  asks-note_time alone = asks-turn (at.Step (at.NoteTime l.known.start)) (at.ReadRoot walk) (got.Step (Ok (tt {0}))) (no-fetch (act.NoteTime l.known.start)) (passes (act.NoteTime l.known.start) time-passes)
      (ap (λ r. settled (and_then r (λ root. Ok (at.ReadRoot (record { start = l.known.start; first = root; last = root }))))) first) (asks-read_root alone)

  pub asks-moment : entry_names l.targets.role ≡ [] → Asks at.Moment
  asks-moment alone = asks-turn at.Moment (at.Step (at.NoteTime l.known.start)) (got.Moment l.known.start) (λ r h. absurd (cc (h))) (λ x h. h) refl (asks-note_time alone)
