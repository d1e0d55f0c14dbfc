-- Documents that are served are loaded.
use Rattle.std.specs.Prelude.{◌≡◌, ◌≢◌, ℕ, suc, ℤ, ◌+◌, ◌-◌, ◌^◌, ◌<◌, ◌≤◌, ◌==◌, List, [], ◌∷◌, ◌++◌, length, map, sum_by, Option, Some, None, option_map, option_and_then, Bool, true, false, not, nat_lt, is_some, Result, Ok, Err, if◌then◌else◌}
use Rattle.std.proofs.Common.{refl, sym, ◌∙◌, ap, subst, arith, add-zero, zero-add}
use Rattle.std.proofs.lemmas.Bool.{eq-eqb, lt-ltb}
use Rattle.std.proofs.Math.Nat.{sub_self}
use Rattle.serde_json.specs.Data.{Data}
use Rattle.tough_net.specs.declared.error.TransportError.{TransportError}
use Rattle.tough_net.specs.declared.error.TransportErrorKind.TheVariants as kind
use Rattle.tough_net.specs.Errors.{error_kind}
use Rattle.tough_keys.specs.Same.{Verifies}
use Rattle.tough_roles.specs.Signature.{SignedDoc}
use Rattle.tough_roles.specs.Root.{RootDoc, root_json}
use Rattle.tough_roles.specs.Timestamp.{MetafileDoc, timestamp_json}
use Rattle.tough_roles.specs.Snapshot.{snapshot_json}
use Rattle.tough_roles.specs.Policy.{policy}
use Rattle.tough_roles.specs.Verdict.{Refused, MissingRole, RoleNotFound, verdict}
use Rattle.tough_roles.specs.Chain.{ReachesUnder, text_by}
use Rattle.tough_roles.specs.declared.role_type.RoleType.{RoleType}
use Rattle.tough_roles.specs.declared.role_type.RoleType.TheVariants as role
use Rattle.tough_roles.proofs.lemmas.Reached.{reaches-to}
use Rattle.tough_schema.specs.Targets.{TargetsDoc, targets_json}
use Rattle.tough_checks.specs.Checks.{Reason, VersionMismatch, TimestampMetaLength, MissingSnapshotMeta, SnapshotTargetsMetaMissing, ExpiredMetadata, refuse, or_else, is_expired, expiry, verified, timestamp_form, snapshot_form}
use Rattle.tough_checks.specs.Documents.{root_text, root_verdict, snapshot_verdict}
use Rattle.tough_roles.specs.Timestamp.{metafile_in}
use Rattle.tough_vault.specs.Steps.{time_text, needs}
use Rattle.tough_vault.specs.Act.{Act}
use Rattle.tough_vault.specs.Act as act
use Rattle.tough_checks.specs.Files.{snapshot_file, targets_file}
use Rattle.tough_trust.specs.Failure.{Failure, ParseTrustedMetadata, ParseMetadata, MaxUpdatesExceeded, Checked}
use Rattle.tough_trust.specs.Walk.{if_trusted, first_root}
use Rattle.tough_trust.specs.Outcomes.{holds_json, if_read, unless, and_then}
use Rattle.tough_trust.proofs.lemmas.Judging.{judged-to}
use Rattle.tough_trust.specs.Requests.{RequestDoc, fits_request, root_request, timestamp_request, snapshot_request, targets_request, role_request}
use Rattle.tough_trust.specs.Listed.{by_root, by_delegations, targets_text, targets_verdict, targets_refusal, judged}
use Rattle.tough_update.specs.Delegated.{metas_in, is_reserved, if_found, grown_on, roles_begun, role_given, role_stored, with_received, role_holder, finished}
use Rattle.tough_trust.specs.delegations.Bare.{bare, top_page, held_as}
use Rattle.tough_update.specs.growth.Full.{fetch_order}
use Rattle.tough_update.specs.delegations.Numbered.{Nodes, last_document}
use Rattle.tough_update.specs.delegations.Growing.{Metas, listed_as, Fetched, TaskDoc, Progress, wants, grown, begun, go_on}
use Rattle.tough_trust.specs.delegations.Indexed.{Index}
use Rattle.tough_trust.proofs.lemmas.Bare.{top-bare}
use Rattle.tough_update.proofs.growth.Laws.{work, grows-whole}
use Rattle.tough_schema.specs.Delegations.{DelegationsDoc}
use Rattle.tough_schema.specs.Tree.{Entry}
use Rattle.tough_schema.specs.Verify.{ReachesDelegated}
use Rattle.tough_schema.specs.Whole.{top_doc}
use Rattle.tough_schema.specs.Entries.{first_missing}
use Rattle.std.proofs.lemmas.List.{append-nil, append_assoc, map-append}
use Rattle.std.proofs.lemmas.List.Sums.{sum_by-append}
use Rattle.std.specs.Cmp.Lexicographic.{slice_cmp}
use Rattle.std.specs.Ordering.{nat_cmp}
use Rattle.std.specs.BTreeMap.{insert_entry}
use Rattle.tough_update.specs.Stages.{WalkDoc, BaseDoc, RolesDoc, ReceivedDoc, LoadedDoc, StageDoc, SettingDoc, CoreDoc}
use Rattle.tough_update.specs.Stages as at
use Rattle.tough_update.specs.Questions as ask
use Rattle.tough_trust.specs.declared.fault.Fault.TheVariants as fault
use Rattle.tough_update.specs.Answered.{AnswerDoc}
use Rattle.tough_update.specs.Answered as got
use Rattle.tough_update.specs.Machine.{question, question_at, settled, stage_after, ask_root, walked, want_snapshot, known_of, want_targets, new_targets}
use Rattle.tough_trust.specs.Faults.{is_memory, fault_failure}
use Rattle.tough_update.specs.Runs.{run, IsFresh}
use Rattle.tough_update.specs.Loadable.{walk_turns, Files, Delivers, Gets, refusal_at_first, step_answer, Honest, AllHonest, IsRoleServed, IsServedUnder, or_nothing, role_bytes, turns_as, role_turns, all_turns, Loadable, IsLoaded}

signed-ok : {A : Type 0} (v : Verifies) (holder : RootDoc) (type : RoleType) (json : A → Option Data) (d : SignedDoc A) → ReachesUnder v holder type json d
    → verdict v (MissingRole type) type (policy holder type) (text_by json d.role) d.signatures ≡ Ok (tt {0})
signed-ok v holder type json d r =
    ap (λ p. verdict v (MissingRole type) type p (text_by json d.role) d.signatures) r.there ∙ (ap (λ t. verdict v (MissingRole type) type (Some r.asked) t d.signatures) r.canonical ∙ reaches-to v (MissingRole type) type r.asked r.text d.signatures r.reached)

gets-bytes : (r : RequestDoc) (o : Option (List ℕ)) (bytes : List ℕ) → o ≡ Some bytes → fits_request r bytes ≡ true → (x : AnswerDoc) → Gets r o x → x ≡ got.Bytes bytes
gets-bytes r o bytes e f x h = subst (λ b. Delivers b bytes x) f (subst (λ p. Gets r p x) e h)

gets-none : (r : RequestDoc) (o : Option (List ℕ)) → o ≡ None → (x : AnswerDoc) → Gets r o x → (e : TransportError) × (x ≡ got.NotStarted (fault.Transport e)) × (error_kind e ≡ kind.FileNotFound)
gets-none r o e x h = subst (λ p. Gets r p x) e h

-- what has a text can be stored
has-text : (o : Option (List ℕ)) → o ≢ None → needs o ≡ None
has-text None h = absurd (h refl)
has-text (Some text) h = refl

none-first : (n limit : ℕ) → 0 < limit → nat_lt (n - n) limit ≡ true
none-first n limit h = ap (λ k. nat_lt k limit) (sub_self n) ∙ lt-ltb 0 limit h

one-more : (m n : ℕ) → m ≤ n → suc m ≤ n + 1
one-more m n h = omega (arith, h)

one-less : (m n : ℕ) → suc m ≡ n + 1 → m ≡ n
one-less m n h = omega (arith, h)

module _ (v : Verifies) (files : Files) (s : SettingDoc) (l : LoadedDoc) (able : Loadable v files s l) where
  abbrev in_stage : StageDoc → CoreDoc
  in_stage st = record { setting = s; stage = st }

  -- honest answers lead from here to the documents, by so many
  abbrev pub Leads : ℕ → StageDoc → Type 0
  Leads n st = (answers : List AnswerDoc) → AllHonest v files l.known.start (in_stage st) answers
      → (length answers ≤ n) × (length answers ≡ n → question (run v (in_stage st) answers) ≡ ask.Ready) × (question (run v (in_stage st) answers) ≡ ask.Ready → (run v (in_stage st) answers).stage ≡ at.Done (Ok l))

  -- each honest answer moves to the next stage
  leads-on : (n : ℕ) (st next : StageDoc) → (question_at s.enforced st ≡ ask.Ready → ⊥)
      → ((x : AnswerDoc) → Honest v files l.known.start (question_at s.enforced st) x → settled (stage_after v s st x) ≡ next) → Leads n next → Leads (n + 1) st
  leads-on n st next busy moves go [] h = (omega arith, λ e. absurd (omega (arith, e)), λ ready. absurd (busy ready))
  leads-on n st next busy moves go (x ∷ rest) h =
      let more = (subst (λ y. Leads n y) (sym (moves x h.0)) go) rest h.1 in
      (one-more (length rest) n more.0, λ e. more.1 (one-less (length rest) n e), more.2)

  -- the same where one answer alone is honest
  leads-turn : (n : ℕ) (st next : StageDoc) (a : AnswerDoc) → (question_at s.enforced st ≡ ask.Ready → ⊥) → ((x : AnswerDoc) → Honest v files l.known.start (question_at s.enforced st) x → x ≡ a)
      → settled (stage_after v s st a) ≡ next → Leads n next → Leads (n + 1) st
  leads-turn n st next a busy only moves go = leads-on n st next busy (λ x h. ap (λ y. settled (stage_after v s st y)) (only x h) ∙ moves) go

  leads-done : Leads 0 (at.Done (Ok l))
  leads-done [] h = (omega arith, λ e. refl, λ ready. refl)
  leads-done (x ∷ rest) h = absurd h.0

  -- a step that no check refuses
  passes : (act : Act) → refusal_at_first v act ≡ None → (x : AnswerDoc) → Honest v files l.known.start (ask.Step act) x → x ≡ got.Step (Ok (tt {0}))
  passes act e x h = h ∙ ap step_answer e

  abbrev walk : WalkDoc
  walk = record { start = l.known.start; first = l.known.root; last = l.known.root }

  abbrev base : BaseDoc
  base = record { start = l.known.start; root = l.known.root }

  -- ---- no check of a store that held nothing refuses a step

  time-passes : refusal_at_first v (act.NoteTime l.known.start) ≡ None
  time-passes = ap (λ o. or_else o None) (has-text (time_text l.known.start) able.start_text)

  root-passes : refusal_at_first v (act.PutRoot l.known.root) ≡ None
  root-passes =
      ap (λ w. or_else (verified role.Root w) (or_else (needs (root_text l.known.root)) None)) (signed-ok v l.known.root.role role.Root root_json l.known.root able.root_signed)
      ∙ ap (λ o. or_else o None) (has-text (root_text l.known.root) able.root_stored)

  targets-pass : refusal_at_first v (act.PutDocument targets_file (targets_text (top_page l.targets))) ≡ None
  targets-pass = ap (λ o. or_else o None) (has-text (targets_text (top_page l.targets)) able.targets_stored)

  -- a document that hasn't expired
  unexpired : (type : RoleType) (expires : ℤ) → is_expired s.enforced l.known.start expires ≡ false → or_else (expiry type s.enforced l.known.start expires) None ≡ None
  unexpired type expires e = ap (λ b. or_else (refuse b (ExpiredMetadata type expires l.known.start)) None) e

  timestamp-formed : timestamp_form l.known.timestamp.role ≡ None
  timestamp-formed =
      let version = l.known.timestamp.role.head.version in
      let count = length l.known.timestamp.role.meta in
      let listing : Option MetafileDoc → Option Reason = λ o. or_else (refuse (not (is_some o)) (MissingSnapshotMeta version)) None in
      ap (λ b. or_else (refuse (not b) (TimestampMetaLength version count)) (listing (metafile_in l.known.timestamp.role.meta snapshot_file))) (eq-eqb _ _ able.alone)
      ∙ ap listing able.listed

  timestamp-passes : refusal_at_first v (act.AdvanceTimestamp l.known.root.role l.known.timestamp l.known.start s.enforced) ≡ None
  timestamp-passes =
      let in_time = or_else (expiry role.Timestamp s.enforced l.known.start l.known.timestamp.role.head.expires) None in
      ap (λ w. or_else (or_else (verified role.Timestamp w) (or_else (timestamp_form l.known.timestamp.role) None)) in_time) (signed-ok v l.known.root.role role.Timestamp timestamp_json l.known.timestamp able.timestamp_signed)
      ∙ (ap (λ o. or_else (or_else o None) in_time) timestamp-formed ∙ unexpired role.Timestamp l.known.timestamp.role.head.expires able.timestamp_in_time)

  snapshot-formed : snapshot_form l.known.snapshot.role ≡ None
  snapshot-formed = ap (λ (o : Option MetafileDoc). refuse (not (is_some o)) (SnapshotTargetsMetaMissing l.known.snapshot.role.head.version)) able.targets_listed

  snapshot-passes : refusal_at_first v (act.AdvanceSnapshot l.known.root.role able.entry.version l.known.snapshot l.known.start s.enforced) ≡ None
  snapshot-passes =
      let version = l.known.snapshot.role.head.version in
      let in_time = or_else (expiry role.Snapshot s.enforced l.known.start l.known.snapshot.role.head.expires) None in
      let rest : Result Unit Refused → Option Reason = λ w. or_else (verified role.Snapshot w) (or_else (snapshot_form l.known.snapshot.role) None) in
      ap (λ b. or_else (or_else (refuse (not b) (VersionMismatch role.Snapshot version able.entry.version)) (rest (snapshot_verdict v l.known.root.role l.known.snapshot))) in_time) (eq-eqb _ _ able.snapshot_version)
      ∙ (ap (λ w. or_else (rest w) in_time) (signed-ok v l.known.root.role role.Snapshot snapshot_json l.known.snapshot able.snapshot_signed)
      ∙ (ap (λ o. or_else (or_else o None) in_time) snapshot-formed ∙ unexpired role.Snapshot l.known.snapshot.role.head.expires able.snapshot_in_time))

  -- ---- turn after turn, from the last back to the first

  abbrev metas : Metas
  metas = metas_in l.known

  abbrev U : Option DelegationsDoc → List ℕ → SignedDoc TargetsDoc → Type 0
  U = IsServedUnder v files s l.known

  -- from here the tree grows to its end
  abbrev Grows : ℕ → List ReceivedDoc → Progress → Type 0
  Grows n received p = Leads n (settled (grown_on s.limits l.known received p))

  abbrev bytes_of : List (List ℕ) → List ReceivedDoc
  bytes_of names = map (λ name. (name, role_bytes files s l.known name)) names

  abbrev turns_of : List (List ℕ) → ℕ
  turns_of names = sum_by (role_turns s l.known) names

  -- the answers for these roles lead from the one to the other
  abbrev Goes : List (List ℕ) → Progress → Progress → Type 0
  Goes names p q = (n : ℕ) (received : List ReceivedDoc) → Grows n (received ++ bytes_of names) q → Grows (n + turns_of names) received p

  goes-nowhere : (p : Progress) → Goes [] p p
  goes-nowhere p n received h = subst (λ k. Grows k received p) (sym (add-zero n)) (subst (λ r. Grows n r p) (append-nil received) h)

  goes-on : (xs ys : List (List ℕ)) (p q r : Progress) → Goes xs p q → Goes ys q r → Goes (xs ++ ys) p r
  goes-on xs ys p q r first second n received h =
      let all : received ++ bytes_of (xs ++ ys) ≡ (received ++ bytes_of xs) ++ bytes_of ys =
      ap (λ (t : List ReceivedDoc). received ++ t) (map-append (λ (name : List ℕ). let x : ReceivedDoc = (name, role_bytes files s l.known name) in x) xs ys) ∙ sym (append_assoc received (bytes_of xs) (bytes_of ys)) in
      let count : (n + turns_of ys) + turns_of xs ≡ n + turns_of (xs ++ ys) = omega (arith, sum_by-append (role_turns s l.known) xs ys) in
      subst (λ k. Grows k received p) count (first (n + turns_of ys) received (second n (received ++ bytes_of xs) (subst (λ t. Grows n t r) all h)))

  served-entry : (g : Option DelegationsDoc) (name : List ℕ) (page : SignedDoc TargetsDoc) → U g name page → (m : MetafileDoc) × (listed_as metas name ≡ Some m)
  served-entry None name page u = absurd u
  served-entry (Some g) name page u = (u.entry, u.listed)

  served-keyed : (name : List ℕ) (page : SignedDoc TargetsDoc) → U None name page → ⊥
  served-keyed name page u = u

  -- ---- a delegated role

  role-verified : (g : DelegationsDoc) (name : List ℕ) (page : SignedDoc TargetsDoc) → ReachesDelegated v g name targets_json page → targets_verdict v (by_delegations (Some g) name) page ≡ Ok (tt {0})
  role-verified g name page r =
      ap (λ p. verdict v (RoleNotFound name) role.Targets p (text_by targets_json page.role) page.signatures) r.there ∙ (ap (λ t. verdict v (RoleNotFound name) role.Targets (Some r.asked) t page.signatures) r.canonical ∙ reaches-to v (RoleNotFound name) role.Targets r.asked r.text page.signatures r.reached)

  role-checked : (g : DelegationsDoc) (name : List ℕ) (page : SignedDoc TargetsDoc) (u : IsRoleServed v files s l.known g name page) → targets_refusal v s.enforced l.known.start (by_delegations (Some g) name) u.entry.version page ≡ None
  role-checked g name page u =
      let expiring : Bool → Option Reason = λ b. or_else (refuse b (ExpiredMetadata role.Targets page.role.head.expires l.known.start)) None in
      let versioned : Bool → Option Reason = λ b. or_else (refuse (not b) (VersionMismatch role.Targets page.role.head.version u.entry.version)) (expiring (is_expired s.enforced l.known.start page.role.head.expires)) in
      ap (λ w. or_else (verified role.Targets w) (versioned (page.role.head.version == u.entry.version))) (role-verified g name page u.signed)
      ∙ (ap versioned (eq-eqb _ _ u.version) ∙ ap expiring u.in_time)

  role-read : (g : DelegationsDoc) (name : List ℕ) (page : SignedDoc TargetsDoc) (u : IsRoleServed v files s l.known g name page) → judged v s.enforced l.known.start (by_delegations (Some g) name) u.entry.version u.document.bytes ≡ Ok (bare page)
  role-read g name page u = judged-to v s.enforced l.known.start (by_delegations (Some g) name) u.entry.version u.document.bytes page u.document.reading (role-checked g name page u)

  -- the document is stored, unless its file has a name by which nothing is
  role-stored : (n : ℕ) (r : RolesDoc) (file : List ℕ) (page : SignedDoc TargetsDoc) (reserved : Bool) → is_reserved file ≡ reserved → targets_text page ≢ None
      → Leads n (settled (role_given s.limits l.known r (bare page)))
      → Leads (n + (if reserved then 0 else 1)) (settled (role_stored s.limits l.known r file (bare page)))
  role-stored n r file page true e text go =
      subst (λ k. Leads k (settled (role_stored s.limits l.known r file (bare page)))) (sym (add-zero n))
      (subst (λ b. Leads n (settled (if b then role_given s.limits l.known r (bare page) else Ok (at.Step (at.PutDelegated l.known r file (bare page)))))) (sym e) go)
  role-stored n r file page false e text go =
      let stored : targets_text (top_page (bare page)) ≢ None = subst (λ d. targets_text d ≢ None) (sym (top-bare page)) text in
      let passed : refusal_at_first v (act.PutDocument file (targets_text (top_page (bare page)))) ≡ None = ap (λ o. or_else o None) (has-text (targets_text (top_page (bare page))) stored) in
      subst (λ b. Leads (n + 1) (settled (if b then role_given s.limits l.known r (bare page) else Ok (at.Step (at.PutDelegated l.known r file (bare page)))))) (sym e)
      (leads-turn n (at.Step (at.PutDelegated l.known r file (bare page))) (settled (role_given s.limits l.known r (bare page))) (got.Step (Ok (tt {0}))) (λ x. cc) (passes (act.PutDocument file (targets_text (top_page (bare page)))) passed) refl go)

  count-turns : (n : ℕ) (reserved : Bool) → (n + (if reserved then 0 else 1)) + 1 ≡ n + (if reserved then 1 else 2)
  count-turns n true = omega arith
  count-turns n false = omega arith

  role-taken : (g : DelegationsDoc) (ns : Nodes) (outer : List TaskDoc) (seen : Index) (f : Fetched) (e : Entry) (rest : List Entry) (page : SignedDoc TargetsDoc) (u : IsRoleServed v files s l.known g e.name page) → (top_doc (last_document ns).below).delegations ≡ Some g
      → Goes (e.name ∷ []) (wants (work ns outer seen f (e ∷ rest)) u.entry) (go_on metas (work ns outer seen (insert_entry (slice_cmp nat_cmp) f e.name (held_as e.name (bare page))) rest))
  role-taken g ns outer seen f e rest page u is n received h =
      let w = work ns outer seen f (e ∷ rest) in
      let q = go_on metas (work ns outer seen (insert_entry (slice_cmp nat_cmp) f e.name (held_as e.name (bare page))) rest) in
      let r = role_request s.limits l.known.root.role.consistent_snapshot e.name u.entry in
      let bytes = u.document.bytes in
      let roles : RolesDoc = record { work = w; received = received } in
      let stage = at.Fetch (at.Role l.known roles u.entry.version) r in
      let held : role_bytes files s l.known e.name ≡ bytes =
      ap (λ (o : Option MetafileDoc). or_nothing (option_and_then (λ m. files (role_request s.limits l.known.root.role.consistent_snapshot e.name m).name) o)) u.listed ∙ ap or_nothing u.document.served in
      let now : Grows n (received ++ (e.name, bytes) ∷ []) q = subst (λ b. Grows n (received ++ (e.name, b) ∷ []) q) held h in
      let stored = role-stored n (with_received roles bytes) r.name page (is_reserved r.name) refl u.stored now in
      let read : judged v s.enforced l.known.start (role_holder w) u.entry.version bytes ≡ Ok (bare page) =
      ap (λ (o : Option DelegationsDoc). judged v s.enforced l.known.start (by_delegations o e.name) u.entry.version bytes) is ∙ role-read g e.name page u in
      let moves : settled (stage_after v s stage (got.Bytes bytes)) ≡ settled (role_stored s.limits l.known (with_received roles bytes) r.name (bare page)) =
      ap (λ x. settled (and_then x (role_stored s.limits l.known (with_received roles bytes) r.name))) read in
      let turns : (n + (if is_reserved r.name then 0 else 1)) + 1 ≡ n + turns_of (e.name ∷ []) =
      count-turns n (is_reserved r.name) ∙ ap (λ (o : Option MetafileDoc). n + turns_as s l.known e.name o) (sym u.listed) ∙ ap (λ k. n + k) (sym (zero-add (role_turns s l.known e.name))) in
      subst (λ k. Leads k stage) turns
      (leads-turn (n + (if is_reserved r.name then 0 else 1)) stage (settled (role_stored s.limits l.known (with_received roles bytes) r.name (bare page))) (got.Bytes bytes) (λ x. cc) (gets-bytes r _ bytes u.document.served u.document.fits) moves stored)

  taken-under : (g : Option DelegationsDoc) (ns : Nodes) (outer : List TaskDoc) (seen : Index) (f : Fetched) (e : Entry) (rest : List Entry) (page : SignedDoc TargetsDoc) (u : U g e.name page) → (top_doc (last_document ns).below).delegations ≡ g
      → Goes (e.name ∷ []) (wants (work ns outer seen f (e ∷ rest)) (served-entry g e.name page u).0) (go_on metas (work ns outer seen (insert_entry (slice_cmp nat_cmp) f e.name (held_as e.name (bare page))) rest))
  unfolding served-entry
  taken-under None ns outer seen f e rest page u is = absurd u
  taken-under (Some g) ns outer seen f e rest page u is = role-taken g ns outer seen f e rest page u is

  goes-whole : Goes (fetch_order l.targets.role) (begun metas (held_as [] (bare (top_page l.targets)))) (grown l.targets)
  goes-whole = grows-whole metas U Goes goes-nowhere goes-on served-entry served-keyed (λ ns outer seen f e rest page u. taken-under (top_doc (last_document ns).below).delegations ns outer seen f e rest page u refl) l.targets able.full able.delegated able.once

  -- the tree is complete
  leads-grown : Grows 0 ([] ++ bytes_of (fetch_order l.targets.role)) (grown l.targets)
  leads-grown =
      let received = bytes_of (fetch_order l.targets.role) in
      let done : List ReceivedDoc → StageDoc = λ r. at.Done (Ok (record { known = l.known; targets = l.targets; received = r })) in
      let ends : settled (if_found (first_missing l.targets.role) (record { known = l.known; targets = l.targets; received = received })) ≡ at.Done (Ok l) =
      ap (λ o. settled (if_found o (record { known = l.known; targets = l.targets; received = received }))) able.found ∙ ap done (sym able.received) in
      subst (λ st. Leads 0 st) (sym ends) leads-done

  -- how many answers the delegated roles take
  abbrev more : ℕ
  more = turns_of (fetch_order l.targets.role)

  leads-roles : Leads more (settled (roles_begun s.limits l.known (bare (top_page l.targets))))
  leads-roles = subst (λ k. Leads k (settled (roles_begun s.limits l.known (bare (top_page l.targets))))) (zero-add more) (goes-whole 0 [] leads-grown)

  bare-text : targets_text (top_page (bare (top_page l.targets))) ≡ targets_text (top_page l.targets)
  bare-text = ap targets_text (top-bare (top_page l.targets))

  leads-put_targets : Leads (more + 1) (at.Step (at.PutTargets l.known (bare (top_page l.targets))))
  leads-put_targets = leads-turn more (at.Step (at.PutTargets l.known (bare (top_page l.targets)))) (settled (roles_begun s.limits l.known (bare (top_page l.targets)))) (got.Step (Ok (tt {0}))) (λ e. cc)
      (passes (act.PutDocument targets_file (targets_text (top_page (bare (top_page l.targets))))) (ap (λ t. refusal_at_first v (act.PutDocument targets_file t)) bare-text ∙ targets-pass))
      (ap (λ b. settled (if b then roles_begun s.limits l.known (bare (top_page l.targets)) else finished l.known [] (bare (top_page l.targets)))) able.whole) leads-roles

  abbrev page : SignedDoc TargetsDoc
  page = top_page l.targets

  checked : targets_refusal v s.enforced l.known.start (by_root l.known.root.role) able.targets_entry.version page ≡ None
  checked =
      let expiring : Bool → Option Reason = λ b. or_else (refuse b (ExpiredMetadata role.Targets page.role.head.expires l.known.start)) None in
      let versioned : Bool → Option Reason = λ b. or_else (refuse (not b) (VersionMismatch role.Targets page.role.head.version able.targets_entry.version)) (expiring (is_expired s.enforced l.known.start page.role.head.expires)) in
      ap (λ w. or_else (verified role.Targets w) (versioned (page.role.head.version == able.targets_entry.version))) (signed-ok v l.known.root.role role.Targets targets_json page able.targets_signed)
      ∙ (ap versioned (eq-eqb _ _ able.targets_version) ∙ ap expiring able.targets_in_time)

  read : judged v s.enforced l.known.start (by_root l.known.root.role) able.targets_entry.version able.targets.bytes ≡ Ok (bare page)
  read = judged-to v s.enforced l.known.start (by_root l.known.root.role) able.targets_entry.version able.targets.bytes page able.targets.reading checked

  moves-targets : new_targets v s.enforced l.known able.targets_entry.version able.targets.bytes ≡ Ok (at.Step (at.PutTargets l.known (bare page)))
  moves-targets = ap (λ r. and_then r (λ d. Ok (at.Step (at.PutTargets l.known d)))) read

  abbrev targets_wanted : StageDoc
  targets_wanted = at.Fetch (at.Targets l.known able.targets_entry.version) (targets_request s.limits l.known.root.role.consistent_snapshot able.targets_entry)

  leads-fetch_targets : Leads (more + 1 + 1) targets_wanted
  leads-fetch_targets = leads-turn (more + 1) targets_wanted (at.Step (at.PutTargets l.known (bare page))) (got.Bytes able.targets.bytes) (λ e. cc)
      (gets-bytes (targets_request s.limits l.known.root.role.consistent_snapshot able.targets_entry) _ able.targets.bytes able.targets.served able.targets.fits) (ap settled moves-targets) leads-put_targets

  leads-put_snapshot : Leads (more + 1 + 1 + 1) (at.Step (at.PutSnapshot l.known able.entry.version))
  leads-put_snapshot = leads-turn (more + 1 + 1) (at.Step (at.PutSnapshot l.known able.entry.version)) targets_wanted (got.Step (Ok (tt {0}))) (λ e. cc) (passes (act.AdvanceSnapshot l.known.root.role able.entry.version l.known.snapshot l.known.start s.enforced) snapshot-passes)
      (ap (λ o. settled (want_targets s.limits l.known o)) able.targets_listed) leads-fetch_targets

  abbrev snapshot_wanted : StageDoc
  snapshot_wanted = at.Fetch (at.Snapshot base l.known.timestamp able.entry.version) (snapshot_request s.limits l.known.root.role.consistent_snapshot able.entry)

  leads-fetch_snapshot : Leads (more + 1 + 1 + 1 + 1) snapshot_wanted
  leads-fetch_snapshot = leads-turn (more + 1 + 1 + 1) snapshot_wanted (at.Step (at.PutSnapshot l.known able.entry.version)) (got.Bytes able.snapshot.bytes) (λ e. cc)
      (gets-bytes (snapshot_request s.limits l.known.root.role.consistent_snapshot able.entry) _ able.snapshot.bytes able.snapshot.served able.snapshot.fits)
      (ap (λ o. settled (if_read (ParseMetadata role.Snapshot (holds_json able.snapshot.bytes)) o (λ d. Ok (at.Step (at.PutSnapshot (known_of base l.known.timestamp d) able.entry.version))))) able.snapshot.reading)
      leads-put_snapshot

  leads-put_timestamp : Leads (more + 1 + 1 + 1 + 1 + 1) (at.Step (at.PutTimestamp base l.known.timestamp))
  leads-put_timestamp = leads-turn (more + 1 + 1 + 1 + 1) (at.Step (at.PutTimestamp base l.known.timestamp)) snapshot_wanted (got.Step (Ok (tt {0}))) (λ e. cc) (passes (act.AdvanceTimestamp l.known.root.role l.known.timestamp l.known.start s.enforced) timestamp-passes)
      (ap (λ o. settled (want_snapshot s.limits base l.known.timestamp o)) able.listed) leads-fetch_snapshot

  leads-fetch_timestamp : Leads (more + 1 + 1 + 1 + 1 + 1 + 1) (at.Fetch (at.Timestamp base) (timestamp_request s.limits))
  leads-fetch_timestamp = leads-turn (more + 1 + 1 + 1 + 1 + 1) (at.Fetch (at.Timestamp base) (timestamp_request s.limits)) (at.Step (at.PutTimestamp base l.known.timestamp)) (got.Bytes able.timestamp.bytes) (λ e. cc)
      (gets-bytes (timestamp_request s.limits) _ able.timestamp.bytes able.timestamp.served able.timestamp.fits)
      (ap (λ o. settled (if_read (ParseMetadata role.Timestamp (holds_json able.timestamp.bytes)) o (λ d. Ok (at.Step (at.PutTimestamp base d))))) able.timestamp.reading)
      leads-put_timestamp

  leads-put_last : Leads (more + 1 + 1 + 1 + 1 + 1 + 1 + 1) (at.Step (at.PutLast walk))
  leads-put_last = leads-turn (more + 1 + 1 + 1 + 1 + 1 + 1) (at.Step (at.PutLast walk)) (at.Fetch (at.Timestamp base) (timestamp_request s.limits)) (got.Step (Ok (tt {0}))) (λ e. cc) (passes (act.PutRoot l.known.root) root-passes)
      (let wanted : Result StageDoc Failure = Ok (at.Fetch (at.Timestamp base) (timestamp_request s.limits)) in
      ap (λ b. settled (unless (Checked (ExpiredMetadata role.Root l.known.root.role.head.expires l.known.start)) (not b) wanted)) able.root_in_time)
      leads-fetch_timestamp

  abbrev root_wanted : StageDoc
  root_wanted = at.Fetch (at.Root walk) (root_request s.limits (l.known.root.role.head.version + 1))

  walk-ends : (x : AnswerDoc) → (e : TransportError) × (x ≡ got.NotStarted (fault.Transport e)) × (error_kind e ≡ kind.FileNotFound) → settled (stage_after v s root_wanted x) ≡ at.Step (at.PutLast walk)
  walk-ends x (e, is, missing) =
      let name : List ℕ = (root_request s.limits (l.known.root.role.head.version + 1)).name in
      ap (λ y. settled (stage_after v s root_wanted y)) is
      ∙ ap (λ k. settled (if not (is_memory k) then Ok (at.Step (at.PutLast walk)) else Err (fault_failure name (fault.Transport e)))) missing

  leads-fetch_root : Leads (more + 1 + 1 + 1 + 1 + 1 + 1 + 1 + 1) root_wanted
  leads-fetch_root = leads-on (more + 1 + 1 + 1 + 1 + 1 + 1 + 1) root_wanted (at.Step (at.PutLast walk)) (λ e. cc) (λ x h. walk-ends x (gets-none (root_request s.limits (l.known.root.role.head.version + 1)) _ able.no_next x h)) leads-put_last

  first : first_root v s.trusted ≡ Ok l.known.root
  first =
      ap (λ o. if_read (ParseTrustedMetadata (holds_json s.trusted)) o (λ d. if_trusted (root_verdict v d.role d) d)) able.root
      ∙ ap (λ w. if_trusted w l.known.root) (signed-ok v l.known.root.role role.Root root_json l.known.root able.root_signed)

  -- what follows the look at the stored root, by whether this is the last number of a version
  abbrev walk_wanted : Bool → StageDoc
  walk_wanted true = at.Step (at.PutLast walk)
  walk_wanted false = root_wanted

  begins : (end : Bool) → (l.known.root.role.head.version == 2 ^ 64 - 1) ≡ end → walked s.limits walk ≡ Ok (walk_wanted end)
  begins end is =
      let next : Bool → Bool → Result StageDoc Failure = λ more end. and_then (and_then (unless (MaxUpdatesExceeded s.limits.max_root_updates) more (if end then Ok None else Ok (Some (l.known.root.role.head.version + 1)))) (λ version. Ok (option_map (root_request s.limits) version))) (λ r. Ok (ask_root walk r)) in
      ap (λ b. next b (l.known.root.role.head.version == 2 ^ 64 - 1)) (none-first l.known.root.role.head.version s.limits.max_root_updates able.one_update)
      ∙ (ap (next true) is ∙ asked end)
    where
      asked : (end : Bool) → and_then (and_then (if end then Ok None else Ok (Some (l.known.root.role.head.version + 1))) (λ version. Ok (option_map (root_request s.limits) version))) (λ r. Ok (ask_root walk r)) ≡ Ok (walk_wanted end)
      asked true = refl
      asked false = refl

  abbrev walk_left : Bool → ℕ
  walk_left end = more + 1 + 1 + 1 + 1 + 1 + 1 + 1 + walk_turns end

  leads-walk : (end : Bool) → Leads (walk_left end) (walk_wanted end)
  leads-walk true = subst (λ k. Leads k (at.Step (at.PutLast walk))) (sym (add-zero _)) leads-put_last
  leads-walk false = leads-fetch_root

  abbrev is_last : Bool
  is_last = l.known.root.role.head.version == 2 ^ 64 - 1

  leads-read_root : Leads (walk_left is_last + 1) (at.ReadRoot walk)
  leads-read_root = leads-turn (walk_left is_last) (at.ReadRoot walk) (walk_wanted is_last) (got.Stored (Ok None)) (λ e. cc) (λ x h. h) (ap settled (begins is_last refl) ∙ wanted is_last) (leads-walk is_last)
    where
      wanted : (end : Bool) → settled (Ok (walk_wanted end)) ≡ walk_wanted end
      wanted true = refl
      wanted false = refl

  leads-note_time : Leads (walk_left is_last + 1 + 1) (at.Step (at.NoteTime l.known.start))
  leads-note_time = leads-turn (walk_left is_last + 1) (at.Step (at.NoteTime l.known.start)) (at.ReadRoot walk) (got.Step (Ok (tt {0}))) (λ e. cc) (passes (act.NoteTime l.known.start) time-passes)
      (ap (λ r. settled (and_then r (λ root. Ok (at.ReadRoot (record { start = l.known.start; first = root; last = root }))))) first) leads-read_root

  pub leads-moment : Leads (walk_left is_last + 1 + 1 + 1) at.Moment
  leads-moment = leads-turn (walk_left is_last + 1 + 1) at.Moment (at.Step (at.NoteTime l.known.start)) (got.Moment l.known.start) (λ e. cc) (λ x h. h) refl leads-note_time

pub loads : (v : Verifies) (c : CoreDoc) (files : Files) (l : LoadedDoc) (answers : List AnswerDoc) → IsFresh c → Loadable v files c.setting l → AllHonest v files l.known.start c answers → IsLoaded v c answers l
loads v c files l answers fresh able h =
    let n = sum_by (role_turns c.setting l.known) (fetch_order l.targets.role) in
    let w = walk_turns (l.known.root.role.head.version == 2 ^ 64 - 1) in
    let count : n + 1 + 1 + 1 + 1 + 1 + 1 + 1 + w + 1 + 1 + 1 ≡ all_turns c.setting l = omega arith in
    let from : Leads v files c.setting l able (all_turns c.setting l) at.Moment = subst (λ k. Leads v files c.setting l able k at.Moment) count (leads-moment v files c.setting l able) in
    let r = (subst (λ st. Leads v files c.setting l able (all_turns c.setting l) st) (sym fresh) from) answers h in
    record { within = r.0; soon = r.1; ends = r.2 }
