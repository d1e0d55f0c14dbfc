-- That an update keeps at most as many delegated documents as the snapshot lists names.
use Rattle.std.specs.Prelude.{◌≡◌, ◌≤◌, ⊤, ℕ, List, [], length, Option, Some, None, Bool, true, false, Result, Ok, Err, if◌then◌else◌}
use Rattle.std.proofs.Common.{refl, sym, ◌∙◌, subst, inl, inr, arith, ap}
use Rattle.tough_keys.specs.Same.{Verifies}
use Rattle.tough_roles.specs.Signature.{SignedDoc}
use Rattle.tough_roles.specs.Timestamp.{TimestampDoc, MetafileDoc}
use Rattle.tough_roles.specs.declared.role_type.RoleType.TheVariants as role
use Rattle.tough_checks.specs.Documents.{timestamp_in, snapshot_in}
use Rattle.tough_roles.specs.Timestamp.{metafile_in}
use Rattle.tough_checks.specs.Files.{snapshot_file, targets_file}
use Rattle.tough_names.specs.Named.{Named}
use Rattle.tough_schema.specs.Whole.{TreeDoc}
use Rattle.tough_schema.specs.Entries.{documents_below, first_missing}
use Rattle.tough_schema.specs.Fresh.{IsUnloaded}
use Rattle.tough_update.specs.delegations.Numbered.{last_number}
use Rattle.tough_update.specs.delegations.Growing.{Progress, wants, grown, go_on, begun, wanted_name}
use Rattle.tough_trust.specs.delegations.Bare.{held_as}
use Rattle.tough_trust.proofs.lemmas.Bare.{bare-none}
use Rattle.tough_update.proofs.growth.Kept.{documents-carriers, tree-few}
use Rattle.tough_update.proofs.growth.Laws.{WorkKeeps, ProgressKeeps, begun-keeps, taken-keeps}
use Rattle.tough_update.proofs.growth.Placed.{WorkCarries, ProgressCarries, begun-carries, taken-carries, placed-few}
use Rattle.tough_update.specs.declared.counts.Counts.{Counts}
use Rattle.tough_trust.specs.Failure.{Failure, ParseMetadata}
use Rattle.tough_trust.specs.Walk.{next_root}
use Rattle.tough_trust.specs.Outcomes.{holds_json}
use Rattle.tough_trust.specs.Requests.{RequestDoc}
use Rattle.tough_trust.specs.Listed.{by_root, judged}
use Rattle.tough_update.specs.Delegated.{metas_in, is_reserved, if_found, grown_on, given, role_given, role_stored, with_received, role_holder, roles_begun, finished}
use Rattle.tough_update.specs.Stages.{WalkDoc, BaseDoc, KnownDoc, WantedDoc, PendingDoc, ReceivedDoc, RolesDoc, LoadedDoc, StageDoc, SettingDoc, CoreDoc}
use Rattle.tough_update.specs.Stages as at
use Rattle.tough_update.specs.Answered.{AnswerDoc}
use Rattle.tough_update.specs.Answered as got
use Rattle.tough_update.specs.Machine.{walked, walk_from, walk_ended, want_snapshot, known_of, want_targets, read_wanted, after, stage_after}
use Rattle.tough_update.specs.Promises.{Goes}
use Rattle.tough_update.specs.Counts.{none_yet, one_more, ends_fetch, with_fetch, with_tree}
use Rattle.tough_update.specs.Counted.{Counted, HadAsMany, names_listed, KeepsFew}
use Rattle.tough_update.specs.Counted as counted
use Rattle.tough_update.proofs.Turning.{Fine, if-fine, and_then-fine, walking, ending, beginning, reading, keeps-answer}
use Rattle.tough_trust.proofs.lemmas.Judging.{judged-ok}

-- a fetch leaves what is kept
kept-if : (b : Bool) (x n : Counts) → x.kept ≡ n.kept → (if b then x else n).kept ≡ n.kept
kept-if true x n h = h
kept-if false x n h = refl

fetch-kept : (st : StageDoc) (a : AnswerDoc) (n : Counts) → (with_fetch st a n).kept ≡ n.kept
fetch-kept (at.Fetch (at.Root w) r) a n = kept-if (ends_fetch a) (record n { roots = one_more n.roots }) n refl
fetch-kept (at.Fetch (at.Role k roles listed) r) a n = kept-if (ends_fetch a) (record n { delegated = one_more n.delegated }) n refl
fetch-kept at.Moment a n = refl
fetch-kept (at.ReadRoot w) a n = refl
fetch-kept (at.Step p) a n = refl
fetch-kept (at.Fetch (at.Timestamp b) r) a n = refl
fetch-kept (at.Fetch (at.Snapshot b t listed) r) a n = refl
fetch-kept (at.Fetch (at.Targets k listed) r) a n = refl
fetch-kept (at.Done r) a n = refl
fetch-kept at.Taken a n = refl

abbrev Keeps : Counts → StageDoc → Type 0
Keeps n (at.Step (at.PutTargets k d)) = (n.kept ≡ 0) × IsUnloaded d.role
Keeps n (at.Fetch (at.Role k roles listed) r) = (n.kept ≡ last_number roles.work.nodes) × WorkKeeps (metas_in k) roles.work × WorkCarries (metas_in k) roles.work
Keeps n (at.Step (at.PutDelegated k roles name d)) = (n.kept ≡ last_number roles.work.nodes) × WorkKeeps (metas_in k) roles.work × WorkCarries (metas_in k) roles.work × IsUnloaded d.role
Keeps n (at.Done (Ok l)) = (n.kept ≡ length (documents_below l.targets.role)) × (length (documents_below l.targets.role) ≤ length (metas_in l.known))
Keeps n (at.Done (Err f)) = ⊤
Keeps n at.Taken = ⊤
Keeps n at.Moment = n.kept ≡ 0
Keeps n (at.ReadRoot w) = n.kept ≡ 0
Keeps n (at.Step (at.NoteTime now)) = n.kept ≡ 0
Keeps n (at.Step (at.PutRoot w)) = n.kept ≡ 0
Keeps n (at.Step (at.PutLast w)) = n.kept ≡ 0
Keeps n (at.Step (at.PutTimestamp b t)) = n.kept ≡ 0
Keeps n (at.Step (at.PutSnapshot k listed)) = n.kept ≡ 0
Keeps n (at.Fetch (at.Root w) r) = n.kept ≡ 0
Keeps n (at.Fetch (at.Timestamp b) r) = n.kept ≡ 0
Keeps n (at.Fetch (at.Snapshot b t listed) r) = n.kept ≡ 0
Keeps n (at.Fetch (at.Targets k listed) r) = n.kept ≡ 0

-- an answer: n was counted before it, and m with the fetch that it ends
module _ (v : Verifies) (s : SettingDoc) (n m : Counts) (same : m.kept ≡ n.kept) where
  abbrev Next : StageDoc → Type 0
  Next st = Keeps (with_tree st m) st

  bad : (f : Failure) → Next (at.Done (Err f))
  bad f = tt

  abbrev Well : Result StageDoc Failure → Type 0
  Well = Fine Next bad

  abbrev Heard : StageDoc → AnswerDoc → Type 0
  Heard st a = ⊤

  walked-keeps : (w : WalkDoc) → m.kept ≡ 0 → Well (walked s.limits w)
  walked-keeps w h = walking Next bad s.limits w (λ _ _. h) (λ _. h)

  walk_ended-keeps : (w : WalkDoc) → m.kept ≡ 0 → Well (walk_ended s.limits s.enforced w)
  walk_ended-keeps w h = ending Next bad s.limits s.enforced w (λ _. h)

  want_snapshot-keeps : (b : BaseDoc) (t : SignedDoc TimestampDoc) (o : Option MetafileDoc) → m.kept ≡ 0 → Well (want_snapshot s.limits b t o)
  want_snapshot-keeps b t None h = tt
  want_snapshot-keeps b t (Some e) h = h

  want_targets-keeps : (k : KnownDoc) (o : Option MetafileDoc) → m.kept ≡ 0 → Well (want_targets s.limits k o)
  want_targets-keeps k None h = tt
  want_targets-keeps k (Some e) h = h

  found-keeps : (o : Option Named) (l : LoadedDoc) → length (documents_below l.targets.role) ≤ length (metas_in l.known) → Well (if_found o l)
  found-keeps None l le = (refl, le)
  found-keeps (Some name) l le = tt

  grown-keeps : (k : KnownDoc) (received : List ReceivedDoc) (p : Progress) → ProgressKeeps (metas_in k) p → ProgressCarries (metas_in k) p → Well (grown_on s.limits k received p)
  grown-keeps k received (wants w e) g c = (refl, g, c)
  grown-keeps k received (grown t) g c = found-keeps (first_missing t.role) (record { known = k; targets = t; received = received }) (tree-few (metas_in k) t.role g.0 g.1)

  given-keeps : (k : KnownDoc) (roles : RolesDoc) (d : SignedDoc TreeDoc) → WorkKeeps (metas_in k) roles.work → WorkCarries (metas_in k) roles.work → IsUnloaded d.role → Well (role_given s.limits k roles d)
  given-keeps k roles d g c bare =
      let h = held_as (wanted_name roles.work) d in
      grown-keeps k roles.received (go_on (metas_in k) (given roles.work d)) (taken-keeps (metas_in k) roles.work h bare g) (taken-carries (metas_in k) roles.work h c)

  read-keeps : (w : WantedDoc) (r : RequestDoc) (bytes : List ℕ) → Keeps n (at.Fetch w r) → Heard (at.Fetch w r) (got.Bytes bytes) → Well (read_wanted v s w r bytes)
  read-keeps (at.Root w) r bytes t _ = and_then-fine Next bad (next_root v w.last.role bytes) (λ root. Ok (at.Step (at.PutRoot (record { start = w.start; first = w.first; last = root })))) (λ root is. same ∙ t)
  read-keeps (at.Timestamp b) r bytes t _ = reading Next bad (ParseMetadata role.Timestamp (holds_json bytes)) (timestamp_in bytes) (λ d. at.Step (at.PutTimestamp b d)) (λ d. same ∙ t)
  read-keeps (at.Snapshot b x listed) r bytes t _ = reading Next bad (ParseMetadata role.Snapshot (holds_json bytes)) (snapshot_in bytes) (λ d. at.Step (at.PutSnapshot (known_of b x d) listed)) (λ d. same ∙ t)
  read-keeps (at.Targets k listed) r bytes t _ = and_then-fine Next bad (judged v s.enforced k.start (by_root k.root.role) listed bytes) (λ d. Ok (at.Step (at.PutTargets k d))) (λ d is.
      let p = judged-ok v s.enforced k.start (by_root k.root.role) listed bytes d is in
      (same ∙ t, subst (λ (x : SignedDoc TreeDoc). IsUnloaded x.role) (sym p.is) (bare-none p.page)))
  read-keeps (at.Role k roles listed) r bytes t _ =
      let kept = with_received roles bytes in
      and_then-fine Next bad (judged v s.enforced k.start (role_holder roles.work) listed bytes) (role_stored s.limits k kept r.name) (λ d is.
      let p = judged-ok v s.enforced k.start (role_holder roles.work) listed bytes d is in
      let bare : IsUnloaded d.role = subst (λ (x : SignedDoc TreeDoc). IsUnloaded x.role) (sym p.is) (bare-none p.page) in
      if-fine Next bad (is_reserved r.name) (role_given s.limits k kept d) (Ok (at.Step (at.PutDelegated k kept r.name d))) (λ _. given-keeps k kept d t.1 t.2 bare) (refl, t.1, t.2, bare))

  step-keeps : (p : PendingDoc) → Keeps n (at.Step p) → Heard (at.Step p) (got.Step (Ok (tt {0}))) → Well (after v s p)
  step-keeps (at.NoteTime now) t _ = beginning Next bad v s.trusted now (λ root is. same ∙ t)
  step-keeps (at.PutRoot w) t _ = walked-keeps w (same ∙ t)
  step-keeps (at.PutLast w) t _ = walk_ended-keeps w (same ∙ t)
  step-keeps (at.PutTimestamp b x) t _ = want_snapshot-keeps b x (metafile_in x.role.meta snapshot_file) (same ∙ t)
  step-keeps (at.PutSnapshot k listed) t _ = want_targets-keeps k (metafile_in k.snapshot.role.meta targets_file) (same ∙ t)
  step-keeps (at.PutTargets k d) t _ =
      let top = held_as [] d in
      let few : length (documents_below d.role) ≤ length (metas_in k) = omega (arith, documents-carriers d.role, ap (λ (ns : List (List ℕ)). length ns) t.1) in
      if-fine Next bad s.whole (roles_begun s.limits k d) (finished k [] d) (λ _. grown-keeps k [] (begun (metas_in k) top) (begun-keeps (metas_in k) top t.1) (begun-carries (metas_in k) top))
      (found-keeps (first_missing d.role) (record { known = k; targets = d; received = [] }) few)
  step-keeps (at.PutDelegated k roles name d) t _ = given-keeps k roles d t.1 t.2 t.3

  -- an answer that isn't waited for
  same-keeps : (st : StageDoc) → Keeps n st → Next st
  same-keeps (at.Step (at.PutTargets k d)) t = (same ∙ t.0, t.1)
  same-keeps (at.Fetch (at.Role k roles listed) r) t = (refl, t.1, t.2)
  same-keeps (at.Step (at.PutDelegated k roles name d)) t = (refl, t.1, t.2, t.3)
  same-keeps (at.Done (Ok l)) t = (refl, t.1)
  same-keeps (at.Done (Err f)) t = tt
  same-keeps at.Taken t = tt
  same-keeps at.Moment t = same ∙ t
  same-keeps (at.ReadRoot w) t = same ∙ t
  same-keeps (at.Step (at.NoteTime now)) t = same ∙ t
  same-keeps (at.Step (at.PutRoot w)) t = same ∙ t
  same-keeps (at.Step (at.PutLast w)) t = same ∙ t
  same-keeps (at.Step (at.PutTimestamp b x)) t = same ∙ t
  same-keeps (at.Step (at.PutSnapshot k listed)) t = same ∙ t
  same-keeps (at.Fetch (at.Root w) r) t = same ∙ t
  same-keeps (at.Fetch (at.Timestamp b) r) t = same ∙ t
  same-keeps (at.Fetch (at.Snapshot b x listed) r) t = same ∙ t
  same-keeps (at.Fetch (at.Targets k listed) r) t = same ∙ t

  turn-keeps : (st : StageDoc) (a : AnswerDoc) → Keeps n st → Well (stage_after v s st a)
  turn-keeps st a t = keeps-answer v s (Keeps n) Next bad Heard (record {
    moment = λ now t _. same ∙ t;
    stored = λ w r t _. walked-keeps (walk_from w r) (same ∙ t);
    read = read-keeps;
    ends = λ w r a _ t _. same ∙ t;
    step = step-keeps;
    same = λ st a _ _ t _. same-keeps st t;
  }) st a t tt

-- after each answer
goes-keeps : (v : Verifies) (c d : CoreDoc) (n : Counts) (a : AnswerDoc) → Keeps n c.stage → Goes v c a d → Keeps (with_tree d.stage (with_fetch c.stage a n)) d.stage
goes-keeps v c d n a t (inl e) =
    let m = with_fetch c.stage a n in
    subst (λ (x : CoreDoc). Keeps (with_tree x.stage m) x.stage) (sym e) (turn-keeps v c.setting n m (fetch-kept c.stage a n) c.stage a t)
goes-keeps v c d n a t (inr e) =
    let m = with_fetch c.stage a n in
    subst (λ (x : CoreDoc). Keeps (with_tree x.stage m) x.stage) (sym e) tt

pub keeps : (v : Verifies) (c : CoreDoc) (n : Counts) → Counted v c n → Keeps n c.stage
keeps v c n (counted.begun d fresh) = subst (Keeps none_yet) (sym fresh) refl
keeps v c n (counted.turned b d k a h g) = goes-keeps v b d k a (keeps v b k h) g

-- ---- the snapshot that was accepted

left : (v : Verifies) (c d : CoreDoc) (k : Counts) (a : AnswerDoc) (h : Counted v c k) (g : Goes v c a d) → HadAsMany h names_listed k.kept → HadAsMany (counted.turned c d k a h g) names_listed (with_fetch c.stage a k).kept
left v c d k a h g x = record { earlier = x.earlier; passed = inr x.passed; few = subst (λ y. y ≤ names_listed x.earlier.stage) (sym (fetch-kept c.stage a k)) x.few }

-- one answer later: the tree has grown, or what is kept is left
kept-had : (v : Verifies) (c d : CoreDoc) (k : Counts) (a : AnswerDoc) (h : Counted v c k) (g : Goes v c a d) (st : StageDoc) → d.stage ≡ st → Keeps (with_tree st (with_fetch c.stage a k)) st → HadAsMany h names_listed k.kept
    → HadAsMany (counted.turned c d k a h g) names_listed (with_tree st (with_fetch c.stage a k)).kept
kept-had v c d k a h g (at.Done (Ok l)) e t x =
    record { earlier = d; passed = inl refl; few = subst (λ y. length (documents_below l.targets.role) ≤ names_listed y) (sym e) t.1 }
kept-had v c d k a h g (at.Fetch (at.Role known roles listed) r) e t x =
    record { earlier = d; passed = inl refl; few = subst (λ y. last_number roles.work.nodes ≤ names_listed y) (sym e) (placed-few (metas_in known) roles.work t.2) }
kept-had v c d k a h g (at.Step (at.PutDelegated known roles name doc)) e t x =
    record { earlier = d; passed = inl refl; few = subst (λ y. last_number roles.work.nodes ≤ names_listed y) (sym e) (placed-few (metas_in known) roles.work t.2) }
kept-had v c d k a h g (at.Done (Err f)) e t x = left v c d k a h g x
kept-had v c d k a h g at.Moment e t x = left v c d k a h g x
kept-had v c d k a h g (at.ReadRoot w) e t x = left v c d k a h g x
kept-had v c d k a h g at.Taken e t x = left v c d k a h g x
kept-had v c d k a h g (at.Fetch (at.Root w) r) e t x = left v c d k a h g x
kept-had v c d k a h g (at.Fetch (at.Timestamp b) r) e t x = left v c d k a h g x
kept-had v c d k a h g (at.Fetch (at.Snapshot b y listed) r) e t x = left v c d k a h g x
kept-had v c d k a h g (at.Fetch (at.Targets known listed) r) e t x = left v c d k a h g x
kept-had v c d k a h g (at.Step (at.NoteTime now)) e t x = left v c d k a h g x
kept-had v c d k a h g (at.Step (at.PutRoot w)) e t x = left v c d k a h g x
kept-had v c d k a h g (at.Step (at.PutLast w)) e t x = left v c d k a h g x
kept-had v c d k a h g (at.Step (at.PutTimestamp b y)) e t x = left v c d k a h g x
kept-had v c d k a h g (at.Step (at.PutSnapshot known listed)) e t x = left v c d k a h g x
kept-had v c d k a h g (at.Step (at.PutTargets known doc)) e t x = left v c d k a h g x

pub keeps_few : (v : Verifies) (c : CoreDoc) (n : Counts) (h : Counted v c n) → KeepsFew h
keeps_few v c n (counted.begun d fresh) = record { earlier = d; passed = refl; few = omega arith }
keeps_few v c n (counted.turned b d k a h g) = kept-had v b d k a h g d.stage refl (goes-keeps v b d k a (keeps v b k h) g) (keeps_few v b k h)

pub kept_listed : (v : Verifies) (c : CoreDoc) (n : Counts) (l : LoadedDoc) → Counted v c n → c.stage ≡ at.Done (Ok l) → n.kept ≤ length l.known.snapshot.role.meta
kept_listed v c n l h is = let t = subst (Keeps n) is (keeps v c n h) in omega (arith, t.0, t.1)
