-- How far what an update counts may go.
use Rattle.std.specs.Prelude.{◌≡◌, ◌≤◌, ◌<◌, ℕ, ◌+◌, ◌-◌, ◌^◌, min, List, [], length, Option, Some, None, Bool, true, false, IsTrue, Result, Ok, Err, nat_lt, if◌then◌else◌}
use Rattle.std.proofs.Common.{refl, sym, ◌∙◌, ap, subst, inl, inr, arith}
use Rattle.std.proofs.Math.Nat.{min-le_left, min-le_right, le-min}
use Rattle.std.proofs.lemmas.Bool.{ltb-true}
use Rattle.tough_keys.specs.Same.{Verifies}
use Rattle.tough_roles.specs.Root.{RootDoc}
use Rattle.tough_roles.specs.Signature.{SignedDoc}
use Rattle.tough_roles.specs.Timestamp.{TimestampDoc, MetafileDoc}
use Rattle.tough_roles.specs.declared.role_type.RoleType.TheVariants as role
use Rattle.tough_checks.specs.Documents.{timestamp_in, snapshot_in}
use Rattle.tough_roles.specs.Timestamp.{metafile_in}
use Rattle.tough_checks.specs.Files.{snapshot_file, targets_file}
use Rattle.tough_names.specs.Named.{Named}
use Rattle.tough_schema.specs.Whole.{TreeDoc}
use Rattle.tough_schema.specs.Entries.{entries, documents_below, first_missing}
use Rattle.tough_schema.specs.Fresh.{IsUnloaded}
use Rattle.tough_update.specs.delegations.Growing.{WorkDoc, Progress, wants, grown, go_on, begun, wanted_name}
use Rattle.tough_trust.specs.delegations.Bare.{held_as}
use Rattle.tough_update.specs.growth.Tallies.{tally, counted_tally}
use Rattle.tough_trust.proofs.lemmas.Bare.{bare-none}
use Rattle.tough_update.proofs.growth.Tallied.{IsKeyed, bare-keyed}
use Rattle.tough_update.proofs.growth.Laws.{WorkGrows, ProgressGrows, begun-grows, taken-grows, grows-more, grows-listed}
use Rattle.tough_update.specs.declared.counts.Counts.{Counts}
use Rattle.tough_trust.specs.Failure.{Failure, ParseMetadata}
use Rattle.tough_trust.specs.Walk.{next_root}
use Rattle.tough_trust.specs.Outcomes.{holds_json}
use Rattle.tough_trust.specs.Requests.{RequestDoc}
use Rattle.tough_trust.specs.Listed.{by_root, judged}
use Rattle.tough_update.specs.Delegated.{metas_in, is_reserved, if_found, grown_on, given, role_given, role_stored, with_received, role_holder, roles_begun, finished}
use Rattle.tough_update.specs.Stages.{WalkDoc, BaseDoc, KnownDoc, WantedDoc, PendingDoc, ReceivedDoc, RolesDoc, LoadedDoc, StageDoc, SettingDoc, CoreDoc}
use Rattle.tough_update.specs.Stages as at
use Rattle.tough_update.specs.Answered.{AnswerDoc}
use Rattle.tough_update.specs.Answered as got
use Rattle.tough_update.specs.Machine.{walked, walk_from, walk_ended, want_snapshot, known_of, want_targets, read_wanted, after, stage_after}
use Rattle.tough_update.specs.Promises.{Goes}
use Rattle.tough_update.specs.Counts.{none_yet, one_more, ends_fetch, with_fetch, with_work, with_tree}
use Rattle.tough_update.specs.Counted.{Counted, FetchesFew, KeepsAll}
use Rattle.tough_update.specs.Counted as counted
use Rattle.tough_update.proofs.Turning.{Fine, if-fine, and_then-fine, walking, ending, beginning, reading, waits, keeps-answer}
use Rattle.tough_trust.proofs.lemmas.Walking.{next-fine}
use Rattle.tough_trust.proofs.lemmas.Judging.{judged-ok}
use Rattle.tough_update.proofs.Keeping.{kept_listed}

one-more : (n : ℕ) → one_more n ≤ n + 1
one-more n = min-le_left (n + 1) (2 ^ 64 - 1)

-- one more than were fetched, as far as both are counted
counted-one : (d t e : ℕ) → d + 1 ≤ t → e ≡ min t (2 ^ 64 - 1) → min (d + 1) (2 ^ 64 - 1) ≤ e
counted-one d t e le is =
    let small : min (d + 1) (2 ^ 64 - 1) ≤ t = omega (arith, min-le_left (d + 1) (2 ^ 64 - 1), le) in
    subst (λ x. min (d + 1) (2 ^ 64 - 1) ≤ x) (sym is) (le-min small (min-le_right (d + 1) (2 ^ 64 - 1)))

-- as many as were fetched
counted-all : (d t : ℕ) → d + 1 ≤ t → d ≤ 2 ^ 64 - 1 → d ≤ min t (2 ^ 64 - 1)
counted-all d t le small = let less : d ≤ t = omega (arith, le) in le-min less small

counted-small : (d t e : ℕ) → d ≤ e → e ≡ min t (2 ^ 64 - 1) → d ≤ 2 ^ 64 - 1
counted-small d t e le is = omega (arith, le, is, min-le_right t (2 ^ 64 - 1))

below : (first last roots max : ℕ) → first + roots ≤ last → IsTrue (nat_lt (last - first) max) → roots < max
below first last roots max le h = let k : last - first < max = ltb-true _ _ h in omega (arith, le, k)

unended : (w : WantedDoc) (r : RequestDoc) (a : AnswerDoc) → waits (at.Fetch w r) a ≡ false → ends_fetch a ≡ false
unended w r (got.Bytes bytes) e = cc e
unended w r (got.NotStarted f) e = cc e
unended w r (got.Cut f) e = cc e
unended w r (got.Moment now) e = refl
unended w r (got.Stored x) e = refl
unended w r (got.Step s) e = refl

abbrev more_roots : Counts → Counts
more_roots n = record n { roots = one_more n.roots }

abbrev more_delegated : Counts → Counts
more_delegated n = record n { delegated = one_more n.delegated }

module _ (v : Verifies) (s : SettingDoc) where
  -- no delegated document was fetched yet
  abbrev Early : Counts → Type 0
  Early n = (n.roots ≤ s.limits.max_root_updates) × (n.delegated ≡ 0)

  -- no more than roles are listed
  abbrev Late : Counts → Type 0
  Late n = (n.roots ≤ s.limits.max_root_updates) × (n.delegated ≤ n.entries)

  -- nothing was fetched yet
  abbrev First : Counts → Type 0
  First n = (n.roots ≡ 0) × (n.delegated ≡ 0)

  -- the walk went over as many roots as were fetched
  abbrev Over : WalkDoc → Counts → Type 0
  Over w n = (w.first.role.head.version + n.roots ≤ w.last.role.head.version) × (n.delegated ≡ 0)

  -- so many more roles are listed than documents were fetched
  abbrev Grows : ℕ → WorkDoc → Counts → Type 0
  Grows k w n = Late n × WorkGrows n.delegated k w × (n.entries ≡ counted_tally w.nodes)

  abbrev Bounded : Counts → StageDoc → Type 0
  Bounded n at.Moment = First n
  Bounded n (at.ReadRoot w) = First n × (w.first ≡ w.last)
  Bounded n (at.Step (at.NoteTime now)) = First n
  Bounded n (at.Fetch (at.Root w) r) = Over w n × (n.roots < s.limits.max_root_updates)
  Bounded n (at.Step (at.PutRoot w)) = Over w n × (n.roots ≤ s.limits.max_root_updates)
  Bounded n (at.Step (at.PutLast w)) = Early n
  Bounded n (at.Fetch (at.Timestamp b) r) = Early n
  Bounded n (at.Step (at.PutTimestamp b t)) = Early n
  Bounded n (at.Fetch (at.Snapshot b t listed) r) = Early n
  Bounded n (at.Step (at.PutSnapshot k listed)) = Early n
  Bounded n (at.Fetch (at.Targets k listed) r) = Early n
  Bounded n (at.Step (at.PutTargets k d)) = Early n × IsKeyed d.role × IsUnloaded d.role
  Bounded n (at.Fetch (at.Role k roles listed) r) = Grows 0 roles.work n
  Bounded n (at.Step (at.PutDelegated k roles name d)) = Grows 1 roles.work n × IsKeyed d.role × IsUnloaded d.role
  Bounded n (at.Done (Ok l)) = Late n × (n.kept ≡ length (documents_below l.targets.role)) × (n.entries ≡ length (entries l.targets.role))
  Bounded n (at.Done (Err f)) = Late n
  Bounded n at.Taken = Late n

  first-early : (n : Counts) → First n → Early n
  first-early n t = (omega (arith, t.0), t.1)

  early-late : (n : Counts) → Early n → Late n
  early-late n t = (t.0, omega (arith, t.1))

  late-at : (n : Counts) (st : StageDoc) → Bounded n st → Late n
  late-at n at.Moment t = early-late n (first-early n t)
  late-at n (at.ReadRoot w) t = early-late n (first-early n t.0)
  late-at n (at.Step (at.NoteTime now)) t = early-late n (first-early n t)
  late-at n (at.Fetch (at.Root w) r) t = (omega (arith, t.1), omega (arith, t.0.1))
  late-at n (at.Step (at.PutRoot w)) t = early-late n (t.1, t.0.1)
  late-at n (at.Step (at.PutLast w)) t = early-late n t
  late-at n (at.Fetch (at.Timestamp b) r) t = early-late n t
  late-at n (at.Step (at.PutTimestamp b x)) t = early-late n t
  late-at n (at.Fetch (at.Snapshot b x listed) r) t = early-late n t
  late-at n (at.Step (at.PutSnapshot k listed)) t = early-late n t
  late-at n (at.Fetch (at.Targets k listed) r) t = early-late n t
  late-at n (at.Step (at.PutTargets k d)) t = early-late n t.0
  late-at n (at.Fetch (at.Role k roles listed) r) t = t.0
  late-at n (at.Step (at.PutDelegated k roles name d)) t = t.0.0
  late-at n (at.Done (Ok l)) t = t.0
  late-at n (at.Done (Err f)) t = t
  late-at n at.Taken t = t

  -- a root more, where one was fetched
  roots-more : (n : Counts) (b : Bool) → n.roots < s.limits.max_root_updates → n.delegated ≡ 0 → Early (if b then more_roots n else n)
  roots-more n true lt none = (omega (arith, one-more n.roots, lt), none)
  roots-more n false lt none = (omega (arith, lt), none)

  -- a delegated document more, where one was fetched
  delegated-late : (n : Counts) (b : Bool) (w : WorkDoc) → Grows 0 w n → Late (if b then more_delegated n else n)
  delegated-late n true w g = (g.0.0, counted-one n.delegated (tally w.nodes) n.entries (grows-listed n.delegated w g.1) g.2)
  delegated-late n false w g = g.0

  -- the tree is counted again
  grows-counted : (k : ℕ) (w : WorkDoc) (n : Counts) → Grows k w n → Grows k w (with_work w n)
  grows-counted k w n g = ((g.0.0, subst (λ x. n.delegated ≤ x) g.2 g.0.1), g.1, refl)

  late-next : (n : Counts) (st : StageDoc) (a : AnswerDoc) → Bounded n st → Late (with_fetch st a n)
  late-next n (at.Fetch (at.Root w) r) a t = early-late (if ends_fetch a then more_roots n else n) (roots-more n (ends_fetch a) t.1 t.0.1)
  late-next n (at.Fetch (at.Role k roles listed) r) a t = delegated-late n (ends_fetch a) roles.work t
  late-next n at.Moment a t = late-at n at.Moment t
  late-next n (at.ReadRoot w) a t = late-at n (at.ReadRoot w) t
  late-next n (at.Step p) a t = late-at n (at.Step p) t
  late-next n (at.Fetch (at.Timestamp b) r) a t = late-at n (at.Fetch (at.Timestamp b) r) t
  late-next n (at.Fetch (at.Snapshot b x listed) r) a t = late-at n (at.Fetch (at.Snapshot b x listed) r) t
  late-next n (at.Fetch (at.Targets k listed) r) a t = late-at n (at.Fetch (at.Targets k listed) r) t
  late-next n (at.Done r) a t = late-at n (at.Done r) t
  late-next n at.Taken a t = late-at n at.Taken t

  -- ---- an answer: n was counted before it, and m with the fetch that it ends

  module _ (n m : Counts) (enough : Late m) where
    abbrev Next : StageDoc → Type 0
    Next st = Bounded (with_tree st m) st

    bad : (f : Failure) → Next (at.Done (Err f))
    bad f = enough

    abbrev Well : Result StageDoc Failure → Type 0
    Well = Fine Next bad

    abbrev Heard : StageDoc → AnswerDoc → Type 0
    Heard st a = m ≡ with_fetch st a n

    early : m ≡ n → Early n → Early m
    early l t = subst Early (sym l) t

    walked-bounded : (w : WalkDoc) → Over w m → m.roots ≤ s.limits.max_root_updates → Well (walked s.limits w)
    walked-bounded w o le = walking Next bad s.limits w (λ _ _. (le, o.1)) (λ g. (o, below w.first.role.head.version w.last.role.head.version m.roots s.limits.max_root_updates o.0 g))

    -- at the walk's first root
    at-bounded : (w : WalkDoc) → w.first ≡ w.last → First m → Well (walked s.limits w)
    at-bounded w same none =
        let over : w.first.role.head.version + m.roots ≤ w.last.role.head.version = omega (arith, none.0, ap (λ (r : SignedDoc RootDoc). r.role.head.version) same) in
        walked-bounded w (over, none.1) enough.0

    from-bounded : (w : WalkDoc) (r : Option (SignedDoc RootDoc)) → w.first ≡ w.last → First m → Well (walked s.limits (walk_from w r))
    from-bounded w None same none = at-bounded w same none
    from-bounded w (Some r) same none = at-bounded (record { start = w.start; first = r; last = r }) refl none

    walk_ended-bounded : (w : WalkDoc) → Early m → Well (walk_ended s.limits s.enforced w)
    walk_ended-bounded w f = ending Next bad s.limits s.enforced w (λ _. f)

    want_snapshot-bounded : (b : BaseDoc) (t : SignedDoc TimestampDoc) (o : Option MetafileDoc) → Early m → Well (want_snapshot s.limits b t o)
    want_snapshot-bounded b t None f = enough
    want_snapshot-bounded b t (Some e) f = f

    want_targets-bounded : (k : KnownDoc) (o : Option MetafileDoc) → Early m → Well (want_targets s.limits k o)
    want_targets-bounded k None f = enough
    want_targets-bounded k (Some e) f = f

    found-bounded : (o : Option Named) (l : LoadedDoc) → m.delegated ≤ length (entries l.targets.role) → Well (if_found o l)
    found-bounded None l le = ((enough.0, le), refl, refl)
    found-bounded (Some name) l le = enough

    grown-bounded : (k : KnownDoc) (received : List ReceivedDoc) (p : Progress) → m.delegated ≤ 2 ^ 64 - 1 → ProgressGrows m.delegated p → Well (grown_on s.limits k received p)
    grown-bounded k received (wants w e) small g = ((enough.0, counted-all m.delegated (tally w.nodes) (grows-listed m.delegated w g) small), g, refl)
    grown-bounded k received (grown t) small g = found-bounded (first_missing t.role) (record { known = k; targets = t; received = received }) g

    given-bounded : (k : KnownDoc) (roles : RolesDoc) (d : SignedDoc TreeDoc) → Grows 1 roles.work m → IsKeyed d.role → IsUnloaded d.role → Well (role_given s.limits k roles d)
    given-bounded k roles d g keyed bare =
        grown-bounded k roles.received (go_on (metas_in k) (given roles.work d)) (counted-small m.delegated (tally roles.work.nodes) m.entries g.0.1 g.2) (taken-grows (metas_in k) m.delegated roles.work (held_as (wanted_name roles.work) d) bare keyed g.1)

    read-bounded : (w : WantedDoc) (r : RequestDoc) (bytes : List ℕ) → Bounded n (at.Fetch w r) → Heard (at.Fetch w r) (got.Bytes bytes) → Well (read_wanted v s w r bytes)
    read-bounded (at.Root w) r bytes t l = and_then-fine Next bad (next_root v w.last.role bytes) (λ root. Ok (at.Step (at.PutRoot (record { start = w.start; first = w.first; last = root })))) (λ root is.
        let version = (next-fine v w.last bytes root is).version in
        let roots : m.roots ≤ n.roots + 1 = subst (λ x. x ≤ n.roots + 1) (sym (ap (λ (x : Counts). x.roots) l)) (one-more n.roots) in
        let over : w.first.role.head.version + m.roots ≤ root.role.head.version = omega (arith, version, roots, t.0.0) in
        ((over, ap (λ (x : Counts). x.delegated) l ∙ t.0.1), enough.0))
    read-bounded (at.Timestamp b) r bytes t l = reading Next bad (ParseMetadata role.Timestamp (holds_json bytes)) (timestamp_in bytes) (λ d. at.Step (at.PutTimestamp b d)) (λ d. early l t)
    read-bounded (at.Snapshot b x listed) r bytes t l = reading Next bad (ParseMetadata role.Snapshot (holds_json bytes)) (snapshot_in bytes) (λ d. at.Step (at.PutSnapshot (known_of b x d) listed)) (λ d. early l t)
    read-bounded (at.Targets k listed) r bytes t l = and_then-fine Next bad (judged v s.enforced k.start (by_root k.root.role) listed bytes) (λ d. Ok (at.Step (at.PutTargets k d))) (λ d is.
        let p = judged-ok v s.enforced k.start (by_root k.root.role) listed bytes d is in (
          early l t,
          subst (λ (x : SignedDoc TreeDoc). IsKeyed x.role) (sym p.is) (bare-keyed p.page.role),
          subst (λ (x : SignedDoc TreeDoc). IsUnloaded x.role) (sym p.is) (bare-none p.page),
        ))
    read-bounded (at.Role k roles listed) r bytes t l =
        let kept = with_received roles bytes in
        let delegated : m.delegated ≤ n.delegated + 1 = subst (λ x. x ≤ n.delegated + 1) (sym (ap (λ (x : Counts). x.delegated) l)) (one-more n.delegated) in
        let grows : Grows 1 roles.work m = (enough, grows-more n.delegated m.delegated roles.work delegated t.1, ap (λ (x : Counts). x.entries) l ∙ t.2) in
        and_then-fine Next bad (judged v s.enforced k.start (role_holder roles.work) listed bytes) (role_stored s.limits k kept r.name) (λ d is.
        let p = judged-ok v s.enforced k.start (role_holder roles.work) listed bytes d is in
        let keyed : IsKeyed d.role = subst (λ (x : SignedDoc TreeDoc). IsKeyed x.role) (sym p.is) (bare-keyed p.page.role) in
        let bare : IsUnloaded d.role = subst (λ (x : SignedDoc TreeDoc). IsUnloaded x.role) (sym p.is) (bare-none p.page) in
        if-fine Next bad (is_reserved r.name) (role_given s.limits k kept d) (Ok (at.Step (at.PutDelegated k kept r.name d))) (λ _. given-bounded k kept d grows keyed bare)
        (grows-counted 1 roles.work m grows, keyed, bare))

    step-bounded : (p : PendingDoc) → Bounded n (at.Step p) → Heard (at.Step p) (got.Step (Ok (tt {0}))) → Well (after v s p)
    step-bounded (at.NoteTime now) t l = beginning Next bad v s.trusted now (λ root is. (subst First (sym l) t, refl))
    step-bounded (at.PutRoot w) t l = walked-bounded w (subst (Over w) (sym l) t.0) enough.0
    step-bounded (at.PutLast w) t l = walk_ended-bounded w (early l t)
    step-bounded (at.PutTimestamp b x) t l = want_snapshot-bounded b x (metafile_in x.role.meta snapshot_file) (early l t)
    step-bounded (at.PutSnapshot k listed) t l = want_targets-bounded k (metafile_in k.snapshot.role.meta targets_file) (early l t)
    step-bounded (at.PutTargets k d) t l =
        let none : m.delegated ≡ 0 = (early l t.0).1 in
        let top = held_as [] d in
        if-fine Next bad s.whole (roles_begun s.limits k d) (finished k [] d) (λ _.
        grown-bounded k [] (begun (metas_in k) top) (omega (arith, none)) (subst (λ x. ProgressGrows x (begun (metas_in k) top)) (sym none) (begun-grows (metas_in k) top t.2 t.1)))
        (found-bounded (first_missing d.role) (record { known = k; targets = d; received = [] }) (omega (arith, none)))
    step-bounded (at.PutDelegated k roles name d) t l = given-bounded k roles d (subst (Grows 1 roles.work) (sym l) t.0) t.1 t.2

    -- an answer that isn't waited for
    kept-counts : (more : Counts) (b : Bool) → b ≡ false → m ≡ (if b then more else n) → m ≡ n
    kept-counts more true e l = cc e
    kept-counts more false e l = l

    same-bounded : (st : StageDoc) (a : AnswerDoc) → waits st a ≡ false → Bounded n st → Heard st a → Next st
    same-bounded at.Moment a e t l = subst First (sym l) t
    same-bounded (at.ReadRoot w) a e t l = (subst First (sym l) t.0, t.1)
    same-bounded (at.Step (at.NoteTime now)) a e t l = subst First (sym l) t
    same-bounded (at.Fetch (at.Root w) r) a e t l = subst (λ x. Bounded x (at.Fetch (at.Root w) r)) (sym (kept-counts (more_roots n) (ends_fetch a) (unended (at.Root w) r a e) l)) t
    same-bounded (at.Step (at.PutRoot w)) a e t l = subst (λ x. Bounded x (at.Step (at.PutRoot w))) (sym l) t
    same-bounded (at.Step (at.PutLast w)) a e t l = early l t
    same-bounded (at.Fetch (at.Timestamp b) r) a e t l = early l t
    same-bounded (at.Step (at.PutTimestamp b x)) a e t l = early l t
    same-bounded (at.Fetch (at.Snapshot b x listed) r) a e t l = early l t
    same-bounded (at.Step (at.PutSnapshot k listed)) a e t l = early l t
    same-bounded (at.Fetch (at.Targets k listed) r) a e t l = early l t
    same-bounded (at.Step (at.PutTargets k d)) a e t l = (early l t.0, t.1, t.2)
    same-bounded (at.Fetch (at.Role k roles listed) r) a e t l =
        grows-counted 0 roles.work m (subst (Grows 0 roles.work) (sym (kept-counts (more_delegated n) (ends_fetch a) (unended (at.Role k roles listed) r a e) l)) t)
    same-bounded (at.Step (at.PutDelegated k roles name d)) a e t l = (grows-counted 1 roles.work m (subst (Grows 1 roles.work) (sym l) t.0), t.1, t.2)
    same-bounded (at.Done (Ok x)) a e t l =
        let is : m.delegated ≡ n.delegated = ap (λ (y : Counts). y.delegated) l in
        let le : m.delegated ≤ length (entries x.targets.role) = omega (arith, is, t.0.1, t.2) in
        ((enough.0, le), refl, refl)
    same-bounded (at.Done (Err f)) a e t l = enough
    same-bounded at.Taken a e t l = enough

    turn-bounded : (st : StageDoc) (a : AnswerDoc) → Bounded n st → Heard st a → Well (stage_after v s st a)
    turn-bounded st a t l = keeps-answer v s (Bounded n) Next bad Heard (record {
      moment = λ now t l. subst First (sym l) t;
      stored = λ w r t l. from-bounded w r t.1 (subst First (sym l) t.0);
      read = read-bounded;
      ends = λ w r a _ t l. subst Early (sym l) (roots-more n (ends_fetch a) t.1 t.0.1);
      step = step-bounded;
      same = λ st a e _ t l. same-bounded st a e t l;
    }) st a t l

-- after each answer
goes-bounded : (v : Verifies) (c d : CoreDoc) (n : Counts) (a : AnswerDoc) → Bounded v c.setting n c.stage → Goes v c a d → Bounded v d.setting (with_tree d.stage (with_fetch c.stage a n)) d.stage
goes-bounded v c d n a t (inl e) =
    let m = with_fetch c.stage a n in
    subst (λ (x : CoreDoc). Bounded v x.setting (with_tree x.stage m) x.stage) (sym e) (turn-bounded v c.setting n m (late-next v c.setting n c.stage a t) c.stage a t refl)
goes-bounded v c d n a t (inr e) =
    let m = with_fetch c.stage a n in
    subst (λ (x : CoreDoc). Bounded v x.setting (with_tree x.stage m) x.stage) (sym e) (late-next v c.setting n c.stage a t)

bounded : (v : Verifies) (c : CoreDoc) (n : Counts) → Counted v c n → Bounded v c.setting n c.stage
bounded v c n (counted.begun d fresh) = subst (Bounded v d.setting none_yet) (sym fresh) (refl, refl)
bounded v c n (counted.turned b d k a h g) = goes-bounded v b d k a (bounded v b k h) g

-- ---- the laws

pub fetches_few : (v : Verifies) (c : CoreDoc) (n : Counts) → Counted v c n → FetchesFew c.setting.limits n
fetches_few v c n h = let t = late-at v c.setting n c.stage (bounded v c n h) in record { roots = t.0; delegated = t.1 }

pub keeps_all : (v : Verifies) (c : CoreDoc) (n : Counts) (l : LoadedDoc) → Counted v c n → c.stage ≡ at.Done (Ok l) → KeepsAll l n
keeps_all v c n l h is =
    let t = subst (Bounded v c.setting n) is (bounded v c n h) in
    record { kept = t.1; few = kept_listed v c n l h is; entries = t.2; fetched = t.0.1 }
