-- What is so of each stage after given answers: what the clock told, which roots were met, and which files may be asked for.
use Rattle.std.specs.Prelude.{◌≡◌, ℕ, ℤ, ◌+◌, List, [], ◌∷◌, ◌++◌, codes, Option, Some, None, Bool, true, false, ⊤, Result, Ok, Err, not, if◌then◌else◌}
use Rattle.std.proofs.Common.{refl, sym, ◌∙◌, ap, subst, inl, inr}
use Rattle.tough_keys.specs.Same.{Verifies}
use Rattle.tough_roles.specs.Signature.{SignedDoc}
use Rattle.tough_roles.specs.Root.{RootDoc}
use Rattle.tough_roles.specs.Timestamp.{TimestampDoc, MetafileDoc}
use Rattle.tough_roles.specs.declared.role_type.RoleType.TheVariants as role
use Rattle.tough_checks.specs.Documents.{root_in, timestamp_in, snapshot_in}
use Rattle.tough_roles.specs.Timestamp.{metafile_in}
use Rattle.tough_checks.specs.Files.{snapshot_file, targets_file}
use Rattle.tough_vault.specs.Act.{Act, AdvanceSnapshot}
use Rattle.tough_trust.specs.Failure.{Failure, ParseMetadata}
use Rattle.tough_trust.specs.Walk.{first_root, next_root}
use Rattle.tough_trust.specs.Outcomes.{holds_json}
use Rattle.tough_trust.specs.Requests.{RequestDoc, root_request, timestamp_request}
use Rattle.tough_trust.specs.Listed.{by_root, judged}
use Rattle.tough_update.specs.Delegated.{metas_in, is_reserved, if_found, grown_on, given, role_given, role_stored, with_received, role_holder, roles_begun, finished}
use Rattle.tough_update.specs.delegations.Growing.{first_name, wanted_name, Progress, wants, grown, go_on, begun}
use Rattle.tough_names.specs.Named.{Named}
use Rattle.tough_schema.specs.Whole.{TreeDoc, HeldDoc}
use Rattle.tough_schema.specs.Entries.{first_missing}
use Rattle.tough_trust.specs.delegations.Bare.{held_as}
use Rattle.tough_update.specs.growth.Once.{runs}
use Rattle.tough_update.specs.growth.Listed.{WantsListed}
use Rattle.tough_update.proofs.growth.Listed.{wanted-listed}
use Rattle.tough_update.proofs.growth.Laws.{runs-more}
use Rattle.tough_update.specs.Stages.{WalkDoc, BaseDoc, KnownDoc, WantedDoc, PendingDoc, ReceivedDoc, RolesDoc, LoadedDoc, StageDoc, CoreDoc}
use Rattle.tough_update.specs.Stages as at
use Rattle.tough_update.specs.Questions.{Question}
use Rattle.tough_update.specs.Questions as ask
use Rattle.tough_update.specs.Answered.{AnswerDoc}
use Rattle.tough_update.specs.Answered as got
use Rattle.tough_update.specs.Machine.{question, walked, walk_from, walk_ended, want_snapshot, known_of, want_targets, read_wanted, after, settled, stage_after}
use Rattle.tough_update.specs.Trusted.{Chain, starts, followed, IsHandedIn}
use Rattle.tough_update.specs.Runs.{run, EndsWalk, IsLast, IsFresh, WasTold, WasStored}
use Rattle.tough_update.specs.Asking.{HasTaken, MayBegin, AsksSnapshot, AsksTargets, AsksRole}
use Rattle.tough_update.proofs.Turning.{Fine, if-fine, and_then-fine, walking, ending, beginning, reading, keeps-answer}
use Rattle.tough_trust.proofs.lemmas.Walking.{first-passed, next-fine}
use Rattle.tough_update.proofs.Sound.{first-fine}
use Rattle.tough_update.proofs.Prefixes.{in_stage, longer, whole, whole-at}

pub first-read : (v : Verifies) (bytes : List ℕ) (root : SignedDoc RootDoc) → first_root v bytes ≡ Ok root → root_in bytes ≡ Some root
first-read v bytes root h = (first-passed v bytes root h).0

-- one answer later it was still answered
pub stored-more : (v : Verifies) (c : CoreDoc) (h : List AnswerDoc) (a : AnswerDoc) (r : SignedDoc RootDoc) → WasStored v c h r → WasStored v c (h ++ a ∷ []) r
stored-more v c h a r w = record { before = w.before; after = w.after ++ a ∷ []; all = longer h w.before w.after (got.Stored (Ok (Some r))) a w.all; first = w.first; asked = w.asked }

may-begin-more : (v : Verifies) (c : CoreDoc) (h : List AnswerDoc) (a : AnswerDoc) (r : SignedDoc RootDoc) → MayBegin v c h r → MayBegin v c (h ++ a ∷ []) r
may-begin-more v c h a r (inl i) = inl i
may-begin-more v c h a r (inr w) = inr (stored-more v c h a r w)

-- a chain that may begin with more roots
pub chain-more : (v : Verifies) (P Q : SignedDoc RootDoc → Type 0) → ((r : SignedDoc RootDoc) → P r → Q r) → (r : SignedDoc RootDoc) → Chain v P r → Chain v Q r
chain-more v P Q more s (starts r p) = starts r (more r p)
chain-more v P Q more t (followed r s c n) = followed r s (chain-more v P Q more r c) n

module _ (v : Verifies) (c : CoreDoc) where
  abbrev Walks : List AnswerDoc → WalkDoc → Type 0
  Walks h w = Chain v (MayBegin v c h) w.last

  -- this snapshot was accepted
  abbrev pub Accepted : List AnswerDoc → KnownDoc → Type 0
  Accepted h k = (version : ℕ) × HasTaken v c h (AdvanceSnapshot k.root.role version k.snapshot k.start c.setting.enforced)

  -- the tree grew so far
  abbrev pub Grew : KnownDoc → Progress → Type 0
  Grew k p = (top : HeldDoc) × (documents : List HeldDoc) × (runs (metas_in k) (begun (metas_in k) top) documents ≡ p)

  abbrev pub Tells : List AnswerDoc → StageDoc → Type 0
  Tells h (at.Fetch (at.Root w) r) = Walks h w × (r ≡ root_request c.setting.limits (w.last.role.head.version + 1))
  Tells h (at.Fetch (at.Timestamp b) r) = r ≡ timestamp_request c.setting.limits
  Tells h (at.Fetch (at.Snapshot b t listed) r) = AsksSnapshot v c h r
  Tells h (at.Fetch (at.Targets k listed) r) = Accepted h k × AsksTargets v c h r
  Tells h (at.Fetch (at.Role k roles listed) r) = Accepted h k × ((m : MetafileDoc) × Grew k (wants roles.work m)) × AsksRole v c h r
  Tells h (at.Step (at.NoteTime now)) = WasTold v c h now
  Tells h (at.ReadRoot w) = IsHandedIn v c.setting.trusted w.first × (w.last ≡ w.first)
  Tells h (at.Step (at.PutRoot w)) = Walks h w
  Tells h (at.Step (at.PutLast w)) = Walks h w × IsLast v c h w.last
  Tells h (at.Step (at.PutTargets k d)) = Accepted h k
  Tells h (at.Step (at.PutDelegated k roles name d)) = Accepted h k × ((m : MetafileDoc) × Grew k (wants roles.work m))
  Tells h _ = ⊤

  bad : (h : List AnswerDoc) (f : Failure) → Tells h (at.Done (Err f))
  bad h f = tt

  module _ (h : List AnswerDoc) (a : AnswerDoc) where
    abbrev next : List AnswerDoc
    next = h ++ a ∷ []

    -- it is this answer, and the machine stands so
    abbrev Heard : StageDoc → AnswerDoc → Type 0
    Heard st x = (x ≡ a) × (run v c h ≡ in_stage c st)

    told-more : (now : ℤ) → WasTold v c h now → WasTold v c next now
    told-more now w = record { before = w.before; after = w.after ++ a ∷ []; all = longer h w.before w.after (got.Moment now) a w.all; asked = w.asked }

    taken-more : (act : Act) → HasTaken v c h act → HasTaken v c next act
    taken-more act w = record { before = w.before; after = w.after ++ a ∷ []; all = longer h w.before w.after (got.Step (Ok (tt {0}))) a w.all; asked = w.asked }

    last-more : (r : SignedDoc RootDoc) → IsLast v c h r → IsLast v c next r
    last-more r (inl w) = inl (record { before = w.before; answer = w.answer; after = w.after ++ a ∷ []; all = longer h w.before w.after w.answer a w.all; asked = w.asked; ends = w.ends })
    last-more r (inr e) = inr e

    walks-more : (w : WalkDoc) → Walks h w → Walks next w
    walks-more w t = chain-more v (MayBegin v c h) (MayBegin v c next) (may-begin-more v c h a) w.last t

    snapshot-more : (r : RequestDoc) → AsksSnapshot v c h r → AsksSnapshot v c next r
    snapshot-more r w = record { root = w.root; timestamp = w.timestamp; start = w.start; accepted = taken-more _ w.accepted; entry = w.entry; listed = w.listed; is = w.is }

    targets-more : (r : RequestDoc) → AsksTargets v c h r → AsksTargets v c next r
    targets-more r w = record { root = w.root; version = w.version; snapshot = w.snapshot; start = w.start; accepted = taken-more _ w.accepted; entry = w.entry; listed = w.listed; is = w.is }

    role-more : (r : RequestDoc) → AsksRole v c h r → AsksRole v c next r
    role-more r w = record { root = w.root; version = w.version; snapshot = w.snapshot; start = w.start; accepted = taken-more _ w.accepted; name = w.name; entry = w.entry; listed = w.listed; is = w.is }

    accepted-more : (k : KnownDoc) → Accepted h k → Accepted next k
    accepted-more k w = (w.0, taken-more _ w.1)

    -- an answer that isn't waited for
    same-tells : (st : StageDoc) (x : AnswerDoc) → stage_after v c.setting st x ≡ Ok st → Tells h st → Heard st x → Tells next st
    same-tells at.Moment x e t l = tt
    same-tells (at.ReadRoot w) x e t l = t
    same-tells (at.Fetch (at.Root w) r) x e t l = (walks-more w t.0, t.1)
    same-tells (at.Fetch (at.Timestamp b) r) x e t l = t
    same-tells (at.Fetch (at.Snapshot b s n) r) x e t l = snapshot-more r t
    same-tells (at.Fetch (at.Targets k n) r) x e t l = (accepted-more k t.0, targets-more r t.1)
    same-tells (at.Fetch (at.Role k roles n) r) x e t l = (accepted-more k t.0, t.1, role-more r t.2)
    same-tells (at.Step (at.NoteTime now)) x e t l = told-more now t
    same-tells (at.Step (at.PutRoot w)) x e t l = walks-more w t
    same-tells (at.Step (at.PutLast w)) x e t l = (walks-more w t.0, last-more w.last t.1)
    same-tells (at.Step (at.PutTimestamp b s)) x e t l = tt
    same-tells (at.Step (at.PutSnapshot k n)) x e t l = tt
    same-tells (at.Step (at.PutTargets k d)) x e t l = accepted-more k t
    same-tells (at.Step (at.PutDelegated k roles name d)) x e t l = (accepted-more k t.0, t.1)
    same-tells (at.Done r) x e t l = tt
    same-tells at.Taken x e t l = tt

    abbrev Goes : Result StageDoc Failure → Type 0
    Goes = Fine (Tells next) (bad next)

    walked-tells : (w : WalkDoc) → Walks next w → Goes (walked c.setting.limits w)
    walked-tells w t = walking (Tells next) (bad next) c.setting.limits w (λ _ e. (t, inr e)) (λ _. (t, refl))

    -- this step succeeded
    took : (act : Act) → question (run v c h) ≡ ask.Step act → a ≡ got.Step (Ok (tt {0})) → HasTaken v c next act
    took act asked e = record { before = h; after = []; all = ap (λ x. h ++ x ∷ []) e; asked = asked }

    walk_ended-tells : (w : WalkDoc) → Goes (walk_ended c.setting.limits c.setting.enforced w)
    walk_ended-tells w = ending (Tells next) (bad next) c.setting.limits c.setting.enforced w (λ _. refl)

    -- the walk begins
    from-tells : (w : WalkDoc) (r : Option (SignedDoc RootDoc)) → Tells h (at.ReadRoot w) → Heard (at.ReadRoot w) (got.Stored (Ok r)) → Goes (walked c.setting.limits (walk_from w r))
    from-tells w None t l = walked-tells w (subst (Chain v (MayBegin v c next)) (sym t.1) (starts w.first (inl t.0)))
    from-tells w (Some r) t l =
        let stored : WasStored v c next r = record { before = h; after = []; all = ap (λ x. h ++ x ∷ []) (sym l.0); first = w.first.role.head.version; asked = ap question l.1 } in
        walked-tells (record { start = w.start; first = r; last = r }) (starts r (inr stored))

    want_snapshot-tells : (b : BaseDoc) (t : SignedDoc TimestampDoc) (o : Option MetafileDoc) → metafile_in t.role.meta snapshot_file ≡ o
        → a ≡ got.Step (Ok (tt {0})) → run v c h ≡ in_stage c (at.Step (at.PutTimestamp b t)) → Goes (want_snapshot c.setting.limits b t o)
    want_snapshot-tells b t None is e stands = tt
    want_snapshot-tells b t (Some m) is e stands = record { root = b.root.role; timestamp = t; start = b.start; accepted = took _ (ap question stands) e; entry = m; listed = is; is = refl }

    want_targets-tells : (k : KnownDoc) (n : ℕ) (o : Option MetafileDoc) → metafile_in k.snapshot.role.meta targets_file ≡ o
        → a ≡ got.Step (Ok (tt {0})) → run v c h ≡ in_stage c (at.Step (at.PutSnapshot k n)) → Goes (want_targets c.setting.limits k o)
    want_targets-tells k n None is e stands = tt
    want_targets-tells k n (Some m) is e stands =
        let accepted = took _ (ap question stands) e in
        ((n, accepted), record { root = k.root.role; version = n; snapshot = k.snapshot; start = k.start; accepted = accepted; entry = m; listed = is; is = refl })

    -- ---- delegated roles

    found-tells : (o : Option Named) (l : LoadedDoc) → Goes (if_found o l)
    found-tells None l = tt
    found-tells (Some name) l = tt

    grown-tells : (k : KnownDoc) (received : List ReceivedDoc) (p : Progress) → Accepted next k → Grew k p → Goes (grown_on c.setting.limits k received p)
    grown-tells k received (wants w m) t g =
        let l = subst (WantsListed (metas_in k)) g.2 (wanted-listed (metas_in k) g.0 g.1) in
        let there : metafile_in k.snapshot.role.meta (wanted_name w ++ codes ".json") ≡ Some m = ap (λ x. metafile_in k.snapshot.role.meta (first_name x ++ codes ".json")) l.first ∙ l.listed in
        (t, (m, g), record { root = k.root.role; version = t.0; snapshot = k.snapshot; start = k.start; accepted = t.1; name = wanted_name w; entry = m; listed = there; is = refl })
    grown-tells k received (grown t) a g = found-tells (first_missing t.role) (record { known = k; targets = t; received = received })

    given-tells : (k : KnownDoc) (roles : RolesDoc) (m : MetafileDoc) (d : SignedDoc TreeDoc) → Accepted next k → Grew k (wants roles.work m) → Goes (role_given c.setting.limits k roles d)
    given-tells k roles m d t g =
        let held = held_as (wanted_name roles.work) d in
        grown-tells k roles.received (go_on (metas_in k) (given roles.work d)) t (g.0, g.1 ++ held ∷ [], runs-more (metas_in k) g.1 (begun (metas_in k) g.0) roles.work m held g.2)

    read-tells : (w : WantedDoc) (r : RequestDoc) (bytes : List ℕ) → Tells h (at.Fetch w r) → Goes (read_wanted v c.setting w r bytes)
    read-tells (at.Root w) r bytes t = and_then-fine (Tells next) (bad next) (next_root v w.last.role bytes) (λ root. Ok (at.Step (at.PutRoot (record { start = w.start; first = w.first; last = root })))) (λ root is.
        followed w.last root (walks-more w t.0) (next-fine v w.last bytes root is))
    read-tells (at.Timestamp b) r bytes t = reading (Tells next) (bad next) (ParseMetadata role.Timestamp (holds_json bytes)) (timestamp_in bytes) (λ d. at.Step (at.PutTimestamp b d)) (λ d. tt)
    read-tells (at.Snapshot b s n) r bytes t = reading (Tells next) (bad next) (ParseMetadata role.Snapshot (holds_json bytes)) (snapshot_in bytes) (λ d. at.Step (at.PutSnapshot (known_of b s d) n)) (λ d. tt)
    read-tells (at.Targets k n) r bytes t = and_then-fine (Tells next) (bad next) (judged v c.setting.enforced k.start (by_root k.root.role) n bytes) (λ d. Ok (at.Step (at.PutTargets k d))) (λ d _. accepted-more k t.0)
    read-tells (at.Role k roles n) r bytes t =
        let kept = with_received roles bytes in
        and_then-fine (Tells next) (bad next) (judged v c.setting.enforced k.start (role_holder roles.work) n bytes) (role_stored c.setting.limits k kept r.name) (λ d _.
        if-fine (Tells next) (bad next) (is_reserved r.name) (role_given c.setting.limits k kept d) (Ok (at.Step (at.PutDelegated k kept r.name d))) (λ _. given-tells k kept t.1.0 d (accepted-more k t.0) t.1.1)
        (accepted-more k t.0, t.1))

    step-tells : (p : PendingDoc) → Tells h (at.Step p) → Heard (at.Step p) (got.Step (Ok (tt {0}))) → Goes (after v c.setting p)
    step-tells (at.NoteTime now) t l = beginning (Tells next) (bad next) v c.setting.trusted now (λ root is. (first-fine v c.setting.trusted root is, refl))
    step-tells (at.PutRoot w) t l = walked-tells w (walks-more w t)
    step-tells (at.PutLast w) t l = walk_ended-tells w
    step-tells (at.PutTimestamp b s) t l = want_snapshot-tells b s (metafile_in s.role.meta snapshot_file) refl (sym l.0) l.1
    step-tells (at.PutSnapshot k n) t l = want_targets-tells k n (metafile_in k.snapshot.role.meta targets_file) refl (sym l.0) l.1
    step-tells (at.PutTargets k d) t l =
        if-fine (Tells next) (bad next) c.setting.whole (roles_begun c.setting.limits k d) (finished k [] d) (λ _. grown-tells k [] (begun (metas_in k) (held_as [] d)) (accepted-more k t) (held_as [] d, [], refl))
        (found-tells (first_missing d.role) (record { known = k; targets = d; received = [] }))
    step-tells (at.PutDelegated k roles name d) t l = given-tells k roles t.1.0 d (accepted-more k t.0) t.1.1

    -- a root's fetch ended the walk
    ends-tells : (w : WalkDoc) (r : RequestDoc) (x : AnswerDoc) → EndsWalk x → Tells h (at.Fetch (at.Root w) r) → Heard (at.Fetch (at.Root w) r) x → Tells next (at.Step (at.PutLast w))
    ends-tells w r x e t l = (walks-more w t.0, inl (record { before = h; answer = x; after = []; all = ap (λ y. h ++ y ∷ []) (sym l.0); asked = ap question l.1 ∙ ap ask.Fetch t.1; ends = e }))

    moment-tells : (now : ℤ) → Heard at.Moment (got.Moment now) → WasTold v c next now
    moment-tells now l = record { before = h; after = []; all = ap (λ y. h ++ y ∷ []) (sym l.0); asked = ap question l.1 }

  turn : (h : List AnswerDoc) (st : StageDoc) (a : AnswerDoc) → run v c h ≡ in_stage c st → Tells h st → Tells (h ++ a ∷ []) (settled (stage_after v c.setting st a))
  turn h st a stands t = keeps-answer v c.setting (Tells h) (Tells (h ++ a ∷ [])) (bad (h ++ a ∷ [])) (Heard h a)
      (record { moment = λ now _ l. moment-tells h a now l; stored = from-tells h a; read = λ w r bytes t _. read-tells h a w r bytes t; ends = ends-tells h a; step = step-tells h a; same = λ st x _ e t l. same-tells h a st x e t l }) st a t (refl, stands)

  pub tells : IsFresh c → (answers : List AnswerDoc) → Tells answers (run v c answers).stage
  tells fresh answers = whole v c Tells turn answers (subst (Tells []) (sym fresh) tt)

  pub tells-at : IsFresh c → (answers : List AnswerDoc) (st : StageDoc) → run v c answers ≡ in_stage c st → Tells answers st
  tells-at fresh answers st stands = whole-at v c Tells turn answers st stands (subst (Tells []) (sym fresh) tt)
