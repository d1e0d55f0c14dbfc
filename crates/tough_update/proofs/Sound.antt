-- What holds of each stage, and that each answer keeps it.
use Rattle.std.specs.Prelude.{◌≡◌, ℕ, ℤ, ◌+◌, ◌-◌, ◌^◌, ◌≤◌, List, [], ◌∷◌, ◌++◌, length, codes, Option, Some, None, IfSome, Bool, true, false, IsTrue, ⊤, Ok, Err, nat_le}
use Rattle.std.proofs.Common.{◌≤ℤ◌, int_lt, refl, sym, ◌∙◌, ap, subst, inl, inr, arith}
use Rattle.jiff_core.proofs.SignedLemmas.{signed_arith}
use Rattle.std.proofs.lemmas.Bool.{leb-true}
use Rattle.tough_keys.specs.Same.{Verifies}
use Rattle.tough_roles.specs.Signature.{SignedDoc}
use Rattle.tough_roles.specs.Root.{RootDoc}
use Rattle.tough_roles.specs.Timestamp.{TimestampDoc, MetafileDoc, timestamp_json}
use Rattle.tough_roles.specs.Snapshot.{SnapshotDoc, snapshot_json}
use Rattle.tough_roles.specs.Verdict.{verdict}
use Rattle.tough_roles.specs.Chain.{text_by, ReachesUnder}
use Rattle.tough_roles.specs.declared.role_type.RoleType.TheVariants as role
use Rattle.tough_roles.proofs.lemmas.Reached.{ok-reaches}
use Rattle.tough_checks.specs.Checks.{expiry, is_expired, snapshot_first}
use Rattle.tough_checks.specs.Documents.{timestamp_in, snapshot_in, snapshot_verdict}
use Rattle.tough_roles.specs.Timestamp.{metafile_in}
use Rattle.tough_checks.specs.Files.{snapshot_file, targets_file}
use Rattle.tough_trust.specs.Failure.{Failure, ParseMetadata}
use Rattle.tough_trust.specs.Walk.{first_root, next_root}
use Rattle.tough_trust.specs.Outcomes.{holds_json, if_read}
use Rattle.tough_trust.specs.Requests.{RequestDoc, bound, stated_digests, fits_request, root_request}
use Rattle.tough_schema.specs.Targets.{TargetsDoc, targets_json}
use Rattle.tough_trust.specs.Listed.{targets_in, by_root, by_delegations, targets_verdict, judged}
use Rattle.tough_update.specs.Delegated.{metas_in, is_reserved, if_found, grown_on, roles_begun, given, role_given, role_stored, with_received, new_role, role_holder, finished}
use Rattle.tough_update.specs.delegations.Growing.{first_name, wanted_name, WorkDoc, Progress, wants, grown, first_of, holder_of, go_on, begun}
use Rattle.tough_names.specs.Named.{Named as ListedName}
use Rattle.tough_schema.specs.Delegations.{DelegationsDoc}
use Rattle.tough_schema.specs.Tree.{Entry}
use Rattle.tough_schema.specs.Verify.{delegated_policy}
use Rattle.tough_schema.specs.Whole.{TreeDoc, HeldDoc}
use Rattle.tough_schema.specs.Fresh.{carriers_below}
use Rattle.tough_schema.specs.Entries.{IsValid, first_missing}
use Rattle.tough_schema.proofs.lemmas.Valid.{valid-missing}
use Rattle.tough_trust.specs.delegations.Bare.{all_unloaded, roles_of, bare, top_page, held_as}
use Rattle.tough_update.specs.growth.Once.{AreBare, Distinct, runs}
use Rattle.tough_update.specs.growth.Under.{page_of, Relation, Under, Below, AllTaken}
use Rattle.tough_update.specs.growth.Listed.{WantsListed}
use Rattle.tough_trust.proofs.lemmas.Bare.{top-bare, bare-none}
use Rattle.tough_update.proofs.growth.Listed.{wanted-listed}
use Rattle.tough_update.proofs.growth.Under.{bare-more}
use Rattle.tough_update.proofs.growth.Laws.{grows-once, stands-under, runs-more, all-more}
use Rattle.tough_update.specs.Stages.{WalkDoc, BaseDoc, KnownDoc, WantedDoc, PendingDoc, ReceivedDoc, RolesDoc, StageDoc, SettingDoc}
use Rattle.tough_update.specs.Stages as at
use Rattle.tough_update.specs.Answered.{AnswerDoc}
use Rattle.tough_update.specs.Answered as got
use Rattle.tough_update.specs.Machine.{walked, began, walk_from, new_root, walk_ended, want_snapshot, known_of, want_targets, new_targets, read_wanted, after, stage_after, question_at}
use Rattle.tough_update.specs.Trusted.{Chain, starts, followed, IsHandedIn, Begins, Lists, IsVouched}
use Rattle.tough_update.specs.Runs.{Keeps, EndsWalk}
use Rattle.tough_net.specs.Digests.{has_digests}
use Rattle.tough_trust.proofs.lemmas.Passing.{size-stated, digests-stated, has-true, not-true, timestamp-passes, snapshot-passes, not-expired}
use Rattle.tough_trust.proofs.lemmas.Walking.{first-passed, next-fine}
use Rattle.tough_trust.proofs.lemmas.Judging.{judged-ok, delegated-at}
use Rattle.tough_update.proofs.Turning.{Fine, if-fine, and_then-fine, walking, ending, beginning, keeps-answer}

-- ---- documents that were read and verified

pub first-fine : (verifies : Verifies) (bytes : List ℕ) (root : SignedDoc RootDoc) → first_root verifies bytes ≡ Ok root → IsHandedIn verifies bytes root
first-fine verifies bytes root h =
    let r = first-passed verifies bytes root h in
    record { reading = r.0; signed = r.1 }

-- ---- delegations that vouch

vouched : (verifies : Verifies) (entries : List (List ℕ × MetafileDoc)) (g : Option DelegationsDoc) (name : List ℕ) (d : SignedDoc TargetsDoc) → targets_verdict verifies (by_delegations g name) d ≡ Ok tt
    → Lists targets_in entries (name ++ codes ".json") d.role.head.version d → IsVouched verifies entries g name d
unfolding verdict
vouched verifies entries None name d h l = cc
vouched verifies entries (Some g) name d h l = (delegated-at verifies g name d (delegated_policy g name) (text_by targets_json d.role) refl refl h, l)

first-entry : (waiting : List Entry) (U : List ℕ → Type 0) → U (first_name waiting) → IfSome (first_of waiting) (λ e. U e.name)
first-entry [] U h = tt
first-entry (e ∷ rest) U h = h

-- ---- a document none of whose roles has one

under-none : (U : Relation) (g : Option DelegationsDoc) (es : List Entry) → Under U g (all_unloaded es)
under-none U g [] = tt
under-none U g (e ∷ es) = under-none U g es

bare-below : (U : Relation) (d : SignedDoc TargetsDoc) → Below U (bare d).role
bare-below U d = under-none U _ (roles_of d.role.delegations)

-- ---- steps that succeeded

le_from_lt : (a b : ℤ) → int_lt a b ≡ false → b ≤ℤ a
le_from_lt a b h = omega (arith, signed_arith, h)

pub in-time : (enforced : Bool) (start expires : ℤ) → enforced ≡ true → is_expired enforced start expires ≡ false → start ≤ℤ expires
in-time true start expires e h = le_from_lt expires start h
in-time false start expires e h = cc

module _ (verifies : Verifies) (s : SettingDoc) (N : ℤ → Type 0) (G E : SignedDoc RootDoc → Type 0) where
  -- a chain from the root that was handed in, or from one that was given
  abbrev pub Chained : SignedDoc RootDoc → Type 0
  Chained = Chain verifies (Begins verifies s.trusted G)

  -- whether a moment is within an expiry, where that counts
  abbrev pub InTime : ℤ → ℤ → Type 0
  InTime start expires = is_expired s.enforced start expires ≡ false

  abbrev pub BaseFine : ℤ → SignedDoc RootDoc → Type 0
  BaseFine start root = N start × Chained root × E root × InTime start root.role.head.expires

  abbrev pub TimestampFine : ℤ → SignedDoc RootDoc → SignedDoc TimestampDoc → Type 0
  TimestampFine start root t = ReachesUnder verifies root.role role.Timestamp timestamp_json t × (length t.role.meta ≡ 1) × InTime start t.role.head.expires

  pub record KnownFine (k : KnownDoc) : Type 0 where
    pub root : BaseFine k.start k.root
    pub timestamp : TimestampFine k.start k.root k.timestamp
    pub snapshot : ReachesUnder verifies k.root.role role.Snapshot snapshot_json k.snapshot
    pub in_time : InTime k.start k.snapshot.role.head.expires
    pub named : Lists snapshot_in k.timestamp.role.meta snapshot_file k.snapshot.role.head.version k.snapshot

  -- the entry, of those listed, that a file is fetched by
  abbrev pub AskedBy : List (List ℕ × MetafileDoc) → List ℕ → ℕ → ℕ → RequestDoc → Type 0
  AskedBy entries name limit listed r = (m : MetafileDoc) × (metafile_in entries name ≡ Some m) × (listed ≡ m.version) × (r.max_size ≡ bound m.length limit) × (r.digests ≡ stated_digests m.hashes)

  abbrev pub TargetsFine : KnownDoc → SignedDoc TargetsDoc → Type 0
  TargetsFine k d = ReachesUnder verifies k.root.role role.Targets targets_json d × Lists targets_in k.snapshot.role.meta targets_file d.role.head.version d × InTime k.start d.role.head.expires

  -- what is known of a delegated document
  abbrev pub RoleFine : KnownDoc → Relation
  RoleFine k g name d = IsVouched verifies k.snapshot.role.meta g name d × InTime k.start d.role.head.expires

  -- the tree began with targets, and took documents, so far
  pub record GrowsTo (k : KnownDoc) (p : Progress) : Type 0 where
    pub top : SignedDoc TargetsDoc
    pub fine : TargetsFine k top
    pub documents : List HeldDoc
    pub read : AreBare documents
    pub taken : AllTaken (RoleFine k) (metas_in k) (begun (metas_in k) (held_as [] (bare top))) documents
    pub grows : runs (metas_in k) (begun (metas_in k) (held_as [] (bare top))) documents ≡ p

  -- the tree is complete
  pub record TreeFine (k : KnownDoc) (t : SignedDoc TreeDoc) : Type 0 where
    pub top : TargetsFine k (top_page t)
    pub below : Below (RoleFine k) t.role
    pub once : Distinct (carriers_below t.role)
    pub found : IsValid t.role

  abbrev pub HoldsWanted : WantedDoc → RequestDoc → Type 0
  HoldsWanted (at.Root w) r = N w.start × Chained w.last × (r ≡ root_request s.limits (w.last.role.head.version + 1))
  HoldsWanted (at.Timestamp b) r = BaseFine b.start b.root
  HoldsWanted (at.Snapshot b t listed) r = BaseFine b.start b.root × TimestampFine b.start b.root t × AskedBy t.role.meta snapshot_file s.limits.max_snapshot_size listed r
  HoldsWanted (at.Targets k listed) r = KnownFine k × AskedBy k.snapshot.role.meta targets_file s.limits.max_targets_size listed r
  HoldsWanted (at.Role k roles listed) r =
      KnownFine k × ((m : MetafileDoc) × GrowsTo k (wants roles.work m)) × AskedBy k.snapshot.role.meta (wanted_name roles.work ++ codes ".json") s.limits.max_targets_size listed r

  abbrev pub HoldsPending : PendingDoc → Type 0
  HoldsPending (at.NoteTime now) = ⊤
  HoldsPending (at.PutRoot w) = N w.start × Chained w.last
  HoldsPending (at.PutLast w) = N w.start × Chained w.last × E w.last
  HoldsPending (at.PutTimestamp b t) = BaseFine b.start b.root
  HoldsPending (at.PutSnapshot k listed) = BaseFine k.start k.root × TimestampFine k.start k.root k.timestamp × Lists snapshot_in k.timestamp.role.meta snapshot_file listed k.snapshot
  HoldsPending (at.PutTargets k d) = KnownFine k × ((top : SignedDoc TargetsDoc) × (d ≡ bare top) × TargetsFine k top)
  HoldsPending (at.PutDelegated k roles name d) =
      KnownFine k × ((m : MetafileDoc) × GrowsTo k (wants roles.work m)) × ((page : SignedDoc TargetsDoc) × (d ≡ bare page) × RoleFine k (holder_of roles.work) (wanted_name roles.work) page)

  abbrev pub Holds : StageDoc → Type 0
  Holds (at.ReadRoot w) = N w.start × IsHandedIn verifies s.trusted w.first × (w.last ≡ w.first)
  Holds (at.Fetch w r) = HoldsWanted w r
  Holds (at.Step p) = HoldsPending p
  Holds (at.Done (Ok l)) = KnownFine l.known × TreeFine l.known l.targets
  Holds _ = ⊤

  -- what the history says of an answer
  abbrev pub Told : StageDoc → AnswerDoc → Type 0
  Told (at.Fetch (at.Root w) r) a = r ≡ root_request s.limits (w.last.role.head.version + 1) → EndsWalk a → E w.last
  Told (at.Step (at.NoteTime now)) a = a ≡ got.Step (Ok (tt {0})) → N now
  Told (at.ReadRoot w) a = (r : SignedDoc RootDoc) → a ≡ got.Stored (Ok (Some r)) → G r
  Told _ a = ⊤

  abbrev pub Heard : StageDoc → AnswerDoc → Type 0
  Heard stage a = Keeps verifies (question_at s.enforced stage) a × Told stage a

  pub bad : (f : Failure) → Holds (at.Done (Err f))
  bad f = tt

  module _ (at_end : (r : SignedDoc RootDoc) → r.role.head.version ≡ 2 ^ 64 - 1 → E r) where
    walked-fine : (w : WalkDoc) → N w.start → Chained w.last → Fine Holds bad (walked s.limits w)
    walked-fine w n c = walking Holds bad s.limits w (λ _ e. (n, c, at_end w.last e)) (λ _. (n, c, refl))

    began-fine : (start : ℤ) → N start → Fine Holds bad (began verifies s.trusted start)
    began-fine start n = beginning Holds bad verifies s.trusted start (λ root is. (n, first-fine verifies s.trusted root is, refl))

    -- the walk begins
    from-fine : (w : WalkDoc) (r : Option (SignedDoc RootDoc)) → Holds (at.ReadRoot w) → Heard (at.ReadRoot w) (got.Stored (Ok r)) → Fine Holds bad (walked s.limits (walk_from w r))
    from-fine w None h l = walked-fine w h.0 (subst Chained (sym h.2) (starts w.first (inl h.1)))
    from-fine w (Some r) h l = walked-fine (record { start = w.start; first = r; last = r }) h.0 (starts r (inr (l.1 r refl, l.0.1)))

    new_root-fine : (w : WalkDoc) (bytes : List ℕ) → N w.start → Chained w.last → Fine Holds bad (new_root verifies w bytes)
    new_root-fine w bytes n c = and_then-fine Holds bad (next_root verifies w.last.role bytes) (λ root. Ok (at.Step (at.PutRoot (record { start = w.start; first = w.first; last = root })))) (λ root is.
        (n, followed w.last root c (next-fine verifies w.last bytes root is)))

    walk_ended-fine : (w : WalkDoc) → N w.start → Chained w.last → E w.last → Fine Holds bad (walk_ended s.limits s.enforced w)
    walk_ended-fine w n c e = ending Holds bad s.limits s.enforced w (λ t. (n, c, e, not-true _ t))

    new_timestamp-fine : (b : BaseDoc) (bytes : List ℕ) (o : Option (SignedDoc TimestampDoc)) → BaseFine b.start b.root → Fine Holds bad (if_read (ParseMetadata role.Timestamp (holds_json bytes)) o (λ t. Ok (at.Step (at.PutTimestamp b t))))
    new_timestamp-fine b bytes None h = tt
    new_timestamp-fine b bytes (Some t) h = h

    want_snapshot-fine : (b : BaseDoc) (t : SignedDoc TimestampDoc) (o : Option MetafileDoc) → metafile_in t.role.meta snapshot_file ≡ o
        → BaseFine b.start b.root → TimestampFine b.start b.root t → Fine Holds bad (want_snapshot s.limits b t o)
    want_snapshot-fine b t None is h k = tt
    want_snapshot-fine b t (Some m) is h k = (h, k, (m, is, refl, refl, refl))

    -- a document that was read from bytes that fit is what the entry names
    named-by : {D : Type 0} (reads : List ℕ → Option D) (entries : List (List ℕ × MetafileDoc)) (name : List ℕ) (limit listed : ℕ) (r : RequestDoc) (bytes : List ℕ) (d : D)
        → reads bytes ≡ Some d → IsTrue (fits_request r bytes) → AskedBy entries name limit listed r → Lists reads entries name listed d
    named-by reads entries name limit listed r bytes d is fit a =
        let both : IsTrue (nat_le (length bytes) r.max_size) × IsTrue (has_digests r.digests bytes) = has-true _ _ fit in (
          a.0,
          a.1,
          record {
            bytes = bytes;
            reading = is;
            digests = digests-stated (stated_digests a.0.hashes) bytes (subst (λ o. IsTrue (has_digests o bytes)) a.4 both.1);
            size = size-stated a.0.length limit (length bytes) (subst (λ n. length bytes ≤ n) a.3 (leb-true _ _ both.0));
            listed = a.2;
          },
        )

    new_snapshot-fine : (b : BaseDoc) (t : SignedDoc TimestampDoc) (listed : ℕ) (r : RequestDoc) (bytes : List ℕ) (o : Option (SignedDoc SnapshotDoc)) → snapshot_in bytes ≡ o
        → IsTrue (fits_request r bytes) → HoldsWanted (at.Snapshot b t listed) r → Fine Holds bad (if_read (ParseMetadata role.Snapshot (holds_json bytes)) o (λ d. Ok (at.Step (at.PutSnapshot (known_of b t d) listed))))
    new_snapshot-fine b t listed r bytes None is fit h = tt
    new_snapshot-fine b t listed r bytes (Some d) is fit h = (h.0, h.1, named-by snapshot_in t.role.meta snapshot_file s.limits.max_snapshot_size listed r bytes d is fit h.2)

    -- the snapshot was accepted
    known-fine : (k : KnownDoc) (listed : ℕ) → HoldsPending (at.PutSnapshot k listed)
        → (snapshot_first listed (snapshot_verdict verifies k.root.role k.snapshot) k.snapshot.role ≡ None) × (expiry role.Snapshot s.enforced k.start k.snapshot.role.head.expires ≡ None) → KnownFine k
    known-fine k listed h p =
        let passed = snapshot-passes verifies k.root.role listed k.snapshot p.0 in
        record {
          root = h.0;
          timestamp = h.1;
          snapshot = passed.0;
          in_time = not-expired role.Snapshot s.enforced k.start k.snapshot.role.head.expires p.1;
          named = subst (λ n. Lists snapshot_in k.timestamp.role.meta snapshot_file n k.snapshot) (sym passed.1) h.2;
        }

    want_targets-fine : (k : KnownDoc) (o : Option MetafileDoc) → metafile_in k.snapshot.role.meta targets_file ≡ o → KnownFine k → Fine Holds bad (want_targets s.limits k o)
    want_targets-fine k None is h = tt
    want_targets-fine k (Some m) is h = (h, (m, is, refl, refl, refl))

    new_targets-fine : (k : KnownDoc) (listed : ℕ) (r : RequestDoc) (bytes : List ℕ) → IsTrue (fits_request r bytes) → HoldsWanted (at.Targets k listed) r
        → Fine Holds bad (new_targets verifies s.enforced k listed bytes)
    new_targets-fine k listed r bytes fit h = and_then-fine Holds bad (judged verifies s.enforced k.start (by_root k.root.role) listed bytes) (λ d. Ok (at.Step (at.PutTargets k d))) (λ d is.
        let p = judged-ok verifies s.enforced k.start (by_root k.root.role) listed bytes d is in
        let named = named-by targets_in k.snapshot.role.meta targets_file s.limits.max_targets_size listed r bytes p.page p.reading fit h.1 in
        (h.0, (p.page, p.is, (ok-reaches verifies k.root.role role.Targets targets_json p.page (Ok (tt {0})) p.verified, subst (λ n. Lists targets_in k.snapshot.role.meta targets_file n p.page) (sym p.version) named, p.in_time))))

    -- ---- delegated roles

    -- a tree that is complete, where each name is found
    tree-fine : (k : KnownDoc) (t : SignedDoc TreeDoc) → GrowsTo k (grown t) → first_missing t.role ≡ None → TreeFine k t
    tree-fine k t g none =
        let metas = metas_in k in
        let top = held_as [] (bare g.top) in
        let stands = stands-under (RoleFine k) metas top g.documents t (bare-none g.top) g.taken g.grows in
        record {
          top = subst (TargetsFine k) (sym (stands.1 ∙ top-bare g.top)) g.fine;
          below = stands.0;
          once = grows-once metas top g.documents t (bare-none g.top) g.read g.grows;
          found = (valid-missing t.role).1 none;
        }

    found-fine : (k : KnownDoc) (received : List ReceivedDoc) (t : SignedDoc TreeDoc) (o : Option ListedName) → first_missing t.role ≡ o → KnownFine k → GrowsTo k (grown t)
        → Fine Holds bad (if_found o (record { known = k; targets = t; received = received }))
    found-fine k received t None is h g = (h, tree-fine k t g is)
    found-fine k received t (Some name) is h g = tt

    grown-fine : (k : KnownDoc) (received : List ReceivedDoc) (p : Progress) → KnownFine k → GrowsTo k p → Fine Holds bad (grown_on s.limits k received p)
    grown-fine k received (wants w m) h g =
        let l = subst (WantsListed (metas_in k)) g.grows (wanted-listed (metas_in k) (held_as [] (bare g.top)) g.documents) in
        let there : metafile_in k.snapshot.role.meta (wanted_name w ++ codes ".json") ≡ Some m = ap (λ x. metafile_in k.snapshot.role.meta (first_name x ++ codes ".json")) l.first ∙ l.listed in
        (h, (m, g), (m, there, refl, refl, refl))
    grown-fine k received (grown t) h g = found-fine k received t (first_missing t.role) refl h g

    begun-fine : (k : KnownDoc) (d : SignedDoc TreeDoc) → HoldsPending (at.PutTargets k d) → Fine Holds bad (roles_begun s.limits k d)
    begun-fine k d h = subst (λ x. Fine Holds bad (roles_begun s.limits k x)) (sym h.1.1)
        (grown-fine k [] (begun (metas_in k) (held_as [] (bare h.1.0))) h.0 (record { top = h.1.0; fine = h.1.2; documents = []; read = tt; taken = tt; grows = refl }))

    -- the targets are all
    bare-found : (k : KnownDoc) (top : SignedDoc TargetsDoc) (o : Option ListedName) → first_missing (bare top).role ≡ o → KnownFine k → TargetsFine k top → Fine Holds bad (if_found o (record { known = k; targets = bare top; received = [] }))
    bare-found k top None is h u = (h, record { top = subst (TargetsFine k) (sym (top-bare top)) u; below = bare-below (RoleFine k) top; once = subst Distinct (sym (bare-none top)) tt; found = (valid-missing (bare top).role).1 is })
    bare-found k top (Some name) is h u = tt

    top-fine : (k : KnownDoc) (d : SignedDoc TreeDoc) → HoldsPending (at.PutTargets k d) → Fine Holds bad (finished k [] d)
    top-fine k d h = subst (λ x. Fine Holds bad (finished k [] x)) (sym h.1.1) (bare-found k h.1.0 (first_missing (bare h.1.0).role) refl h.0 h.1.2)

    -- one document more
    grows-on : (k : KnownDoc) (w : WorkDoc) (m : MetafileDoc) (page : SignedDoc TargetsDoc) → GrowsTo k (wants w m) → RoleFine k (holder_of w) (wanted_name w) page → GrowsTo k (go_on (metas_in k) (given w (bare page)))
    grows-on k w m page g u =
        let held = held_as (wanted_name w) (bare page) in
        let first = begun (metas_in k) (held_as [] (bare g.top)) in
        let fine : IfSome (first_of w.waiting) (λ e. RoleFine k (holder_of w) e.name (page_of held)) =
        first-entry w.waiting (λ n. RoleFine k (holder_of w) n (page_of held)) (subst (λ d. RoleFine k (holder_of w) (wanted_name w) d) (sym (top-bare page)) u) in
        record {
          top = g.top;
          fine = g.fine;
          documents = g.documents ++ held ∷ [];
          read = bare-more g.documents held g.read (bare-none page);
          taken = all-more (RoleFine k) (metas_in k) g.documents first w m held g.grows g.taken (bare-none page) fine;
          grows = runs-more (metas_in k) g.documents first w m held g.grows;
        }

    given-fine : (k : KnownDoc) (roles : RolesDoc) (m : MetafileDoc) (d : SignedDoc TreeDoc) (page : SignedDoc TargetsDoc) → d ≡ bare page → KnownFine k → GrowsTo k (wants roles.work m)
        → RoleFine k (holder_of roles.work) (wanted_name roles.work) page → Fine Holds bad (role_given s.limits k roles d)
    given-fine k roles m d page is h g u = subst (λ x. Fine Holds bad (role_given s.limits k roles x)) (sym is) (grown-fine k roles.received (go_on (metas_in k) (given roles.work (bare page))) h (grows-on k roles.work m page g u))

    new_role-fine : (k : KnownDoc) (roles : RolesDoc) (listed : ℕ) (r : RequestDoc) (bytes : List ℕ) → IsTrue (fits_request r bytes) → HoldsWanted (at.Role k roles listed) r
        → Fine Holds bad (new_role verifies s k roles listed r.name bytes)
    new_role-fine k roles listed r bytes fit h =
        let kept = with_received roles bytes in
        and_then-fine Holds bad (judged verifies s.enforced k.start (role_holder roles.work) listed bytes) (role_stored s.limits k kept r.name) (λ d is.
        let name = wanted_name roles.work in
        let p = judged-ok verifies s.enforced k.start (role_holder roles.work) listed bytes d is in
        let named = named-by targets_in k.snapshot.role.meta (name ++ codes ".json") s.limits.max_targets_size listed r bytes p.page p.reading fit h.2 in
        let fine : RoleFine k (holder_of roles.work) name p.page =
        (vouched verifies k.snapshot.role.meta (holder_of roles.work) name p.page p.verified (subst (λ n. Lists targets_in k.snapshot.role.meta (name ++ codes ".json") n p.page) (sym p.version) named), p.in_time) in
        if-fine Holds bad (is_reserved r.name) (role_given s.limits k kept d) (Ok (at.Step (at.PutDelegated k kept r.name d))) (λ _. given-fine k kept h.1.0 d p.page p.is h.0 h.1.1 fine)
        (h.0, h.1, (p.page, p.is, fine)))

    read-fine : (w : WantedDoc) (r : RequestDoc) (bytes : List ℕ) → Holds (at.Fetch w r) → Heard (at.Fetch w r) (got.Bytes bytes) → Fine Holds bad (read_wanted verifies s w r bytes)
    read-fine (at.Root w) r bytes h l = new_root-fine w bytes h.0 h.1
    read-fine (at.Timestamp b) r bytes h l = new_timestamp-fine b bytes (timestamp_in bytes) h
    read-fine (at.Snapshot b t listed) r bytes h l = new_snapshot-fine b t listed r bytes (snapshot_in bytes) refl l.0 h
    read-fine (at.Targets k listed) r bytes h l = new_targets-fine k listed r bytes l.0 h
    read-fine (at.Role k roles listed) r bytes h l = new_role-fine k roles listed r bytes l.0 h

    step-fine : (p : PendingDoc) → Holds (at.Step p) → Heard (at.Step p) (got.Step (Ok (tt {0}))) → Fine Holds bad (after verifies s p)
    step-fine (at.NoteTime now) h l = began-fine now (l.1 refl)
    step-fine (at.PutRoot w) h l = walked-fine w h.0 h.1
    step-fine (at.PutLast w) h l = walk_ended-fine w h.0 h.1 h.2
    step-fine (at.PutTimestamp b t) h l =
        let p = timestamp-passes verifies b.root.role t l.0.0 in
        want_snapshot-fine b t (metafile_in t.role.meta snapshot_file) refl h (p.0, p.1, not-expired role.Timestamp s.enforced b.start t.role.head.expires l.0.1)
    step-fine (at.PutSnapshot k listed) h l = want_targets-fine k (metafile_in k.snapshot.role.meta targets_file) refl (known-fine k listed h l.0)
    step-fine (at.PutTargets k d) h l = if-fine Holds bad s.whole (roles_begun s.limits k d) (finished k [] d) (λ _. begun-fine k d h) (top-fine k d h)
    step-fine (at.PutDelegated k roles name d) h l = given-fine k roles h.1.0 d h.2.0 h.2.1 h.0 h.1.1 h.2.2

    -- each answer keeps what holds of a stage
    pub answer-fine : (stage : StageDoc) (a : AnswerDoc) → Holds stage → Heard stage a → Fine Holds bad (stage_after verifies s stage a)
    answer-fine = keeps-answer verifies s Holds Holds bad Heard (record { moment = λ now h l. tt; stored = from-fine; read = read-fine; ends = λ w r a e h l. (h.0, h.1, l.1 h.2 e); step = step-fine; same = λ stage a _ e h l. h })
