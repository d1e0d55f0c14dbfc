-- How many files are asked for.
use Rattle.std.specs.Prelude.{◌≡◌, ◌≤◌, ◌<◌, ◌⊎◌, ℕ, zero, suc, ◌+◌, ◌-◌, List, [], ◌∷◌, ◌++◌, length, Option, Some, None, false, IsTrue, Result, Ok, Err, nat_lt}
use Rattle.std.proofs.Common.{refl, sym, ◌∙◌, ap, subst, inl, inr, arith}
use Rattle.std.proofs.lemmas.Bool.{ltb-true}
use Rattle.std.proofs.lemmas.List.{append-nil, append_assoc, length-append}
use Rattle.tough_keys.specs.Same.{Verifies}
use Rattle.tough_roles.specs.Root.{RootDoc}
use Rattle.tough_roles.specs.Signature.{SignedDoc}
use Rattle.tough_roles.specs.Timestamp.{TimestampDoc, MetafileDoc}
use Rattle.tough_roles.specs.declared.role_type.RoleType.TheVariants as role
use Rattle.tough_checks.specs.Documents.{root_in, timestamp_in, snapshot_in}
use Rattle.tough_roles.specs.Timestamp.{metafile_in}
use Rattle.tough_checks.specs.Files.{snapshot_file, targets_file}
use Rattle.tough_net.specs.declared.limits.Limits.{Limits}
use Rattle.tough_trust.specs.Failure.{Failure, ParseMetadata}
use Rattle.tough_trust.specs.Walk.{next_root}
use Rattle.tough_trust.specs.Outcomes.{holds_json}
use Rattle.tough_trust.specs.Requests.{RequestDoc, root_request}
use Rattle.tough_trust.specs.Listed.{by_root, judged}
use Rattle.tough_update.specs.Delegated.{metas_in, is_reserved, if_found, grown_on, given, role_given, role_stored, with_received, role_holder, roles_begun, finished}
use Rattle.tough_update.specs.delegations.Growing.{wanted_name, Progress, wants, grown, go_on, begun}
use Rattle.tough_names.specs.Named.{Named}
use Rattle.tough_schema.specs.Whole.{TreeDoc}
use Rattle.tough_schema.specs.Entries.{first_missing}
use Rattle.tough_trust.specs.delegations.Bare.{held_as}
use Rattle.std.specs.List.{AllByRecursion}
use Rattle.tough_update.specs.Stages.{WalkDoc, BaseDoc, KnownDoc, WantedDoc, PendingDoc, ReceivedDoc, RolesDoc, LoadedDoc, StageDoc, CoreDoc}
use Rattle.tough_update.specs.Stages as at
use Rattle.tough_update.specs.Questions as ask
use Rattle.tough_update.specs.Answered.{AnswerDoc}
use Rattle.tough_update.specs.Answered as got
use Rattle.tough_update.specs.Machine.{question, answered, walked, walk_from, walk_ended, want_snapshot, known_of, want_targets, read_wanted, after, settled, stage_after}
use Rattle.tough_update.specs.Runs.{run, IsFresh, WasStored}
use Rattle.tough_update.specs.Asking.{fetched, requests, roots_after, first_version, IsOfRole, BeginsAt, AsksFew}
use Rattle.tough_update.proofs.Turning.{Fine, if-fine, and_then-fine, walking, ending, beginning, reading, waits, keeps-answer}
use Rattle.tough_trust.proofs.lemmas.Walking.{next-fine}
use Rattle.tough_update.proofs.Prefixes.{in_stage, whole}
use Rattle.tough_update.proofs.History.{first-read, stored-more}

-- ---- lists of requests

all-last : (P : RequestDoc → Type 0) (rs : List RequestDoc) (r : RequestDoc) → AllByRecursion P rs → P r → AllByRecursion P (rs ++ r ∷ [])
all-last P [] r h p = (p, tt)
all-last P (x ∷ rs) r h p = (h.0, all-last P rs r h.1 p)

requests-last : (v : Verifies) (h : List AnswerDoc) (c : CoreDoc) (a : AnswerDoc) → requests v c (h ++ a ∷ []) ≡ requests v c h ++ fetched (question (run v c h)) a
requests-last v [] c a = append-nil (fetched (question c) a)
requests-last v (x ∷ h) c a =
    ap (λ t. fetched (question c) x ++ t) (requests-last v h (answered v c x) a)
    ∙ sym (append_assoc (fetched (question c) x) (requests v (answered v c x) h) (fetched (question (run v (answered v c x) h)) a))

-- one root more
roots-last : (l : Limits) (version n : ℕ) → roots_after l version (suc n) ≡ roots_after l version n ++ root_request l (version + n + 1) ∷ []
roots-last l version zero = let e : version + 1 ≡ version + 0 + 1 = omega arith in ap (λ m. root_request l m ∷ []) e
roots-last l version (suc n) =
    let e : version + 1 + n + 1 ≡ version + suc n + 1 = omega arith in
    ap (λ t. root_request l (version + 1) ∷ t) (roots-last l (version + 1) n ∙ ap (λ m. roots_after l (version + 1) n ++ root_request l m ∷ []) e)

fetched-one : (r : RequestDoc) (a : AnswerDoc) → (fetched (ask.Fetch r) a ≡ []) ⊎ (fetched (ask.Fetch r) a ≡ r ∷ [])
fetched-one r (got.Bytes bytes) = inr refl
fetched-one r (got.NotStarted f) = inr refl
fetched-one r (got.Cut f) = inr refl
fetched-one r (got.Moment now) = inl refl
fetched-one r (got.Stored x) = inl refl
fetched-one r (got.Step s) = inl refl

unwaited : (w : WantedDoc) (r : RequestDoc) (a : AnswerDoc) → waits (at.Fetch w r) a ≡ false → fetched (ask.Fetch r) a ≡ []
unwaited w r (got.Bytes bytes) e = cc
unwaited w r (got.NotStarted f) e = cc
unwaited w r (got.Cut f) e = cc
unwaited w r (got.Moment now) e = refl
unwaited w r (got.Stored x) e = refl
unwaited w r (got.Step s) e = refl

below : (first n last max : ℕ) → last ≡ first + n → IsTrue (nat_lt (last - first) max) → n < max
below first n last max e h = let k : last - first < max = ltb-true _ _ h in omega (arith, e, k)

-- what may begin a walk may begin it after one answer more
begins-more : (v : Verifies) (c : CoreDoc) (h : List AnswerDoc) (a : AnswerDoc) (version : ℕ) → BeginsAt v c h version → BeginsAt v c (h ++ a ∷ []) version
begins-more v c h a version (inl e) = inl e
begins-more v c h a version (inr (r, w, e)) = inr (r, stored-more v c h a r w, e)

module _ (v : Verifies) (c : CoreDoc) where
  -- the version of the root that was handed in
  abbrev start : ℕ
  start = first_version (root_in c.setting.trusted)

  -- at most as many roots as the limit allows, and then at most so many others
  pub record Few (h : List AnswerDoc) (k : ℕ) : Type 0 where
    pub first : ℕ
    pub begins : BeginsAt v c h first
    pub roots : ℕ
    pub few : roots ≤ c.setting.limits.max_root_updates
    pub others : List RequestDoc
    pub all : requests v c h ≡ roots_after c.setting.limits first roots ++ others
    pub size : length others ≤ k

  -- at most as many roots as the limit allows, then at most three others, and then documents of delegated roles
  pub record Many (h : List AnswerDoc) : Type 0 where
    pub first : ℕ
    pub begins : BeginsAt v c h first
    pub roots : ℕ
    pub few : roots ≤ c.setting.limits.max_root_updates
    pub others : List RequestDoc
    pub roles : List RequestDoc
    pub all : requests v c h ≡ roots_after c.setting.limits first roots ++ (others ++ roles)
    pub three : length others ≤ 3
    pub delegated : AllByRecursion (IsOfRole c.setting.limits) roles

  -- the walk has gone over n roots
  pub record Over (h : List AnswerDoc) (w : WalkDoc) (n : ℕ) : Type 0 where
    pub begins : BeginsAt v c h w.first.role.head.version
    pub last : w.last.role.head.version ≡ w.first.role.head.version + n
    pub all : requests v c h ≡ roots_after c.setting.limits w.first.role.head.version n

  abbrev Counts : List AnswerDoc → StageDoc → Type 0
  Counts h at.Moment = requests v c h ≡ []
  Counts h (at.ReadRoot w) = (requests v c h ≡ []) × (w.first.role.head.version ≡ start) × (w.last.role.head.version ≡ w.first.role.head.version)
  Counts h (at.Step (at.NoteTime now)) = requests v c h ≡ []
  Counts h (at.Fetch (at.Root w) r) = (n : ℕ) × Over h w n × (n < c.setting.limits.max_root_updates) × (r ≡ root_request c.setting.limits (w.last.role.head.version + 1))
  Counts h (at.Step (at.PutRoot w)) = (n : ℕ) × Over h w n × (n ≤ c.setting.limits.max_root_updates)
  Counts h (at.Step (at.PutLast w)) = Few h 0
  Counts h (at.Fetch (at.Timestamp b) r) = Few h 0
  Counts h (at.Step (at.PutTimestamp b t)) = Few h 1
  Counts h (at.Fetch (at.Snapshot b t m) r) = Few h 1
  Counts h (at.Step (at.PutSnapshot k m)) = Few h 2
  Counts h (at.Fetch (at.Targets k m) r) = Few h 2
  Counts h (at.Step (at.PutTargets k d)) = Few h 3
  Counts h (at.Fetch (at.Role k roles m) r) = Many h × IsOfRole c.setting.limits r
  Counts h (at.Step (at.PutDelegated k roles name d)) = Many h
  Counts h (at.Done r) = Many h
  Counts h at.Taken = Many h

  many : (h : List AnswerDoc) (k : ℕ) → k ≤ 3 → Few h k → Many h
  many h k le f = record {
    first = f.first;
    begins = f.begins;
    roots = f.roots;
    few = f.few;
    others = f.others;
    roles = [];
    all = f.all ∙ ap (λ t. roots_after c.setting.limits f.first f.roots ++ t) (sym (append-nil f.others));
    three = omega (arith, le, f.size);
    delegated = tt;
  }

  few-up : (h : List AnswerDoc) (j k : ℕ) → j ≤ k → Few h j → Few h k
  few-up h j k le f = record { first = f.first; begins = f.begins; roots = f.roots; few = f.few; others = f.others; all = f.all; size = omega (arith, le, f.size) }

  few-none : (h : List AnswerDoc) → requests v c h ≡ [] → Few h 0
  few-none h e = record { first = start; begins = inl refl; roots = 0; few = omega arith; others = []; all = e; size = omega arith }

  few-roots : (h : List AnswerDoc) (first n : ℕ) → BeginsAt v c h first → n ≤ c.setting.limits.max_root_updates → requests v c h ≡ roots_after c.setting.limits first n → Few h 0
  few-roots h first n b le e = record { first = first; begins = b; roots = n; few = le; others = []; all = e ∙ sym (append-nil (roots_after c.setting.limits first n)); size = omega arith }

  -- at a root that is to be stored
  few-over : (h : List AnswerDoc) (w : WalkDoc) (n : ℕ) → Over h w n → n ≤ c.setting.limits.max_root_updates → Few h 0
  few-over h w n o le = few-roots h w.first.role.head.version n o.begins le o.all

  module _ (h : List AnswerDoc) (a : AnswerDoc) where
    abbrev next : List AnswerDoc
    next = h ++ a ∷ []

    asked : (st : StageDoc) → run v c h ≡ in_stage c st → requests v c next ≡ requests v c h ++ fetched (question (in_stage c st)) a
    asked st stands = requests-last v h c a ∙ ap (λ d. requests v c h ++ fetched (question d) a) stands

    -- nothing was fetched
    asked-none : (st : StageDoc) → run v c h ≡ in_stage c st → fetched (question (in_stage c st)) a ≡ [] → requests v c next ≡ requests v c h
    asked-none st stands e = asked st stands ∙ (ap (λ t. requests v c h ++ t) e ∙ append-nil (requests v c h))

    asked-one : (st : StageDoc) (r : RequestDoc) → run v c h ≡ in_stage c st → fetched (question (in_stage c st)) a ≡ r ∷ [] → requests v c next ≡ requests v c h ++ r ∷ []
    asked-one st r stands e = asked st stands ∙ ap (λ t. requests v c h ++ t) e

    few-same : (k : ℕ) → requests v c next ≡ requests v c h → Few h k → Few next k
    few-same k e f = record { first = f.first; begins = begins-more v c h a f.first f.begins; roots = f.roots; few = f.few; others = f.others; all = e ∙ f.all; size = f.size }

    few-more : (k : ℕ) (r : RequestDoc) → requests v c next ≡ requests v c h ++ r ∷ [] → Few h k → Few next (k + 1)
    few-more k r e f = record {
      first = f.first;
      begins = begins-more v c h a f.first f.begins;
      roots = f.roots;
      few = f.few;
      others = f.others ++ r ∷ [];
      all = e ∙ (ap (λ t. t ++ r ∷ []) f.all ∙ append_assoc (roots_after c.setting.limits f.first f.roots) f.others (r ∷ []));
      size = omega (arith, f.size, length-append f.others (r ∷ []));
    }

    many-same : requests v c next ≡ requests v c h → Many h → Many next
    many-same e f = record {
      first = f.first;
      begins = begins-more v c h a f.first f.begins;
      roots = f.roots;
      few = f.few;
      others = f.others;
      roles = f.roles;
      all = e ∙ f.all;
      three = f.three;
      delegated = f.delegated;
    }

    many-more : (r : RequestDoc) → IsOfRole c.setting.limits r → requests v c next ≡ requests v c h ++ r ∷ [] → Many h → Many next
    many-more r is e f =
        let roots = roots_after c.setting.limits f.first f.roots in
        record {
          first = f.first;
          begins = begins-more v c h a f.first f.begins;
          roots = f.roots;
          few = f.few;
          others = f.others;
          roles = f.roles ++ r ∷ [];
          all = e ∙ (ap (λ t. t ++ r ∷ []) f.all ∙ (append_assoc roots (f.others ++ f.roles) (r ∷ []) ∙ ap (λ t. roots ++ t) (append_assoc f.others f.roles (r ∷ []))));
          three = f.three;
          delegated = all-last (IsOfRole c.setting.limits) f.roles r f.delegated is;
        }

    -- at a delegated document's fetch
    many-fetched : (w : WantedDoc) (r : RequestDoc) → run v c h ≡ in_stage c (at.Fetch w r) → IsOfRole c.setting.limits r → Many h → (fetched (ask.Fetch r) a ≡ []) ⊎ (fetched (ask.Fetch r) a ≡ r ∷ []) → Many next
    many-fetched w r stands is f (inl e) = many-same (asked-none (at.Fetch w r) stands e) f
    many-fetched w r stands is f (inr e) = many-more r is (asked-one (at.Fetch w r) r stands e) f

    over-same : (w : WalkDoc) (n : ℕ) → requests v c next ≡ requests v c h → Over h w n → Over next w n
    over-same w n e o = record { begins = begins-more v c h a w.first.role.head.version o.begins; last = o.last; all = e ∙ o.all }

    -- one root more was asked for
    over-more : (w : WalkDoc) (n : ℕ) (r : RequestDoc) → requests v c next ≡ requests v c h ++ r ∷ [] → Over h w n → r ≡ root_request c.setting.limits (w.last.role.head.version + 1)
        → requests v c next ≡ roots_after c.setting.limits w.first.role.head.version (suc n)
    over-more w n r e o is =
        let first = w.first.role.head.version in
        e ∙ (ap (λ t. t ++ r ∷ []) o.all
        ∙ (ap (λ q. roots_after c.setting.limits first n ++ q ∷ []) (is ∙ ap (λ m. root_request c.setting.limits (m + 1)) o.last)
        ∙ sym (roots-last c.setting.limits first n)))

    -- at a fetch that isn't a root's
    few-fetched : (k : ℕ) (w : WantedDoc) (r : RequestDoc) → run v c h ≡ in_stage c (at.Fetch w r) → Few h k → (fetched (ask.Fetch r) a ≡ []) ⊎ (fetched (ask.Fetch r) a ≡ r ∷ []) → Few next (k + 1)
    few-fetched k w r stands f (inl e) = few-up next k (k + 1) (omega arith) (few-same k (asked-none (at.Fetch w r) stands e) f)
    few-fetched k w r stands f (inr e) = few-more k r (asked-one (at.Fetch w r) r stands e) f

    -- at a root's fetch
    few-walked : (w : WalkDoc) (r : RequestDoc) (n : ℕ) → run v c h ≡ in_stage c (at.Fetch (at.Root w) r) → Over h w n → n < c.setting.limits.max_root_updates → r ≡ root_request c.setting.limits (w.last.role.head.version + 1)
        → (fetched (ask.Fetch r) a ≡ []) ⊎ (fetched (ask.Fetch r) a ≡ r ∷ []) → Few next 0
    few-walked w r n stands o lt is (inl e) =
        let le : n ≤ c.setting.limits.max_root_updates = omega (arith, lt) in
        few-roots next w.first.role.head.version n (begins-more v c h a w.first.role.head.version o.begins) le (asked-none (at.Fetch (at.Root w) r) stands e ∙ o.all)
    few-walked w r n stands o lt is (inr e) =
        let le : suc n ≤ c.setting.limits.max_root_updates = omega (arith, lt) in
        few-roots next w.first.role.head.version (suc n) (begins-more v c h a w.first.role.head.version o.begins) le (over-more w n r (asked-one (at.Fetch (at.Root w) r) r stands e) o is)

    -- whatever comes, few files were asked for
    few-next : (st : StageDoc) → run v c h ≡ in_stage c st → Counts h st → Many next
    few-next at.Moment stands t = many next 0 (omega arith) (few-none next (asked-none at.Moment stands refl ∙ t))
    few-next (at.ReadRoot w) stands t = many next 0 (omega arith) (few-none next (asked-none (at.ReadRoot w) stands refl ∙ t.0))
    few-next (at.Step (at.NoteTime now)) stands t = many next 0 (omega arith) (few-none next (asked-none (at.Step (at.NoteTime now)) stands refl ∙ t))
    few-next (at.Fetch (at.Root w) r) stands t = many next 0 (omega arith) (few-walked w r t.0 stands t.1 t.2 t.3 (fetched-one r a))
    few-next (at.Fetch (at.Timestamp b) r) stands t = many next 1 (omega arith) (few-fetched 0 (at.Timestamp b) r stands t (fetched-one r a))
    few-next (at.Fetch (at.Snapshot b s m) r) stands t = many next 2 (omega arith) (few-fetched 1 (at.Snapshot b s m) r stands t (fetched-one r a))
    few-next (at.Fetch (at.Targets k m) r) stands t = many next 3 (omega arith) (few-fetched 2 (at.Targets k m) r stands t (fetched-one r a))
    few-next (at.Fetch (at.Role k roles m) r) stands t = many-fetched (at.Role k roles m) r stands t.1 t.0 (fetched-one r a)
    few-next (at.Step (at.PutRoot w)) stands t = many next 0 (omega arith) (few-same 0 (asked-none (at.Step (at.PutRoot w)) stands refl) (few-over h w t.0 t.1 t.2))
    few-next (at.Step (at.PutLast w)) stands t = many next 0 (omega arith) (few-same 0 (asked-none (at.Step (at.PutLast w)) stands refl) t)
    few-next (at.Step (at.PutTimestamp b s)) stands t = many next 1 (omega arith) (few-same 1 (asked-none (at.Step (at.PutTimestamp b s)) stands refl) t)
    few-next (at.Step (at.PutSnapshot k m)) stands t = many next 2 (omega arith) (few-same 2 (asked-none (at.Step (at.PutSnapshot k m)) stands refl) t)
    few-next (at.Step (at.PutTargets k d)) stands t = many next 3 (omega arith) (few-same 3 (asked-none (at.Step (at.PutTargets k d)) stands refl) t)
    few-next (at.Step (at.PutDelegated k roles name d)) stands t = many-same (asked-none (at.Step (at.PutDelegated k roles name d)) stands refl) t
    few-next (at.Done r) stands t = many-same (asked-none (at.Done r) stands refl) t
    few-next at.Taken stands t = many-same (asked-none at.Taken stands refl) t

    -- ---- an answer, where few files were asked for whatever comes

    module _ (enough : Many next) where
      bad : (f : Failure) → Counts next (at.Done (Err f))
      bad f = enough

      abbrev Goes : Result StageDoc Failure → Type 0
      Goes = Fine (Counts next) bad

      abbrev Heard : StageDoc → AnswerDoc → Type 0
      Heard st x = (x ≡ a) × (run v c h ≡ in_stage c st)

      -- an answer that isn't waited for
      same-fetch : (w : WantedDoc) (r : RequestDoc) (x : AnswerDoc) → waits (at.Fetch w r) x ≡ false → Heard (at.Fetch w r) x → requests v c next ≡ requests v c h
      same-fetch w r x e l = asked-none (at.Fetch w r) l.1 (ap (fetched (ask.Fetch r)) (sym l.0) ∙ unwaited w r x e)

      same-counts : (st : StageDoc) (x : AnswerDoc) → waits st x ≡ false → Counts h st → Heard st x → Counts next st
      same-counts at.Moment x e t l = asked-none at.Moment l.1 refl ∙ t
      same-counts (at.ReadRoot w) x e t l = (asked-none (at.ReadRoot w) l.1 refl ∙ t.0, t.1, t.2)
      same-counts (at.Step (at.NoteTime now)) x e t l = asked-none (at.Step (at.NoteTime now)) l.1 refl ∙ t
      same-counts (at.Fetch (at.Root w) r) x e t l = (t.0, over-same w t.0 (same-fetch (at.Root w) r x e l) t.1, t.2, t.3)
      same-counts (at.Fetch (at.Timestamp b) r) x e t l = few-same 0 (same-fetch (at.Timestamp b) r x e l) t
      same-counts (at.Fetch (at.Snapshot b s m) r) x e t l = few-same 1 (same-fetch (at.Snapshot b s m) r x e l) t
      same-counts (at.Fetch (at.Targets k m) r) x e t l = few-same 2 (same-fetch (at.Targets k m) r x e l) t
      same-counts (at.Step (at.PutRoot w)) x e t l = (t.0, over-same w t.0 (asked-none (at.Step (at.PutRoot w)) l.1 refl) t.1, t.2)
      same-counts (at.Step (at.PutLast w)) x e t l = few-same 0 (asked-none (at.Step (at.PutLast w)) l.1 refl) t
      same-counts (at.Step (at.PutTimestamp b s)) x e t l = few-same 1 (asked-none (at.Step (at.PutTimestamp b s)) l.1 refl) t
      same-counts (at.Step (at.PutSnapshot k m)) x e t l = few-same 2 (asked-none (at.Step (at.PutSnapshot k m)) l.1 refl) t
      same-counts (at.Step (at.PutTargets k d)) x e t l = few-same 3 (asked-none (at.Step (at.PutTargets k d)) l.1 refl) t
      same-counts (at.Fetch (at.Role k roles m) r) x e t l = (many-same (same-fetch (at.Role k roles m) r x e l) t.0, t.1)
      same-counts (at.Step (at.PutDelegated k roles name d)) x e t l = many-same (asked-none (at.Step (at.PutDelegated k roles name d)) l.1 refl) t
      same-counts (at.Done r) x e t l = many-same (asked-none (at.Done r) l.1 refl) t
      same-counts at.Taken x e t l = many-same (asked-none at.Taken l.1 refl) t

      walked-counts : (w : WalkDoc) (n : ℕ) → Over next w n → n ≤ c.setting.limits.max_root_updates → Goes (walked c.setting.limits w)
      walked-counts w n o le = walking (Counts next) bad c.setting.limits w (λ _ _. few-roots next w.first.role.head.version n o.begins le o.all)
          (λ g. (n, o, below w.first.role.head.version n w.last.role.head.version c.setting.limits.max_root_updates o.last g, refl))

      -- the walk begins
      from-counts : (w : WalkDoc) (r : Option (SignedDoc RootDoc)) → Counts h (at.ReadRoot w) → Heard (at.ReadRoot w) (got.Stored (Ok r)) → Goes (walked c.setting.limits (walk_from w r))
      from-counts w None t l =
          let none : w.last.role.head.version ≡ w.first.role.head.version + 0 = omega (arith, t.2) in
          walked-counts w 0 (record { begins = inl t.1; last = none; all = asked-none (at.ReadRoot w) l.1 refl ∙ t.0 }) (omega arith)
      from-counts w (Some r) t l =
          let none : r.role.head.version ≡ r.role.head.version + 0 = omega arith in
          let stored : WasStored v c next r = record { before = h; after = []; all = ap (λ x. h ++ x ∷ []) (sym l.0); first = w.first.role.head.version; asked = ap question l.1 } in
          walked-counts (record { start = w.start; first = r; last = r }) 0 (record { begins = inr (r, stored, refl); last = none; all = asked-none (at.ReadRoot w) l.1 refl ∙ t.0 }) (omega arith)

      walk_ended-counts : (w : WalkDoc) → Few next 0 → Goes (walk_ended c.setting.limits c.setting.enforced w)
      walk_ended-counts w f = ending (Counts next) bad c.setting.limits c.setting.enforced w (λ _. f)

      want_snapshot-counts : (b : BaseDoc) (t : SignedDoc TimestampDoc) (o : Option MetafileDoc) → Few next 1 → Goes (want_snapshot c.setting.limits b t o)
      want_snapshot-counts b t None f = enough
      want_snapshot-counts b t (Some m) f = f

      want_targets-counts : (k : KnownDoc) (o : Option MetafileDoc) → Few next 2 → Goes (want_targets c.setting.limits k o)
      want_targets-counts k None f = enough
      want_targets-counts k (Some m) f = f

      found-counts : (o : Option Named) (l : LoadedDoc) → Goes (if_found o l)
      found-counts None l = enough
      found-counts (Some name) l = enough

      grown-counts : (k : KnownDoc) (received : List ReceivedDoc) (p : Progress) → Goes (grown_on c.setting.limits k received p)
      grown-counts k received (wants w m) = (enough, (k.root.role.consistent_snapshot, wanted_name w, m, refl))
      grown-counts k received (grown t) = found-counts (first_missing t.role) (record { known = k; targets = t; received = received })

      given-counts : (k : KnownDoc) (roles : RolesDoc) (d : SignedDoc TreeDoc) → Goes (role_given c.setting.limits k roles d)
      given-counts k roles d = grown-counts k roles.received (go_on (metas_in k) (given roles.work d))

      read-counts : (w : WantedDoc) (r : RequestDoc) (bytes : List ℕ) → Counts h (at.Fetch w r) → Heard (at.Fetch w r) (got.Bytes bytes) → Goes (read_wanted v c.setting w r bytes)
      read-counts (at.Root w) r bytes t l = and_then-fine (Counts next) bad (next_root v w.last.role bytes) (λ root. Ok (at.Step (at.PutRoot (record { start = w.start; first = w.first; last = root })))) (λ root is.
          let version = (next-fine v w.last bytes root is).version in
          let one : root.role.head.version ≡ w.first.role.head.version + suc t.0 = omega (arith, version, t.1.last) in
          let le : suc t.0 ≤ c.setting.limits.max_root_updates = omega (arith, t.2) in
          (suc t.0, record { begins = begins-more v c h a w.first.role.head.version t.1.begins; last = one; all = over-more w t.0 r (asked-one (at.Fetch (at.Root w) r) r l.1 (ap (fetched (ask.Fetch r)) (sym l.0))) t.1 t.3 }, le))
      read-counts (at.Timestamp b) r bytes t l = reading (Counts next) bad (ParseMetadata role.Timestamp (holds_json bytes)) (timestamp_in bytes) (λ d. at.Step (at.PutTimestamp b d)) (λ d. few-fetched 0 (at.Timestamp b) r l.1 t (fetched-one r a))
      read-counts (at.Snapshot b s m) r bytes t l = reading (Counts next) bad (ParseMetadata role.Snapshot (holds_json bytes)) (snapshot_in bytes) (λ d. at.Step (at.PutSnapshot (known_of b s d) m)) (λ d. few-fetched 1 (at.Snapshot b s m) r l.1 t (fetched-one r a))
      read-counts (at.Targets k m) r bytes t l = and_then-fine (Counts next) bad (judged v c.setting.enforced k.start (by_root k.root.role) m bytes) (λ d. Ok (at.Step (at.PutTargets k d))) (λ d _.
          few-fetched 2 (at.Targets k m) r l.1 t (fetched-one r a))
      read-counts (at.Role k roles m) r bytes t l =
          let kept = with_received roles bytes in
          and_then-fine (Counts next) bad (judged v c.setting.enforced k.start (role_holder roles.work) m bytes) (role_stored c.setting.limits k kept r.name) (λ d _.
          if-fine (Counts next) bad (is_reserved r.name) (role_given c.setting.limits k kept d) (Ok (at.Step (at.PutDelegated k kept r.name d))) (λ _. given-counts k kept d) enough)

      step-counts : (p : PendingDoc) → Counts h (at.Step p) → Heard (at.Step p) (got.Step (Ok (tt {0}))) → Goes (after v c.setting p)
      step-counts (at.NoteTime now) t l = beginning (Counts next) bad v c.setting.trusted now (λ root is.
          (asked-none (at.Step (at.NoteTime now)) l.1 refl ∙ t, sym (ap first_version (first-read v c.setting.trusted root is)), refl))
      step-counts (at.PutRoot w) t l = walked-counts w t.0 (over-same w t.0 (asked-none (at.Step (at.PutRoot w)) l.1 refl) t.1) t.2
      step-counts (at.PutLast w) t l = walk_ended-counts w (few-same 0 (asked-none (at.Step (at.PutLast w)) l.1 refl) t)
      step-counts (at.PutTimestamp b s) t l = want_snapshot-counts b s (metafile_in s.role.meta snapshot_file) (few-same 1 (asked-none (at.Step (at.PutTimestamp b s)) l.1 refl) t)
      step-counts (at.PutSnapshot k m) t l = want_targets-counts k (metafile_in k.snapshot.role.meta targets_file) (few-same 2 (asked-none (at.Step (at.PutSnapshot k m)) l.1 refl) t)
      step-counts (at.PutTargets k d) t l =
          if-fine (Counts next) bad c.setting.whole (roles_begun c.setting.limits k d) (finished k [] d) (λ _. grown-counts k [] (begun (metas_in k) (held_as [] d))) (found-counts (first_missing d.role) (record { known = k; targets = d; received = [] }))
      step-counts (at.PutDelegated k roles name d) t l = given-counts k roles d

      turn-counts : (st : StageDoc) → run v c h ≡ in_stage c st → Counts h st → Counts next (settled (stage_after v c.setting st a))
      turn-counts st stands t = keeps-answer v c.setting (Counts h) (Counts next) bad Heard (record {
        moment = λ now t l. asked-none at.Moment l.1 refl ∙ t;
        stored = from-counts;
        read = read-counts;
        ends = λ w r x _ t l. few-walked w r t.0 l.1 t.1 t.2 t.3 (fetched-one r a);
        step = step-counts;
        same = λ st x e _ t l. same-counts st x e t l;
      }) st a t (refl, stands)

  turn : (h : List AnswerDoc) (st : StageDoc) (a : AnswerDoc) → run v c h ≡ in_stage c st → Counts h st → Counts (h ++ a ∷ []) (settled (stage_after v c.setting st a))
  turn h st a stands t = turn-counts h a (few-next h a st stands t) st stands t

  few-at : (h : List AnswerDoc) (st : StageDoc) → Counts h st → Many h
  few-at h at.Moment t = many h 0 (omega arith) (few-none h t)
  few-at h (at.ReadRoot w) t = many h 0 (omega arith) (few-none h t.0)
  few-at h (at.Step (at.NoteTime now)) t = many h 0 (omega arith) (few-none h t)
  few-at h (at.Fetch (at.Root w) r) t = let le : t.0 ≤ c.setting.limits.max_root_updates = omega (arith, t.2) in many h 0 (omega arith) (few-over h w t.0 t.1 le)
  few-at h (at.Fetch (at.Timestamp b) r) t = many h 0 (omega arith) t
  few-at h (at.Fetch (at.Snapshot b s m) r) t = many h 1 (omega arith) t
  few-at h (at.Fetch (at.Targets k m) r) t = many h 2 (omega arith) t
  few-at h (at.Fetch (at.Role k roles m) r) t = t.0
  few-at h (at.Step (at.PutRoot w)) t = many h 0 (omega arith) (few-over h w t.0 t.1 t.2)
  few-at h (at.Step (at.PutLast w)) t = many h 0 (omega arith) t
  few-at h (at.Step (at.PutTimestamp b s)) t = many h 1 (omega arith) t
  few-at h (at.Step (at.PutSnapshot k m)) t = many h 2 (omega arith) t
  few-at h (at.Step (at.PutTargets k d)) t = many h 3 (omega arith) t
  few-at h (at.Step (at.PutDelegated k roles name d)) t = t
  few-at h (at.Done r) t = t
  few-at h at.Taken t = t

pub asks_few : (v : Verifies) (c : CoreDoc) (answers : List AnswerDoc) → IsFresh c → AsksFew v c answers
asks_few v c answers fresh =
    let f = few-at v c answers (run v c answers).stage (whole v c (Counts v c) (turn v c) answers (subst (Counts v c []) (sym fresh) refl)) in
    record { first = f.first; begins = f.begins; roots = f.roots; few = f.few; others = f.others; roles = f.roles; all = f.all; three = f.three; delegated = f.delegated }
