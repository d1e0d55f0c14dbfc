-- Lives whose updates note a moment: all their roots are the one that was handed in, and nothing but a time is stored.
use Rattle.std.proofs.Common.{◌≡◌, ◌⊎◌, ℕ, ℤ, List, [], ◌∷◌, Option, None, Some, true, Result, Ok, Err, slice_get, refl, sym, ap, ◌∙◌, subst, inl, inr}
use Rattle.std.specs.Prelude.{slice_set, ⊤}
use Rattle.jiff.specs.declared.timestamp.Timestamp.{Timestamp as Instant}
use Rattle.tough_keys.specs.Demo.{demo_verifies}
use Rattle.tough_roles.specs.Policy.{Policy}
use Rattle.tough_roles.specs.Root.{RootDoc}
use Rattle.tough_roles.specs.Signature.{SignedDoc}
use Rattle.tough_roles.specs.declared.role_type.RoleType.TheVariants as role
use Rattle.tough_checks.specs.Files.{root_file}
use Rattle.tough_checks.specs.StoredDocuments.{stored_root}
use Rattle.tough_vault.specs.Journal.{Note, has_broken}
use Rattle.tough_vault.specs.Memory.{memory_files}
use Rattle.tough_vault.proofs.Holding.{distinct}
use Rattle.tough_vault.specs.Step.{Parts}
use Rattle.tough_vault.specs.declared.memory.MemoryStore.{MemoryStore}
use Rattle.tough_trust.specs.Failure.{Failure, Memory}
use Rattle.tough_trust.specs.Outcomes.{and_then}
use Rattle.tough_trust.specs.Walk.{first_root}
use Rattle.tough_update.specs.Answered.{AnswerDoc}
use Rattle.tough_update.specs.Answered as got
use Rattle.tough_update.specs.Machine.{question_at, stage_after, settled}
use Rattle.tough_update.specs.Promises.{Goes}
use Rattle.tough_update.specs.Stages.{CoreDoc, StageDoc, SettingDoc}
use Rattle.tough_update.specs.Stages as at
use Rattle.tough_update.specs.View.{core_doc}
use Rattle.tough_update.specs.declared.machine.Core.{Core}
use Rattle.tough_world.specs.Lives.{Lives, begun, joined, AreFresh, BeginFresh, AllUnder, AlongRun, OnePolicy}
use Rattle.tough_world.specs.Policies.{RootUnder, StageUnder}
use Rattle.tough_world.specs.Turns.{WorldDoc, Replies, Turned, Runs}
use Rattle.tough_world.specs.declared.lives.Life.{Life}
use Rattle.tough_world.specs.declared.turns.Answer.{Answer}
use Rattle.tough_world.specs.declared.turns.Answer.TheVariants as by
use Rattle.tough_world.specs.declared.turns.Turn.{Turn}
use Rattle.tough_world.specs.declared.turns.TurnError.{TurnError}
use Rattle.tough_world.specs.declared.turns.TurnError.TheVariants.{NotAsked, Misfit}
use Rattle.witnesses.specs.Lives.{noting, IsBorn, asked_of, Stores, Notes, HasStored, HasPolicies}
use Rattle.witnesses.specs.Steps.{no_failure}

abbrev World : Type 0
World = WorldDoc MemoryStore

abbrev root_at : World → Option (List ℕ)
root_at w = memory_files w.parts.store root_file

module _ (trusted : List ℕ) where
  abbrev P : Option Policy
  P = asked_of role.Timestamp (first_root demo_verifies trusted)

  abbrev Q : Option Policy
  Q = asked_of role.Snapshot (first_root demo_verifies trusted)

  abbrev Under : World → Type 0
  Under w = AllUnder P Q w.cores × RootUnder demo_verifies P Q (root_at w)

  -- ---- one update

  -- it was begun with this root, and has come no further than to the note of a moment
  abbrev Early : StageDoc → Type 0
  Early s = (s ≡ at.Moment) ⊎ (((n : ℤ) × (s ≡ at.Step (at.NoteTime n))) ⊎ (s ≡ at.Done (Err Memory)))

  abbrev IsEarly : Core → Type 0
  IsEarly c = ((core_doc c).setting.trusted ≡ trusted) × Early (core_doc c).stage

  abbrev IsBegun : Core → Type 0
  IsBegun c = ((core_doc c).setting.trusted ≡ trusted) × ((core_doc c).stage ≡ at.Moment)

  early-under : (s : StageDoc) → Early s → StageUnder P Q s
  early-under s (inl e) = subst (StageUnder P Q) (sym e) tt
  early-under s (inr (inl (n, e))) = subst (StageUnder P Q) (sym e) tt
  early-under s (inr (inr e)) = subst (StageUnder P Q) (sym e) tt

  -- the walk begins, at the root that was handed in
  began-under : (n : ℤ) (o : Result (SignedDoc RootDoc) Failure) → StageUnder (asked_of role.Timestamp o) (asked_of role.Snapshot o) (settled (and_then o (λ root. Ok (at.ReadRoot (record { start = n; first = root; last = root })))))
  began-under n (Ok root) = ((refl, refl), (refl, refl))
  began-under n (Err f) = tt

  noted-under : (s : SettingDoc) (n : ℤ) (x : Result Unit Failure) → s.trusted ≡ trusted → StageUnder P Q (settled (stage_after demo_verifies s (at.Step (at.NoteTime n)) (got.Step x)))
  noted-under s n (Ok u) e = rw e (began-under n (first_root demo_verifies trusted))
  noted-under s n (Err f) e = tt

  -- ---- turns

  abbrev Turn-of : Answer → World → World → Type 0
  Turn-of a w next = (r : Result ⊤ TurnError) × Turned true memory_files no_failure demo_verifies 0 a w next r

  -- it is the world's one update
  abbrev Alone : (Core → Type 0) → World → Type 0
  Alone Is w = (c : Core) × (w.cores ≡ c ∷ []) × Is c

  only : (c d : Core) (cs : List Core) → cs ≡ c ∷ [] → slice_get cs 0 ≡ Some d → c ≡ d
  only c d cs e h = cc

  set-only : (c d : Core) (cs : List Core) → cs ≡ c ∷ [] → slice_set cs 0 d ≡ d ∷ []
  set-only c d cs e = ap (λ (xs : List Core). slice_set xs 0 d) e

  -- a moment was told, and nothing was stored
  early-after : (old new : CoreDoc) (a : AnswerDoc) (n : ℤ) → old.setting.trusted ≡ trusted → old.stage ≡ at.Moment → a ≡ got.Moment n → Goes demo_verifies old a new → (new.setting.trusted ≡ trusted) × Early new.stage
  early-after old new a n trusts e is (inl h) = (
    ap (λ (x : CoreDoc). x.setting.trusted) h ∙ trusts,
    inr (inl (n, ap (λ (x : CoreDoc). x.stage) h ∙ (ap (λ y. settled (stage_after demo_verifies old.setting old.stage y)) is ∙ ap (λ s. settled (stage_after demo_verifies old.setting s (got.Moment n))) e))),
  )
  early-after old new a n trusts e is (inr h) = (ap (λ (x : CoreDoc). x.setting.trusted) h ∙ trusts, inr (inr (ap (λ (x : CoreDoc). x.stage) h)))

  told : (now : Instant) (w next : World) → Alone IsBegun w → Turn-of (by.Moment now) w next → Alone IsEarly next × (root_at next ≡ root_at w)
  told now w next (c, one, is) (Err NotAsked, t) = ((c, ap (λ (x : World). x.cores) t.0 ∙ one, (is.0, inl is.1)), ap root_at t.0)
  told now w next (c, one, is) (Err Misfit, t) = ((c, ap (λ (x : World). x.cores) t.0 ∙ one, (is.0, inl is.1)), ap root_at t.0)
  told now w next (c, one, is) (Ok u, t) =
      let begun = subst IsBegun (only c t.core w.cores one t.there) is in
      let replied = subst (λ (s : StageDoc). Replies true memory_files no_failure demo_verifies (question_at (core_doc t.core).setting.enforced s) (by.Moment now) w.parts t.reply next.parts) begun.1 t.replies in (
        (t.next, t.cores ∙ set-only c t.next w.cores one, early-after (core_doc t.core) (core_doc t.next) t.reply now.nanosecond begun.0 begun.1 replied.0 t.answered.goes),
        ap (λ (p : Parts MemoryStore). memory_files p.store root_file) replied.1,
      )

  -- what an update of this stage is answered by the vault
  abbrev Given : SettingDoc → StageDoc → AnswerDoc → Parts MemoryStore → Parts MemoryStore → Type 0
  Given s stage a old new = Replies true memory_files no_failure demo_verifies (question_at s.enforced stage) by.Step old a new

  stage-after : (old new : CoreDoc) (a : AnswerDoc) (n : ℤ) (x : Result Unit Failure) → old.setting.trusted ≡ trusted → old.stage ≡ at.Step (at.NoteTime n) → a ≡ got.Step x → Goes demo_verifies old a new → StageUnder P Q new.stage
  stage-after old new a n x trusts e is (inl h) =
      subst (StageUnder P Q) (sym (ap (λ (c : CoreDoc). c.stage) h ∙ (ap (λ y. settled (stage_after demo_verifies old.setting old.stage y)) is ∙ ap (λ s. settled (stage_after demo_verifies old.setting s (got.Step x))) e)))
      (noted-under old.setting n x trusts)
  stage-after old new a n x trusts e is (inr h) = subst (StageUnder P Q) (sym (ap (λ (c : CoreDoc). c.stage) h)) tt

  noted : (old new : CoreDoc) (a : AnswerDoc) (p q : Parts MemoryStore) → old.setting.trusted ≡ trusted → Early old.stage → Given old.setting old.stage a p q → Goes demo_verifies old a new
      → StageUnder P Q new.stage × (memory_files q.store root_file ≡ memory_files p.store root_file)
  noted old new a p q trusts (inl e) given goes = absurd (subst (λ s. Given old.setting s a p q) e given)
  noted old new a p q trusts (inr (inr e)) given goes = absurd (subst (λ s. Given old.setting s a p q) e given)
  noted old new a p q trusts (inr (inl (n, e))) given goes =
      let x = subst (λ s. Given old.setting s a p q) e given in
      (stage-after old new a n x.0 trusts e x.1 goes, x.2.2.elsewhere refl root_file (distinct _ _ refl))

  -- the step was taken
  stepped : (w next : World) → Alone IsEarly w → Turn-of by.Step w next → Alone (λ c. StageUnder P Q (core_doc c).stage) next × (root_at next ≡ root_at w)
  stepped w next (c, one, is) (Err NotAsked, t) = ((c, ap (λ (x : World). x.cores) t.0 ∙ one, early-under (core_doc c).stage is.1), ap root_at t.0)
  stepped w next (c, one, is) (Err Misfit, t) = ((c, ap (λ (x : World). x.cores) t.0 ∙ one, early-under (core_doc c).stage is.1), ap root_at t.0)
  stepped w next (c, one, is) (Ok u, t) =
      let early = subst IsEarly (only c t.core w.cores one t.there) is in
      let went = noted (core_doc t.core) (core_doc t.next) t.reply w.parts next.parts early.0 early.1 t.replies t.answered.goes in
      ((t.next, t.cores ∙ set-only c t.next w.cores one, went.0), went.1)

  -- ---- lives

  none-under : (file : Option (List ℕ)) → file ≡ None → RootUnder demo_verifies P Q file
  none-under file e = λ r h. cc

  one-under : (w : World) → Alone (λ c. StageUnder P Q (core_doc c).stage) w → root_at w ≡ None → Under w
  one-under w (c, one, under) none = (subst (AllUnder P Q) (sym one) (under, tt), none-under (root_at w) none)

  run-under : (now : Instant) (ts : List Turn) (w end : World) (run : Runs true memory_files no_failure demo_verifies w ts end) → ts ≡ noting now → Alone IsBegun w → root_at w ≡ None
      → AlongRun true memory_files no_failure demo_verifies Under ts w end run × (root_at end ≡ None)
  run-under now [] w end run is begun none = cc
  run-under now (a ∷ []) w end run is begun none = cc
  run-under now (a ∷ b ∷ c ∷ ts) w end run is begun none = cc
  run-under now (a ∷ b ∷ []) w end run is begun none =
      let moment : Turn = record { load = 0; answer = by.Moment now } in
      let step : Turn = record { load = 0; answer = by.Step } in
      let ea : a ≡ moment = cc in
      let eb : b ≡ step = cc in
      let one = told now w run.0 begun (subst (λ (t : Turn). (r : Result ⊤ TurnError) × Turned true memory_files no_failure demo_verifies t.load t.answer w run.0 r) ea run.1) in
      let two = stepped run.0 run.2.0 one.0 (subst (λ (t : Turn). (r : Result ⊤ TurnError) × Turned true memory_files no_failure demo_verifies t.load t.answer run.0 run.2.0 r) eb run.2.1) in
      let first = one.1 ∙ none in
      let second = two.1 ∙ first in (
        (one-under w (begun.0, begun.1, subst (StageUnder P Q) (sym begun.2.1) tt) none, (one-under run.0 (one.0.0, one.0.1, early-under (core_doc one.0.0).stage one.0.2.1) first, one-under run.2.0 two.0 second)),
        ap root_at run.2.2 ∙ second,
      )

  abbrev AreNoting : List Life → Type 0
  AreNoting [] = ⊤
  AreNoting (l ∷ ls) = ((now : Instant) × IsBorn trusted (noting now) l) × AreNoting ls

  along : (ls : List Life) (js : List (List Note)) (old new : MemoryStore) (lived : Lives true memory_files no_failure demo_verifies old ls js new) → AreNoting ls → memory_files old root_file ≡ None
      → OnePolicy true memory_files no_failure demo_verifies P Q ls js old new lived
  along [] [] old new lived are none = tt
  along [] (j ∷ js) old new lived are none = tt
  along (l ∷ ls) [] old new lived are none = tt
  along (l ∷ ls) (j ∷ js) old new lived are none =
      let born = are.0.1 in
      let run = run-under are.0.0 l.schedule.items (begun l old) lived.0 lived.1 born.turns (born.core, born.cores, (born.trusts, born.fresh)) none in
      (run.0, along ls js lived.0.parts.store new lived.3 are.1 run.1)

-- the updates of such lives were not answered yet
pub fresh : (trusted : List ℕ) (ls : List Life) (l m : Life) (s t : List Turn) → ls ≡ l ∷ m ∷ [] → IsBorn trusted s l → IsBorn trusted t m → BeginFresh ls
fresh trusted ls l m s t is a b =
    subst BeginFresh (sym is) (subst AreFresh (sym a.cores) (a.fresh, tt), (subst AreFresh (sym b.cores) (b.fresh, tt), tt))

pub has-policies : (trusted : List ℕ) (ls : List Life) (js : List (List Note)) (old new : MemoryStore) (l m : Life) (now later : Instant) → ls ≡ l ∷ m ∷ [] → IsBorn trusted (noting now) l → IsBorn trusted (noting later) m
    → Lives true memory_files no_failure demo_verifies old ls js new → memory_files old root_file ≡ None → Notes (joined js) → HasPolicies
has-policies trusted ls js old new l m now later is a b lived empty notes = (
  record {
    lives = ls;
    journals = js;
    old = old;
    new = new;
    lived = lived;
    fresh = fresh trusted ls l m (noting now) (noting later) is a b;
    unbroken = ap has_broken notes.2;
    empty = empty;
    told = notes;
  },
  P trusted,
  Q trusted,
  along trusted ls js old new lived (subst (AreNoting trusted) (sym is) ((now, a), ((later, b), tt))) empty,
)

pub has-stored : (trusted : List ℕ) (ls : List Life) (js : List (List Note)) (old new : MemoryStore) (l m : Life) (s t : List Turn) → ls ≡ l ∷ m ∷ [] → IsBorn trusted s l → IsBorn trusted t m
    → Lives true memory_files no_failure demo_verifies old ls js new → memory_files old root_file ≡ None → Stores (joined js)
    → (r : SignedDoc RootDoc) → stored_root demo_verifies (memory_files new root_file) ≡ Some r → HasStored
has-stored trusted ls js old new l m s t is a b lived empty stores r held = (
  record {
    lives = ls;
    journals = js;
    old = old;
    new = new;
    lived = lived;
    fresh = fresh trusted ls l m s t is a b;
    unbroken = ap has_broken stores.4;
    empty = empty;
    told = stores;
  },
  r,
  held,
)
