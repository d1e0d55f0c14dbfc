-- A run over files and over a store that held nothing is honest.
use Rattle.std.specs.Prelude.{◌≡◌, ◌⊎◌, ℕ, ◌+◌, ℤ, List, [], ◌∷◌, Option, Some, None, Result, Ok, Err, Bool, true}
use Rattle.std.proofs.Common.{refl, sym, ap, ◌∙◌, subst, inl, inr, arith}
use Rattle.url.specs.Parts.{Parts as Urls}
use Rattle.futures.specs.Runs.{Runs}
use Rattle.tough_keys.specs.Same.{Verifies}
use Rattle.tough_net.specs.declared.error.TransportError.{TransportError}
use Rattle.tough_net.specs.Items.{Item}
use Rattle.tough_checks.specs.declared.checks.StepError.{StepError}
use Rattle.tough_roles.specs.Root.{RootDoc}
use Rattle.tough_roles.specs.Signature.{SignedDoc}
use Rattle.tough_checks.specs.Documents.{root_in}
use Rattle.tough_checks.specs.Files.{root_file, timestamp_file, snapshot_file}
use Rattle.tough_checks.specs.StoredDocuments.{newer_root, stored_root}
use Rattle.tough_checks.specs.declared.checks.StepError.TheVariants as steps
use Rattle.tough_vault.specs.Looking.{Looks}
use Rattle.tough_vault.specs.Stored.{Files, SameFiles}
use Rattle.tough_vault.specs.declared.entry.Receipt.{Receipt}
use Rattle.tough_vault.specs.Step.{Parts}
use Rattle.tough_vault.specs.Act.{Act, Acts}
use Rattle.tough_trust.specs.Failure.{Failure, Memory}
use Rattle.tough_trust.specs.Steps.{Keeping, taken, ReadsRoot}
use Rattle.tough_trust.specs.View.{read_doc}
use Rattle.tough_trust.specs.Requests.{RequestDoc, root_request}
use Rattle.tough_update.specs.Stages.{WalkDoc, LoadedDoc, StageDoc, SettingDoc, CoreDoc}
use Rattle.tough_update.specs.Stages as at
use Rattle.tough_update.specs.Questions.{Question}
use Rattle.tough_update.specs.Questions as ask
use Rattle.tough_update.specs.Answered.{AnswerDoc}
use Rattle.tough_update.specs.Answered as got
use Rattle.tough_update.specs.Machine.{question, question_at, answered, stage_after, settled}
use Rattle.tough_update.specs.Promises.{ended}
use Rattle.tough_update.specs.Runs.{run}
use Rattle.tough_update.specs.Loadable.{Honest, AllHonest, IsLoaded}
use Rattle.tough_honest.specs.Serves.{ServesName, HasMemory}
use Rattle.tough_load.specs.Loading.{Held, Allows, Leads}
use Rattle.tough_honest.specs.Fresh.{wanted_phase, phase, Untouched, StepIsFine, IsFine, AllFine, IsFineOutcome}
use Rattle.tough_honest.proofs.Serving.{honest}
use Rattle.tough_honest.proofs.Phases.{next_phase, fetched-least, read_root-least, after-least}
use Rattle.tough_honest.proofs.Alone.{IsAlone, AloneAt, Alone, is-alone, turn-alone}
use Rattle.tough_honest.proofs.Fresh.{later, at_last, stepped, left}

fine-memory : (now : ℤ) (a : AnswerDoc) → IsFine now a → HasMemory a
fine-memory now (got.Moment t) h = tt
fine-memory now (got.Stored r) h = tt
fine-memory now (got.Bytes bytes) h = tt
fine-memory now (got.NotStarted f) h = h
fine-memory now (got.Cut f) h = h
fine-memory now (got.Step r) h = tt

module _ {T K S C Y : Type 0} (refuses : T → Urls → TransportError → Type 0) (serves : T → Urls → Runs Item) (tells : Bool) (files : S → Files) (count : S → ℕ) (told : tells ≡ true)
    (verifies : Verifies) (keeps : Verifies → K → Act → Result Receipt StepError → K → Type 0) (reads : ReadsRoot K) (may_give : C → ℤ → Type 0) (yields : Y → Runs Item) (view : K → Parts S)
    (vault : (old : K) (act : Act) (r : Result Receipt StepError) (new : K) → keeps verifies old act r new → Acts tells files count verifies act (view old) (view new) r)
    (look : (old : K) (first : ℕ) (r : Result (Option (SignedDoc RootDoc)) StepError) (new : K) → reads verifies old first r new → Looks tells files count verifies first (view old) (view new) r)
    (base : Urls) (t : T) (served : Files) (now : ℤ) (root : SignedDoc RootDoc) where
  -- what the vault of a keeper is
  abbrev seen : Held K Receipt C → Parts S
  seen k = view k.keeping.keeper

  abbrev May : Question → Held K Receipt C → AnswerDoc → Held K Receipt C → Type 0
  May = Allows refuses serves keeps reads may_give yields verifies base t

  abbrev Goes-on : SettingDoc → StageDoc → Held K Receipt C → AnswerDoc → Type 0
  Goes-on s stage next a = Honest verifies served now (question_at s.enforced stage) a × Untouched files (phase (settled (stage_after verifies s stage a))) (seen next)

  step-on : (s : SettingDoc) (p : at.PendingDoc) (k next : Held K Receipt C) (r : Result Receipt StepError) → Untouched files (phase (at.Step p)) (seen k)
      → Acts tells files count verifies (Rattle.tough_update.specs.Machine.act_at s.enforced p) (seen k) (seen next) r → IsAlone p → StepIsFine (taken r) → Goes-on s (at.Step p) next (got.Step (taken r))
  step-on s p k next (Ok r) u h alone fine = (
    stepped tells files count told verifies s.enforced p (seen k) (seen next) (Ok r) u h fine,
    later files (next_phase p) _ (seen next) (after-least verifies s p) (left tells files count told verifies s.enforced p (seen k) (seen next) r alone u h),
  )
  step-on s p k next (Err e) u h alone fine = (stepped tells files count told verifies s.enforced p (seen k) (seen next) (Err e) u h fine, at_last files (seen next))

  -- no root is stored yet, and so none is told
  read-none : (w : WalkDoc) (k next : Held K Receipt C) (r : Result (Option (SignedDoc RootDoc)) StepError) → Untouched files 1 (seen k)
      → Looks tells files count verifies w.first.role.head.version (seen k) (seen next) r → IsFine now (got.Stored (read_doc r)) → read_doc r ≡ Ok None
  read-none w k next (Ok o) u h fine =
      let s = h.sees.root in
      ap Ok (s.2 ∙ ap (λ f. newer_root w.first.role.head.version (stored_root verifies f)) (s.1 told ∙ (u.root (omega arith)).0))
  read-none w k next (Err (steps.Refused c)) u h fine = absurd h.sees.fault
  read-none w k next (Err (steps.DatastoreOpen path)) u h fine = absurd fine
  read-none w k next (Err (steps.DatastoreCreate path)) u h fine = absurd fine
  read-none w k next (Err (steps.DatastoreRemove path)) u h fine = absurd fine
  read-none w k next (Err steps.Memory) u h fine = absurd fine

  looked : (old new : Parts S) → SameFiles (files old.store) (files new.store) → new.tip ≡ old.tip → Untouched files 1 old → Untouched files 1 new
  looked old new same tip u = record {
    time = λ lt. absurd (omega (arith, lt));
    root = λ lt. let x = u.root lt in (same root_file ∙ x.0, ap (λ l. l.root) tip ∙ x.1);
    timestamp = λ lt. let x = u.timestamp lt in (same timestamp_file ∙ x.0, ap (λ l. l.timestamp) tip ∙ x.1);
    snapshot = λ lt. let x = u.snapshot lt in (same snapshot_file ∙ x.0, ap (λ l. l.snapshot) tip ∙ x.1);
  }

  look-on : (s : SettingDoc) (w : WalkDoc) (k next : Held K Receipt C) (r : Result (Option (SignedDoc RootDoc)) StepError) → Untouched files 1 (seen k)
      → Looks tells files count verifies w.first.role.head.version (seen k) (seen next) r → IsFine now (got.Stored (read_doc r)) → Goes-on s (at.ReadRoot w) next (got.Stored (read_doc r))
  look-on s w k next r u h fine = (
    ap got.Stored (read-none w k next r u h fine),
    later files 1 _ (seen next) (read_root-least s.limits w (read_doc r)) (looked (seen k) (seen next) (h.sees.same told) h.tip u),
  )

  one : (s : SettingDoc) (stage : StageDoc) (k next : Held K Receipt C) (a : AnswerDoc) → Untouched files (phase stage) (seen k)
      → ((r : RequestDoc) → question_at s.enforced stage ≡ ask.Fetch r → ServesName refuses serves t base r.name (served r.name))
      → May (question_at s.enforced stage) k a next → AloneAt stage → IsFine now a → Goes-on s stage next a
  one s at.Moment k next a u there (time, is, may, same) alone fine =
      let moment : time ≡ now = subst (IsFine now) is fine in
      subst (Goes-on s at.Moment next) (sym is) (ap got.Moment moment, subst (λ (x : Keeping K Receipt). Untouched files 0 (view x.keeper)) (sym same) u)
  one s (at.ReadRoot w) k next a u there (r, is, held, put, still) alone fine =
      subst (Goes-on s (at.ReadRoot w) next) (sym is) (look-on s w k next r u (look k.keeping.keeper _ r next.keeping.keeper held) (subst (IsFine now) is fine))
  one s (at.Fetch w r) k next a u there (fetched, same) alone fine = (
    honest refuses serves t base r (served r.name) a (there r refl) fetched (fine-memory now a fine),
    later files (wanted_phase w) _ (seen next) (fetched-least verifies s w r a) (subst (λ (x : Held K Receipt C). Untouched files (wanted_phase w) (seen x)) (sym same) u),
  )
  one s (at.Step p) k next a u there (Ok w, is, (r, put, h), still) alone fine =
      subst (Goes-on s (at.Step p) next) (sym is) (step-on s p k next (Ok r) u (vault k.keeping.keeper _ (Ok r) next.keeping.keeper h) alone tt)
  one s (at.Step p) k next a u there (Err f, is, (inl (r, gave, h), none), still) alone fine =
      let made : a ≡ got.Step (taken r) = is ∙ ap got.Step gave in
      subst (Goes-on s (at.Step p) next) (sym made) (step-on s p k next r u (vault k.keeping.keeper _ r next.keeping.keeper h) alone (subst (IsFine now) made fine))
  one s (at.Step p) k next a u there (Err f, is, (inr (wanting, same), none), still) alone fine = absurd (subst (IsFine now) (is ∙ ap got.Step wanting) fine)
  one s (at.Done r) k next a u there h alone fine = absurd h
  one s at.Taken k next a u there h alone fine = absurd h

  nothing-follows : (q : Question) (k : Held K Receipt C) (a : AnswerDoc) (next : Held K Receipt C) → q ≡ ask.Ready → May q k a next → ⊥
  nothing-follows q k a next is h = subst (λ (x : Question). May x k a next) is h

  spent : (c : CoreDoc) (k : Held K Receipt C) (rest : List AnswerDoc) (last : CoreDoc) (kept : Held K Receipt C) → c.stage ≡ at.Done (Err Memory)
      → Leads refuses serves keeps reads may_give yields verifies base t c k rest last kept → (last.stage ≡ at.Done (Err Memory)) × (rest ≡ [])
  spent c k [] last kept is h = (ap (λ (d : CoreDoc). d.stage) h.0 ∙ is, refl)
  spent c k (a ∷ rest) last kept is h = absurd (nothing-follows (question c) k a h.1 (ap (question_at c.setting.enforced) is) h.2)

  -- every answer is honest, and the last machine is that of the run, unless memory was wanting
  pub all : (answers : List AnswerDoc) (c : CoreDoc) (k : Held K Receipt C) (last : CoreDoc) (kept : Held K Receipt C) (trusted : root_in c.setting.trusted ≡ Some root)
      (no_next : served (root_request c.setting.limits (root.role.head.version + 1)).name ≡ None) → Alone verifies c.setting served now root trusted no_next c.stage → Untouched files (phase c.stage) (seen k)
      → ((before : List AnswerDoc) (r : RequestDoc) → AllHonest verifies served now c before → question (run verifies c before) ≡ ask.Fetch r → ServesName refuses serves t base r.name (served r.name))
      → Leads refuses serves keeps reads may_give yields verifies base t c k answers last kept → AllFine now answers
      → AllHonest verifies served now c answers × ((last ≡ run verifies c answers) ⊎ (last.stage ≡ at.Done (Err Memory)))
  all [] c k last kept trusted no_next alone u there h fine = (tt, inl h.0)
  all (a ∷ rest) c k last kept trusted no_next alone u there (mid, next, may, inl goes, led) (fine, fines) =
      let here = one c.setting c.stage k next a u (λ r asked. there [] r tt asked) may (is-alone verifies c.setting served now root trusted no_next c.stage alone) fine in
      let onward = all rest (answered verifies c a) next last kept trusted no_next (turn-alone verifies c.setting served now root trusted no_next c.stage a alone here.0) here.1 (λ before r honest asked. there (a ∷ before) r (here.0, honest) asked) (subst (λ (m : CoreDoc). Leads refuses serves keeps reads may_give yields verifies base t m next rest last kept) goes led) fines in
      ((here.0, onward.0), onward.1)
  all (a ∷ rest) c k last kept trusted no_next alone u there (mid, next, may, inr goes, led) (fine, fines) =
      let here = one c.setting c.stage k next a u (λ r asked. there [] r tt asked) may (is-alone verifies c.setting served now root trusted no_next c.stage alone) fine in
      let over = spent mid next rest last kept (ap (λ (m : CoreDoc). m.stage) goes) led in
      ((here.0, subst (AllHonest verifies served now (answered verifies c a)) (sym over.1) tt), inr over.0)

-- an update that has ended asks for nothing
ready : (enforced : Bool) (stage : StageDoc) (o : Result LoadedDoc Failure) → ended stage ≡ Some o → question_at enforced stage ≡ ask.Ready
ready enforced at.Moment o h = cc (h)
ready enforced (at.ReadRoot w) o h = cc (h)
ready enforced (at.Fetch w r) o h = cc (h)
ready enforced (at.Step p) o h = cc (h)
ready enforced (at.Done r) o h = refl
ready enforced at.Taken o h = refl

pub ends-so : (v : Verifies) (c : CoreDoc) (answers : List AnswerDoc) (l : LoadedDoc) (last : CoreDoc) (o : Result LoadedDoc Failure) → IsLoaded v c answers l
    → (last ≡ run v c answers) ⊎ (last.stage ≡ at.Done (Err Memory)) → ended last.stage ≡ Some o → IsFineOutcome o → o ≡ Ok l
ends-so v c answers l last o loaded (inl is) end other =
    let at-end : ended (run v c answers).stage ≡ Some o = subst (λ (m : CoreDoc). ended m.stage ≡ Some o) is end in
    let done = loaded.ends (ready (run v c answers).setting.enforced (run v c answers).stage o at-end) in
    let same : Some o ≡ Some (Ok l) = sym at-end ∙ ap ended done in
    cc (same)
ends-so v c answers l last o loaded (inr is) end other =
    let same : Some o ≡ Some (Err Memory) = sym end ∙ ap ended is in
    let outcome : o ≡ Err Memory = cc (same) in
    absurd (subst IsFineOutcome outcome other)
