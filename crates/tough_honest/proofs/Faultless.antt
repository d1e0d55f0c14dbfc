-- A fault of a device, and want of memory, end an update, which tells it.
use Rattle.std.specs.Prelude.{◌≡◌, ◌≤◌, ℕ, ℤ, List, [], ◌∷◌, Option, Some, Result, Ok, Err, Bool, false, not, ⊤}
use Rattle.std.proofs.Common.{refl, sym, ap, ◌∙◌, subst, inl, inr, arith}
use Rattle.url.specs.Parts.{Parts as Urls}
use Rattle.futures.specs.Runs.{Runs}
use Rattle.tough_keys.specs.Same.{Verifies}
use Rattle.tough_net.specs.declared.error.TransportError.{TransportError}
use Rattle.tough_net.specs.declared.error.TransportErrorKind.{TransportErrorKind}
use Rattle.tough_net.specs.Errors.{IsMemory}
use Rattle.tough_net.specs.Items.{Item}
use Rattle.tough_checks.specs.declared.checks.StepError.{StepError}
use Rattle.tough_vault.specs.declared.entry.Receipt.{Receipt}
use Rattle.tough_vault.specs.Act.{Act}
use Rattle.tough_trust.specs.declared.fault.Fault.{Fault}
use Rattle.tough_trust.specs.declared.fault.Fault.TheVariants as fault
use Rattle.tough_trust.specs.Failure.{Failure, Memory}
use Rattle.tough_trust.specs.Faults.{told, fault_failure, is_memory, is_missing, ends_start, ends_stream}
use Rattle.tough_roles.specs.Root.{RootDoc}
use Rattle.tough_roles.specs.Signature.{SignedDoc}
use Rattle.tough_trust.specs.View.{read_doc}
use Rattle.tough_trust.specs.Requests.{RequestDoc}
use Rattle.tough_trust.specs.Steps.{ReadsRoot}
use Rattle.tough_update.specs.Stages.{WalkDoc, LoadedDoc, WantedDoc, StageDoc, SettingDoc, CoreDoc}
use Rattle.tough_update.specs.Stages as at
use Rattle.tough_update.specs.Questions.{Question}
use Rattle.tough_update.specs.Questions as ask
use Rattle.tough_update.specs.Answered.{AnswerDoc}
use Rattle.tough_update.specs.Answered as got
use Rattle.tough_update.specs.Machine.{question, question_at, stage_after, settled, unfetched}
use Rattle.tough_update.specs.Promises.{ended}
use Rattle.tough_load.specs.Fetching.{Fetches}
use Rattle.tough_load.specs.Loading.{Held, Allows, Leads}
use Rattle.tough_honest.specs.Serves.{FaultHasMemory}
use Rattle.tough_honest.specs.Fresh.{phase, wanted_phase, IsNoFault, IsFine, AllFine, IsFineOutcome}
use Rattle.tough_honest.proofs.Phases.{next_phase, fetched-least, read_root-least, after-least}

-- an update that failed so failed with no fault
abbrev EndsFine : Result StageDoc Failure → Type 0
EndsFine r = (x : Failure) → settled r ≡ at.Done (Err x) → IsNoFault x

plain : (w : WantedDoc) (name : List ℕ) (f : Fault) → unfetched w false name f ≡ Err (fault_failure name f)
plain (at.Root w) name f = refl
plain (at.Timestamp b) name f = refl
plain (at.Snapshot b t listed) name f = refl
plain (at.Targets k listed) name f = refl
plain (at.Role k roles listed) name f = refl

-- a fault for which a walk doesn't end
faultless : (w : WantedDoc) (name : List ℕ) (f : Fault) (ends : Bool) → ends ≡ false → EndsFine (unfetched w ends name f) → IsNoFault (fault_failure name f)
faultless w name f ends off fine = fine (fault_failure name f) (ap settled (ap (λ (b : Bool). unfetched w b name f) off ∙ plain w name f))

wanting : (name : List ℕ) (e : TransportError) → IsMemory e → IsNoFault (fault_failure name (fault.Transport e)) → ⊥
wanting name e m h = subst (λ (k : TransportErrorKind). IsNoFault (told k e)) m.0 h

started : (w : WantedDoc) (name : List ℕ) (f : Fault) → EndsFine (unfetched w (ends_start f) name f) → FaultHasMemory f
started w name (fault.JoinUrl e) fine = tt
started w name (fault.Transport e) fine = λ m. wanting name e m (faultless w name (fault.Transport e) _ (ap (λ (k : TransportErrorKind). not (is_memory k)) m.0) fine)

cut : (w : WantedDoc) (name : List ℕ) (f : Fault) → EndsFine (unfetched w (ends_stream f) name f) → FaultHasMemory f
cut w name (fault.JoinUrl e) fine = tt
cut w name (fault.Transport e) fine = λ m. wanting name e m (faultless w name (fault.Transport e) _ (ap is_missing m.0) fine)

module _ {T K C Y : Type 0} (refuses : T → Urls → TransportError → Type 0) (serves : T → Urls → Runs Item)
    (keeps : Verifies → K → Act → Result Receipt StepError → K → Type 0) (reads : ReadsRoot K) (may_give : C → ℤ → Type 0) (yields : Y → Runs Item) (verifies : Verifies) (base : Urls) (t : T) (now : ℤ) where
  abbrev May : Question → Held K Receipt C → AnswerDoc → Held K Receipt C → Type 0
  May = Allows refuses serves keeps reads may_give yields verifies base t

  no-step : (r : RequestDoc) (x : Result Unit Failure) → Fetches refuses serves t base r (got.Step x) → ⊥
  no-step r x (inl h) = cc (h.1)
  no-step r x (inr (inl h)) = cc (h.1)
  no-step r x (inr (inr (url, is, inl h))) = cc (h.1)
  no-step r x (inr (inr (url, is, inr (Ok v, e, h)))) = cc (e)
  no-step r x (inr (inr (url, is, inr (Err y, e, h)))) = cc (e)

  no-moment : (r : RequestDoc) (time : ℤ) → Fetches refuses serves t base r (got.Moment time) → ⊥
  no-moment r time (inl h) = cc (h.1)
  no-moment r time (inr (inl h)) = cc (h.1)
  no-moment r time (inr (inr (url, is, inl h))) = cc (h.1)
  no-moment r time (inr (inr (url, is, inr (Ok v, e, h)))) = cc (e)
  no-moment r time (inr (inr (url, is, inr (Err y, e, h)))) = cc (e)

  no-stored : (r : RequestDoc) (x : Result (Option (SignedDoc RootDoc)) Failure) → Fetches refuses serves t base r (got.Stored x) → ⊥
  no-stored r x (inl h) = cc (h.1)
  no-stored r x (inr (inl h)) = cc (h.1)
  no-stored r x (inr (inr (url, is, inl h))) = cc (h.1)
  no-stored r x (inr (inr (url, is, inr (Ok v, e, h)))) = cc (e)
  no-stored r x (inr (inr (url, is, inr (Err y, e, h)))) = cc (e)

  -- the moment is asked for once
  later-none : (n : ℕ) (stage : StageDoc) → 1 ≤ n → n ≤ phase stage → stage ≡ at.Moment → ⊥
  later-none n stage least le is = let none : phase stage ≡ 0 = ap phase is in omega (arith, least, le, none)

  wanted-some : (w : WantedDoc) → 1 ≤ wanted_phase w
  wanted-some (at.Root w) = omega (arith)
  wanted-some (at.Timestamp b) = omega (arith)
  wanted-some (at.Snapshot b t listed) = omega (arith)
  wanted-some (at.Targets k listed) = omega (arith)
  wanted-some (at.Role k roles listed) = omega (arith)

  pending-some : (p : at.PendingDoc) → 1 ≤ next_phase p
  pending-some (at.NoteTime x) = omega (arith)
  pending-some (at.PutRoot w) = omega (arith)
  pending-some (at.PutLast w) = omega (arith)
  pending-some (at.PutTimestamp b x) = omega (arith)
  pending-some (at.PutSnapshot k listed) = omega (arith)
  pending-some (at.PutTargets k d) = omega (arith)
  pending-some (at.PutDelegated k roles name d) = omega (arith)

  asked-once : (s : SettingDoc) (stage : StageDoc) (k : Held K Receipt C) (a : AnswerDoc) (next : Held K Receipt C) → May (question_at s.enforced stage) k a next
      → settled (stage_after verifies s stage a) ≡ at.Moment → ⊥
  asked-once s at.Moment k a next (time, said, may, same) is = cc (ap (λ (x : AnswerDoc). settled (stage_after verifies s at.Moment x)) (sym said) ∙ is)
  asked-once s (at.ReadRoot w) k a next (x, said, h, put, still) is =
      later-none 1 _ (omega (arith)) (read_root-least s.limits w (read_doc x)) (ap (λ (y : AnswerDoc). settled (stage_after verifies s (at.ReadRoot w) y)) (sym said) ∙ is)
  asked-once s (at.Fetch w r) k a next h is = later-none (wanted_phase w) _ (wanted-some w) (fetched-least verifies s w r a) is
  asked-once s (at.Step p) k a next (Ok u, said, h, still) is =
      later-none (next_phase p) _ (pending-some p) (after-least verifies s p) (ap (λ (x : AnswerDoc). settled (stage_after verifies s (at.Step p) x)) (sym said) ∙ is)
  asked-once s (at.Step p) k a next (Err f, said, h, still) is = cc (ap (λ (x : AnswerDoc). settled (stage_after verifies s (at.Step p) x)) (sym said) ∙ is)
  asked-once s (at.Done r) k a next h is = absurd h
  asked-once s at.Taken k a next h is = absurd h

  taken-fine : (s : SettingDoc) (p : at.PendingDoc) (x : Result Unit Failure) → EndsFine (stage_after verifies s (at.Step p) (got.Step x)) → IsFine now (got.Step x)
  taken-fine s p (Ok u) fine = tt
  taken-fine s p (Err f) fine = fine f refl

  read-fine : (s : SettingDoc) (w : WalkDoc) (x : Result (Option (SignedDoc RootDoc)) Failure) → EndsFine (stage_after verifies s (at.ReadRoot w) (got.Stored x)) → IsFine now (got.Stored x)
  read-fine s w (Ok o) fine = tt
  read-fine s w (Err f) fine = fine f refl

  fine-of : (s : SettingDoc) (stage : StageDoc) (k : Held K Receipt C) (a : AnswerDoc) (next : Held K Receipt C) → (stage ≡ at.Moment → a ≡ got.Moment now) → May (question_at s.enforced stage) k a next
      → EndsFine (stage_after verifies s stage a) → IsFine now a
  fine-of s at.Moment k a next shows h fine = subst (IsFine now) (sym (shows refl)) refl
  fine-of s (at.ReadRoot w) k a next shows (x, is, h, put, still) fine =
      subst (IsFine now) (sym is) (read-fine s w (read_doc x) (subst (λ (b : AnswerDoc). EndsFine (stage_after verifies s (at.ReadRoot w) b)) is fine))
  fine-of s (at.Fetch w r) k (got.Stored x) next shows h fine = absurd (no-stored r x h.0)
  fine-of s (at.Fetch w r) k (got.Moment time) next shows h fine = absurd (no-moment r time h.0)
  fine-of s (at.Fetch w r) k (got.Bytes bytes) next shows h fine = tt
  fine-of s (at.Fetch w r) k (got.NotStarted f) next shows h fine = started w r.name f fine
  fine-of s (at.Fetch w r) k (got.Cut f) next shows h fine = cut w r.name f fine
  fine-of s (at.Fetch w r) k (got.Step x) next shows h fine = absurd (no-step r x h.0)
  fine-of s (at.Step p) k a next shows (x, is, h, still) fine =
      subst (IsFine now) (sym is) (taken-fine s p x (subst (λ (b : AnswerDoc). EndsFine (stage_after verifies s (at.Step p) b)) is fine))
  fine-of s (at.Done r) k a next shows h fine = absurd h
  fine-of s at.Taken k a next shows h fine = absurd h

  nothing-follows : (q : Question) (k : Held K Receipt C) (a : AnswerDoc) (next : Held K Receipt C) → q ≡ ask.Ready → May q k a next → ⊥
  nothing-follows q k a next is h = subst (λ (x : Question). May x k a next) is h

  -- an update that has failed stays so
  spent : (f : Failure) (rest : List AnswerDoc) (c : CoreDoc) (k : Held K Receipt C) (last : CoreDoc) (kept : Held K Receipt C) → c.stage ≡ at.Done (Err f)
      → Leads refuses serves keeps reads may_give yields verifies base t c k rest last kept → last.stage ≡ at.Done (Err f)
  spent f [] c k last kept is h = ap (λ (d : CoreDoc). d.stage) h.0 ∙ is
  spent f (a ∷ rest) c k last kept is h = absurd (nothing-follows (question c) k a h.1 (ap (question_at c.setting.enforced) is) h.2)

  told-fine : (f : Failure) (last : CoreDoc) (o : Result LoadedDoc Failure) → last.stage ≡ at.Done (Err f) → ended last.stage ≡ Some o → IsFineOutcome o → IsNoFault f
  told-fine f last o is end fine =
      let same : Some o ≡ Some (Err f) = sym end ∙ ap ended is in
      let outcome : o ≡ Err f = cc (same) in
      subst IsFineOutcome outcome fine

  -- the first answer is this moment
  abbrev pub Begins : List AnswerDoc → Type 0
  Begins [] = ⊤
  Begins (a ∷ rest) = a ≡ got.Moment now

  pub all-fine : (answers : List AnswerDoc) (c : CoreDoc) (k : Held K Receipt C) (last : CoreDoc) (kept : Held K Receipt C) (o : Result LoadedDoc Failure)
      → Leads refuses serves keeps reads may_give yields verifies base t c k answers last kept → (c.stage ≡ at.Moment → Begins answers) → ended last.stage ≡ Some o → IsFineOutcome o → AllFine now answers
  all-fine [] c k last kept o h shows end fine = tt
  all-fine (a ∷ rest) c k last kept o (mid, next, may, inl goes, led) shows end fine = (
    fine-of c.setting c.stage k a next shows may (λ f is. told-fine f last o (spent f rest mid next last kept (ap (λ (m : CoreDoc). m.stage) goes ∙ is) led) end fine),
    all-fine rest mid next last kept o led (λ is. absurd (asked-once c.setting c.stage k a next may (sym (ap (λ (m : CoreDoc). m.stage) goes) ∙ is))) end fine,
  )
  all-fine (a ∷ rest) c k last kept o (mid, next, may, inr goes, led) shows end fine =
      absurd (told-fine Memory last o (spent Memory rest mid next last kept (ap (λ (m : CoreDoc). m.stage) goes) led) end fine)

  -- an update that has ended was answered its moment first, which the clock may show
  pub first-moment : (answers : List AnswerDoc) (c : CoreDoc) (k : Held K Receipt C) (last : CoreDoc) (kept : Held K Receipt C) (o : Result LoadedDoc Failure) → c.stage ≡ at.Moment
      → Leads refuses serves keeps reads may_give yields verifies base t c k answers last kept → ended last.stage ≡ Some o
      → (time : ℤ) × may_give k.clock time × ((rest : List AnswerDoc) × (answers ≡ got.Moment time ∷ rest))
  first-moment [] c k last kept o is h end = absurd (cc (sym end ∙ ap (λ (m : CoreDoc). ended m.stage) h.0 ∙ ap ended is))
  first-moment (a ∷ rest) c k last kept o is (mid, next, may, goes, led) end =
      let m = subst (λ (x : StageDoc). May (question_at c.setting.enforced x) k a next) is may in
      (m.0, m.2, (rest, ap (λ (x : AnswerDoc). x ∷ rest) m.1))
