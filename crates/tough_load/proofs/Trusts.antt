-- A load that succeeds is a run of the machine that succeeds, on answers that keep their promises.
use Rattle.std.specs.Prelude.{◌≡◌, ◌≤◌, ℕ, List, [], ◌∷◌, length, Option, Some, None, IfOk, ℤ, Bool, true, false, IsTrue, ◌&&◌, nat_le, Result, Ok, Err}
use Rattle.std.proofs.Common.{sym, ap, ◌∙◌, subst, inl, inr, arith}
use Rattle.std.proofs.lemmas.Bool.Decides.{nat_tests}
use Rattle.url.specs.Parts.{Parts}
use Rattle.futures.specs.Runs.{Runs}
use Rattle.tough_keys.specs.Same.{Verifies}
use Rattle.tough_checks.specs.declared.checks.StepError.{StepError}
use Rattle.tough_net.specs.declared.error.TransportError.{TransportError}
use Rattle.tough_net.specs.declared.collect.Collect.{Collect}
use Rattle.tough_net.specs.Items.{Item}
use Rattle.tough_net.specs.Collecting.{Fits}
use Rattle.tough_trust.specs.Failure.{Failure, Memory}
use Rattle.tough_net.proofs.lemmas.Digests.{digests-true}
use Rattle.tough_trust.specs.Requests.{RequestDoc, fits_request}
use Rattle.tough_trust.specs.Steps.{ReadsRoot}
use Rattle.tough_update.specs.Stages.{LoadedDoc, StageDoc, CoreDoc}
use Rattle.tough_update.specs.Stages as at
use Rattle.tough_update.specs.Questions.{Question}
use Rattle.tough_update.specs.Questions as ask
use Rattle.tough_update.specs.Answered.{AnswerDoc}
use Rattle.tough_update.specs.Answered as got
use Rattle.tough_update.specs.Machine.{question, question_at}
use Rattle.tough_update.specs.Runs.{Keeps, run, Along, IsFresh}
use Rattle.tough_update.proofs.lemmas.Whole.{loaded}
use Rattle.tough_roles.specs.Root.{RootDoc}
use Rattle.tough_roles.specs.Signature.{SignedDoc}
use Rattle.tough_vault.specs.Act.{Act}
use Rattle.tough_vault.specs.Looking.{VouchesRoot, VouchesLook}
use Rattle.tough_trust.specs.Checking.{CheckedIfOk}
use Rattle.tough_load.specs.Fetching.{Fetches, bounds}
use Rattle.tough_load.specs.Loading.{Held, Allows, Leads, Ends}
use Rattle.tough_load.specs.Vouching.{Vouches}
use Rattle.tough_load.proofs.Going.{keeps-setting, done-at}

both-true : (b c : Bool) → b ≡ true → c ≡ true → IsTrue (b && c)
both-true true c h k = k
both-true false c h k = absurd (cc (h))

within : (n m : ℕ) → n ≤ m → nat_le n m ≡ true
within n m h = grind (arith, nat_tests)

fits-true : (url : Parts) (r : RequestDoc) (bytes : List ℕ) → Fits (bounds url r) bytes → IsTrue (fits_request r bytes)
fits-true url r bytes h = both-true _ _ (within (length bytes) r.max_size h.0) (digests-true r.digests bytes h.1)

module _ {T S K R C : Type 0} (refuses : T → Parts → TransportError → Type 0) (serves : T → Parts → Runs Item) (keeps : Verifies → K → Act → Result R StepError → K → Type 0) (reads : ReadsRoot K) (may_give : C → ℤ → Type 0) (yields : S → Runs Item)
    (verifies : Verifies) (base : Parts) (t : T) where
  nothing-follows : (q : Question) (k : Held K R C) (a : AnswerDoc) (next : Held K R C) → q ≡ ask.Ready → Allows refuses serves keeps reads may_give yields verifies base t q k a next → ⊥
  nothing-follows q k a next is h = subst (λ (x : Question). Allows refuses serves keeps reads may_give yields verifies base t x k a next) is h

  -- where memory was wanting, that is how it ends
  pub spent : (answers : List AnswerDoc) (c : CoreDoc) (k : Held K R C) (c' : CoreDoc) (k' : Held K R C) → c.stage ≡ at.Done (Err Memory)
      → Leads refuses serves keeps reads may_give yields verifies base t c k answers c' k' → c'.stage ≡ at.Done (Err Memory)
  spent [] c k c' k' is h = ap (λ (d : CoreDoc). d.stage) h.0 ∙ is
  spent (a ∷ rest) c k c' k' is h = absurd (nothing-follows (question c) k a h.1 (ap (question_at c.setting.enforced) is) h.2)

module _ {T S K R C : Type 0} (refuses : T → Parts → TransportError → Type 0) (serves : T → Parts → Runs Item) (keeps : Verifies → K → Act → Result R StepError → K → Type 0) (reads : ReadsRoot K) (may_give : C → ℤ → Type 0) (yields : S → Runs Item)
    (verifies : Verifies) (base : Parts) (t : T)
    (checks : (old : K) (act : Act) (r : Result R StepError) (new : K) → keeps verifies old act r new → CheckedIfOk verifies act r)
    (vouches : (old : K) (first : ℕ) (r : Result (Option (SignedDoc RootDoc)) StepError) (new : K) → reads verifies old first r new → VouchesLook verifies first r) where
  fetched-fits : (r : RequestDoc) (bytes : List ℕ) → Fetches refuses serves t base r (got.Bytes bytes) → IsTrue (fits_request r bytes)
  fetched-fits r bytes (inl h) = absurd (cc (h.1))
  fetched-fits r bytes (inr (inl h)) = absurd (cc (h.1))
  fetched-fits r bytes (inr (inr (url, is, inl h))) = absurd (cc (h.1))
  fetched-fits r bytes (inr (inr (url, is, inr (Ok v, e, h)))) = subst (λ (b : List ℕ). IsTrue (fits_request r b)) (cc (e)) (fits-true url r v.items h.3)
  fetched-fits r bytes (inr (inr (url, is, inr (Err x, e, h)))) = absurd (cc (e))

  allowed-keeps : (q : Question) (k : Held K R C) (a : AnswerDoc) (next : Held K R C) → Allows refuses serves keeps reads may_give yields verifies base t q k a next → Keeps verifies q a
  allowed-keeps (ask.Stored first) k (got.Stored (Ok o)) next (Ok x, e, held, put, same) = subst (VouchesRoot verifies first) (cc (e)) (vouches k.keeping.keeper first (Ok x) next.keeping.keeper held)
  allowed-keeps (ask.Stored first) k (got.Stored (Ok o)) next (Err f, e, held, put, same) = absurd (cc (e))
  allowed-keeps (ask.Fetch r) k (got.Bytes bytes) next h = fetched-fits r bytes h.0
  allowed-keeps (ask.Step act) k (got.Step (Ok u)) next (Ok w, e, (r, put, held), same) = checks k.keeping.keeper act (Ok r) next.keeping.keeper held
  allowed-keeps (ask.Step act) k (got.Step (Ok u)) next (Err f, e, h, same) = absurd (cc (e))
  allowed-keeps q k a next h = tt

  pub leads-run : (answers : List AnswerDoc) (c : CoreDoc) (k : Held K R C) (c' : CoreDoc) (k' : Held K R C) (l : LoadedDoc) → c'.stage ≡ at.Done (Ok l)
      → Leads refuses serves keeps reads may_give yields verifies base t c k answers c' k' → ((run verifies c answers).stage ≡ at.Done (Ok l)) × Along verifies c answers
  leads-run [] c k c' k' l is h = (ap (λ (d : CoreDoc). d.stage) (sym h.0) ∙ is, tt)
  leads-run (a ∷ rest) c k c' k' l is (mid, next, allowed, inl e, more) =
      let r = leads-run rest mid next c' k' l is more in (
        ap (λ (d : CoreDoc). (run verifies d rest).stage) (sym e) ∙ r.0,
        (allowed-keeps (question c) k a next allowed, subst (λ (d : CoreDoc). Along verifies d rest) e r.1),
      )
  leads-run (a ∷ rest) c k c' k' l is (mid, next, allowed, inr e, more) =
      absurd (cc (is, spent refuses serves keeps reads may_give yields verifies base t rest mid next c' k' (ap (λ (d : CoreDoc). d.stage) e) more))

module _ {T S K R C : Type 0} (refuses : T → Parts → TransportError → Type 0) (serves : T → Parts → Runs Item) (keeps : Verifies → K → Act → Result R StepError → K → Type 0) (reads : ReadsRoot K) (may_give : C → ℤ → Type 0) (yields : S → Runs Item)
    (checks : (verifies : Verifies) (old : K) (act : Act) (r : Result R StepError) (new : K) → keeps verifies old act r new → CheckedIfOk verifies act r)
    (vouches : (verifies : Verifies) (old : K) (first : ℕ) (r : Result (Option (SignedDoc RootDoc)) StepError) (new : K) → reads verifies old first r new → VouchesLook verifies first r) where
  -- the setting stays
  leads-setting : (verifies : Verifies) (base : Parts) (t : T) (answers : List AnswerDoc) (c : CoreDoc) (k : Held K R C) (c' : CoreDoc) (k' : Held K R C)
      → Leads refuses serves keeps reads may_give yields verifies base t c k answers c' k' → c'.setting ≡ c.setting
  leads-setting verifies base t [] c k c' k' h = ap (λ (d : CoreDoc). d.setting) h.0
  leads-setting verifies base t (a ∷ rest) c k c' k' (mid, next, allowed, goes, more) =
      leads-setting verifies base t rest mid next c' k' more ∙ keeps-setting verifies c a mid goes

  -- a load that ends, with nothing fetched at its beginning, vouches for what it gives
  ends-vouches : (verifies : Verifies) (base : Parts) (t : T) (c : CoreDoc) (k : Held K R C) (o : Result LoadedDoc Failure) (left : CoreDoc) (kept : Held K R C) → IsFresh c
      → Ends refuses serves keeps reads may_give yields verifies base t None c k o left kept → IfOk o (Vouches refuses serves keeps reads may_give yields verifies base t c k left kept)
  ends-vouches verifies base t c k (Err e) left kept fresh h = tt
  ends-vouches verifies base t c k (Ok l) left kept fresh h =
      let r = leads-run refuses serves keeps reads may_give yields verifies base t (λ old act x new held. checks verifies old act x new held) (λ old first x new held. vouches verifies old first x new held) h.1.0 c k h.0 kept l (done-at _ _ h.2) h.1.1 in
      let s = leads-setting verifies base t h.1.0 c k h.0 kept h.1.1 in
      let last : h.0 ≡ record { setting = c.setting; stage = at.Done (Ok l) } = ap (λ x. record { setting = x; stage = h.0.stage }) s ∙ ap (λ x. record { setting = c.setting; stage = x }) (done-at _ _ h.2) in
      record {
        answers = h.1.0;
        allowed = subst (λ (x : CoreDoc). Leads refuses serves keeps reads may_give yields verifies base t c k h.1.0 x kept) last h.1.1;
        taken = h.3 ∙ ap (λ x. record { setting = x; stage = at.Taken }) s;
        loaded = loaded verifies c h.1.0 l fresh r.1 r.0;
      }

  -- the same, where the load's parts are those that were given
  pub vouched : {V : Type 0} (w : V → Verifies) (base : Parts) (v v' : V) (t t' : T) (c c' : CoreDoc) (k k' : Held K R C) (fetch : Option (Collect S)) (o : Result LoadedDoc Failure) (left : CoreDoc) (kept : Held K R C)
      → v ≡ v' → t ≡ t' → c ≡ c' → k ≡ k' → fetch ≡ None → IsFresh c'
      → Ends refuses serves keeps reads may_give yields (w v) base t fetch c k o left kept → IfOk o (Vouches refuses serves keeps reads may_give yields (w v') base t' c' k' left kept)
  vouched w base v v' t t' c c' k k' fetch o left kept ev et ec ek none fresh h =
      let h1 = subst (λ x. Ends refuses serves keeps reads may_give yields (w x) base t fetch c k o left kept) ev h in
      let h2 = subst (λ x. Ends refuses serves keeps reads may_give yields (w v') base x fetch c k o left kept) et h1 in
      let h3 = subst (λ x. Ends refuses serves keeps reads may_give yields (w v') base t' fetch x k o left kept) ec h2 in
      let h4 = subst (λ x. Ends refuses serves keeps reads may_give yields (w v') base t' fetch c' x o left kept) ek h3 in
      let h5 = subst (λ x. Ends refuses serves keeps reads may_give yields (w v') base t' x c' k' o left kept) none h4 in
      ends-vouches (w v') base t' c' k' o left kept fresh h5
