-- How steps follow one another.
use Rattle.std.specs.Prelude.{◌≡◌, ℕ, Option, List, [], ◌∷◌, ◌++◌, Result, Ok, Err}
use Rattle.std.proofs.Common.{refl, sym, ap, ◌∙◌, inl, inr, append_assoc}
use Rattle.std.proofs.lemmas.List.{append-nil}
use Rattle.tough_keys.specs.Same.{Verifies}
use Rattle.tough_roles.specs.Root.{RootDoc}
use Rattle.tough_roles.specs.Signature.{SignedDoc}
use Rattle.tough_checks.specs.declared.checks.StepError.{StepError}
use Rattle.tough_vault.specs.Act.{Act}
use Rattle.tough_trust.specs.Failure.{Failure}
use Rattle.tough_trust.specs.Steps.{Keeping, ReadsRoot, TakesStep}
use Rattle.tough_load.specs.Loading.{with_receipt, Deed, Stepped, Looked, received, Trail, Walks}

module _ {K R : Type 0} (keeps : Verifies → K → Act → Result R StepError → K → Type 0) (reads : ReadsRoot K) (verifies : Verifies) where
  pub Walks_same : (k new : Keeping K R) → new ≡ k → Walks keeps reads verifies k new
  Walks_same k new e = ([], e)

  Walks_step : (k new : Keeping K R) (act : Act) (r : Result R StepError) → keeps verifies k.keeper act r new.keeper → new.receipts ≡ with_receipt r k.receipts → Walks keeps reads verifies k new
  Walks_step k new act r h e = (Stepped act r ∷ [], (new, h, e, refl))

  pub look-walks : (first : ℕ) (r : Result (Option (SignedDoc RootDoc)) StepError) (k new : Keeping K R) → reads verifies k.keeper first r new.keeper → new.receipts ≡ k.receipts → Walks keeps reads verifies k new
  look-walks first r k new h e = (Looked first r ∷ [], (new, h, e, refl))

  same-keeping : (k new : Keeping K R) → new.keeper ≡ k.keeper → new.receipts ≡ k.receipts → new ≡ k
  same-keeping k new e f = ap (λ x. record { keeper = x; receipts = new.receipts }) e ∙ ap (λ x. record { keeper = k.keeper; receipts = x }) f

  -- the step that was taken, if one was
  pub step-walks : (act : Act) (k new : Keeping K R) (s : Result Unit Failure) → TakesStep keeps verifies act k s new → Walks keeps reads verifies k new
  step-walks act k new (Ok u) (r, put, held) = Walks_step k new act (Ok r) held put
  step-walks act k new (Err f) (inl (Ok r, d, held), none) = absurd (cc (d))
  step-walks act k new (Err f) (inl (Err e, d, held), none) = Walks_step k new act (Err e) held none
  step-walks act k new (Err f) (inr (d, same), none) = Walks_same k new (same-keeping k new same none)

  Trail-append : (ps qs : List (Deed R)) (k mid new : Keeping K R) → Trail keeps reads verifies k ps mid → Trail keeps reads verifies mid qs new → Trail keeps reads verifies k (ps ++ qs) new
  Trail-append [] qs k mid new h l = rw h at l
  Trail-append (Stepped act r ∷ ps) qs k mid new h l = (h.0, h.1, h.2, Trail-append ps qs h.0 mid new h.3 l)
  Trail-append (Looked first r ∷ ps) qs k mid new h l = (h.0, h.1, h.2, Trail-append ps qs h.0 mid new h.3 l)

  pub Walks-trans : (k mid new : Keeping K R) → Walks keeps reads verifies k mid → Walks keeps reads verifies mid new → Walks keeps reads verifies k new
  Walks-trans k mid new h l = (h.0 ++ l.0, Trail-append h.0 l.0 k mid new h.1 l.1)

  -- what is put by, with what follows
  put-by : (r : Result R StepError) (before rest : List R) → with_receipt r before ++ rest ≡ before ++ (with_receipt r [] ++ rest)
  put-by (Ok x) before rest = append_assoc before (x ∷ []) rest
  put-by (Err e) before rest = refl

  pub trail-receipts : (k : Keeping K R) (ps : List (Deed R)) (new : Keeping K R) → Trail keeps reads verifies k ps new → new.receipts ≡ k.receipts ++ received ps
  trail-receipts k [] new h = ap (λ (x : Keeping K R). x.receipts) h ∙ sym (append-nil k.receipts)
  trail-receipts k (Stepped act r ∷ ps) new h =
      trail-receipts h.0 ps new h.3 ∙ (ap (λ (x : List R). x ++ received ps) h.2 ∙ put-by r k.receipts (received ps))
  trail-receipts k (Looked first r ∷ ps) new h = trail-receipts h.0 ps new h.3 ∙ ap (λ (x : List R). x ++ received ps) h.2
