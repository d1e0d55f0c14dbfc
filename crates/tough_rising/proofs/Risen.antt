-- Receipts go on to rise, step by step.
use Rattle.std.proofs.Common.{◌≡◌, ◌≤◌, ◌<◌, ◌+◌, ◌++◌, ℕ, List, [], ◌∷◌, Option, Result, Ok, Err, sym, subst, arith}
use Rattle.tough_keys.specs.Same.{Verifies}
use Rattle.tough_roles.specs.Root.{RootDoc}
use Rattle.tough_roles.specs.Signature.{SignedDoc}
use Rattle.tough_checks.specs.declared.checks.StepError.{StepError}
use Rattle.tough_vault.specs.Act.{Act}
use Rattle.tough_trust.specs.Failure.{Failure}
use Rattle.tough_trust.specs.Steps.{Keeping, ReadsRoot, TakesStep}
use Rattle.tough_update.specs.Stages.{LoadedDoc}
use Rattle.tough_load.specs.declared.load.Load.{Load}
use Rattle.tough_load.specs.Loading.{with_receipt, Deed, Stepped, Looked, Trail, Walks}
use Rattle.tough_load.specs.Words as load
use Rattle.tough_load.proofs.Trails.{step-walks}
use Rattle.tough_client.specs.declared.repository.Repository.{Repository}
use Rattle.tough_client.specs.Repositories as client
use Rattle.tough_client.specs.Opening.{Tells}
use Rattle.tough_rising.specs.Rising.{Rise, AllBelow, RiseBelow}

module _ {R : Type 0} (number : R → ℕ) where
  -- no receipt rises
  pub none : (least : ℕ) (rs : List R) → rs ≡ [] → RiseBelow number least rs
  none least [] e = (tt, tt)
  none least (r ∷ rs) e = absurd (cc (e))

  higher : (a b : ℕ) (rs : List R) → a ≤ b → AllBelow number a rs → AllBelow number b rs
  higher a b [] le h = tt
  higher a b (r ∷ rs) le h = (omega (arith, le, h.0), higher a b rs le h.1)

  -- one more, behind all of them
  rise-more : (least : ℕ) (r : R) (rs : List R) → least ≤ number r → Rise number rs → AllBelow number least rs → Rise number (rs ++ r ∷ [])
  rise-more least r [] le h b = tt
  rise-more least r (x ∷ []) le h b = (omega (arith, le, b.0), tt)
  rise-more least r (x ∷ y ∷ rs) le h b = (h.0, rise-more least r (y ∷ rs) le h.1 b.1)

  below-more : (least next : ℕ) (r : R) (rs : List R) → least ≤ number r → number r + 1 ≤ next → AllBelow number least rs → AllBelow number next (rs ++ r ∷ [])
  below-more least next r [] le lt b = (omega (arith, lt), tt)
  below-more least next r (x ∷ rs) le lt b = (omega (arith, le, lt, b.0), below-more least next r rs le lt b.1)

  module _ {K : Type 0} (keeps : Verifies → K → Act → Result R StepError → K → Type 0) (reads : ReadsRoot K) (next : K → ℕ) (verifies : Verifies)
      (rises : (k : K) (act : Act) (r : R) (new : K) → keeps verifies k act (Ok r) new → (next k ≤ number r) × (number r + 1 ≤ next new))
      (stays : (k : K) (act : Act) (e : StepError) (new : K) → keeps verifies k act (Err e) new → next k ≤ next new)
      (looks : (k : K) (first : ℕ) (r : Result (Option (SignedDoc RootDoc)) StepError) (new : K) → reads verifies k first r new → next k ≤ next new) where
    one : (result : Result R StepError) (k new : Keeping K R) (act : Act) → keeps verifies k.keeper act result new.keeper → new.receipts ≡ with_receipt result k.receipts
        → RiseBelow number (next k.keeper) k.receipts → RiseBelow number (next new.keeper) new.receipts
    one (Ok r) k new act h e i =
        let x = rises k.keeper act r new.keeper h in
        subst (λ (rs : List R). RiseBelow number (next new.keeper) rs) (sym e)
        (rise-more (next k.keeper) r k.receipts x.0 i.0 i.1, below-more (next k.keeper) (next new.keeper) r k.receipts x.0 x.1 i.1)
    one (Err f) k new act h e i =
        subst (λ (rs : List R). RiseBelow number (next new.keeper) rs) (sym e)
        (i.0, higher (next k.keeper) (next new.keeper) k.receipts (stays k.keeper act f new.keeper h) i.1)

    along : (ps : List (Deed R)) (k new : Keeping K R) → Trail keeps reads verifies k ps new
        → RiseBelow number (next k.keeper) k.receipts → RiseBelow number (next new.keeper) new.receipts
    along [] k new h i = subst (λ (x : Keeping K R). RiseBelow number (next x.keeper) x.receipts) (sym h) i
    along (Stepped act r ∷ ps) k new h i = along ps h.0 new h.3 (one r k h.0 act h.1 h.2 i)
    along (Looked first r ∷ ps) k new h i = along ps h.0 new h.3
        (subst (λ (rs : List R). RiseBelow number (next h.0.keeper) rs) (sym h.2) (i.0, higher (next k.keeper) (next h.0.keeper) k.receipts (looks k.keeper first r h.0.keeper h.1) i.1))

    pub walked : (k new : Keeping K R) → Walks keeps reads verifies k new → RiseBelow number (next k.keeper) k.receipts → RiseBelow number (next new.keeper) new.receipts
    walked k new w i = along w.0 k new w.1 i

    pub stepped : (act : Act) (k new : Keeping K R) (s : Result Unit Failure) → TakesStep keeps verifies act k s new
        → RiseBelow number (next k.keeper) k.receipts → RiseBelow number (next new.keeper) new.receipts
    stepped act k new s h i = walked k new (step-walks keeps reads verifies act k new s h) i

  module _ {T K C V S : Type 0} (next : K → ℕ) where
    -- a repository has the receipts of its load
    pub opened : (l : Load T K C V S R) (o : Result LoadedDoc Failure) (r : Repository T K C R) → Tells l o (Ok r)
        → RiseBelow number (next (load.keeper_of l)) (load.receipts_of l) → RiseBelow number (next (client.keeper_of r)) (client.receipts_of r)
    opened l (Ok d) r t i =
        subst (λ (k : K). RiseBelow number (next k) (client.receipts_of r)) (sym t.made.keeper)
        (subst (λ (rs : List R). RiseBelow number (next (load.keeper_of l)) rs) (sym t.made.receipts) i)
    opened l (Err f) r t i = absurd t
