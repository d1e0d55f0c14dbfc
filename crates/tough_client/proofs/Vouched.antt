-- What a load vouches for, of the repository that is made of it.
use Rattle.std.specs.Prelude.{◌≡◌, ℤ, Result, Ok, IfOk}
use Rattle.std.proofs.Common.{ap, sym, subst, ◌∙◌}
use Rattle.url.specs.Parts.{Parts}
use Rattle.futures.specs.Runs.{Runs}
use Rattle.tough_keys.specs.Same.{Verifies}
use Rattle.tough_checks.specs.declared.checks.StepError.{StepError}
use Rattle.tough_vault.specs.Act.{Act}
use Rattle.tough_net.specs.declared.error.TransportError.{TransportError}
use Rattle.tough_net.specs.Items.{Item}
use Rattle.tough_trust.specs.declared.error.UpdateError.{UpdateError}
use Rattle.tough_trust.specs.Steps.{ReadsRoot}
use Rattle.tough_update.specs.declared.stage.Loaded.{Loaded}
use Rattle.tough_update.specs.Stages.{CoreDoc}
use Rattle.tough_update.specs.View.{loaded_doc, outcome_doc}
use Rattle.tough_load.specs.declared.load.Load.{Load}
use Rattle.tough_load.specs.Loading.{Held}
use Rattle.tough_load.specs.Vouching.{Vouches}
use Rattle.tough_load.specs.Words as load
use Rattle.tough_client.specs.declared.repository.Repository.{Repository}
use Rattle.tough_client.specs.Repositories.{IsMadeOf, receipts_of, keeper_of, clock_of, held_of}

-- a repository holds what the load held that it is made of
pub made-held : {T K C V S R : Type 0} (l : Load T K C V S R) (d : Loaded) (r : Repository T K C R) → IsMadeOf l d r → held_of r ≡ load.held_of l
made-held l d r h =
    ap (λ x. record { keeping = record { keeper = x; receipts = receipts_of r }; clock = clock_of r }) h.keeper
    ∙ (ap (λ x. record { keeping = record { keeper = load.keeper_of l; receipts = x }; clock = clock_of r }) h.receipts
    ∙ ap (λ x. record { keeping = record { keeper = load.keeper_of l; receipts = load.receipts_of l }; clock = x }) h.clock)

module _ {T S K R C : Type 0} (refuses : T → Parts → TransportError → Type 0) (serves : T → Parts → Runs Item) (keeps : Verifies → K → Act → Result R StepError → K → Type 0) (reads : ReadsRoot K) (may_give : C → ℤ → Type 0) (yields : S → Runs Item)
    (verifies : Verifies) (base : Parts) (t : T) (c : CoreDoc) (k : Held K R C) where
  -- the same keeper and clock, and the same documents
  pub vouched-same : (o : Result Loaded UpdateError) (left : CoreDoc) (kept kept' : Held K R C) (l l' : Loaded) → o ≡ Ok l → kept' ≡ kept → l' ≡ l
      → IfOk (outcome_doc o) (Vouches refuses serves keeps reads may_give yields verifies base t c k left kept) → Vouches refuses serves keeps reads may_give yields verifies base t c k left kept' (loaded_doc l')
  vouched-same o left kept kept' l l' is same these h =
      let P : Result Loaded UpdateError → Type 0 = λ x. IfOk (outcome_doc x) (Vouches refuses serves keeps reads may_give yields verifies base t c k left kept) in
      let Q : Held K R C → Type 0 = λ x. Vouches refuses serves keeps reads may_give yields verifies base t c k left x (loaded_doc l) in
      let W : Loaded → Type 0 = λ x. Vouches refuses serves keeps reads may_give yields verifies base t c k left kept' (loaded_doc x) in
      subst W (sym these) (subst Q (sym same) (subst P is h))
