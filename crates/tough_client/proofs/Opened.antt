-- What a load that ended gives is what its repository, or its error, tells.
use Rattle.std.specs.Prelude.{◌≡◌, ℤ, refl, Result, Ok, Err, Some}
use Rattle.std.proofs.Common.{sym, subst}
use Rattle.url.specs.Parts.{Parts}
use Rattle.futures.specs.Runs.{Runs}
use Rattle.tough_keys.specs.Same.{Verifies}
use Rattle.tough_checks.specs.declared.checks.StepError.{StepError}
use Rattle.tough_vault.specs.Act.{Act}
use Rattle.tough_net.specs.declared.error.TransportError.{TransportError}
use Rattle.tough_net.specs.Items.{Item}
use Rattle.tough_trust.specs.declared.error.UpdateError.{UpdateError}
use Rattle.tough_trust.specs.Failure.{failure_of}
use Rattle.tough_trust.specs.Steps.{ReadsRoot}
use Rattle.tough_update.specs.declared.stage.Loaded.{Loaded}
use Rattle.tough_update.specs.View.{loaded_doc, outcome_doc}
use Rattle.tough_load.specs.declared.load.Load.{Load}
use Rattle.tough_load.specs.Advancing.{Finishes}
use Rattle.tough_error.specs.declared.error.Error.{Error}
use Rattle.tough_client.specs.declared.repository.Repository.{Repository}
use Rattle.tough_trust.specs.Wide.{failure_in}
use Rattle.tough_client.specs.Opening.{Opens}
use Rattle.tough_client.specs.Repositories.{IsMadeOf, documents_of}

module _ {T K C V S R : Type 0} (refuses : T → Parts → TransportError → Type 0) (serves : T → Parts → Runs Item) (keeps : Verifies → K → Act → Result R StepError → K → Type 0) (reads : ReadsRoot K) (may_give : C → ℤ → Type 0) (yields : S → Runs Item)
    (verifies : V → Verifies) (old : Load T K C V S R) (o : Result Loaded UpdateError) (l : Load T K C V S R) (finishes : Finishes refuses serves keeps reads may_give yields verifies old (outcome_doc o) l) where
  -- a repository of the documents that were loaded
  pub opened : (documents : Loaded) (r : Repository T K C R) → o ≡ Ok documents → IsMadeOf l documents r → Opens refuses serves keeps reads may_give yields verifies old (Ok r)
  opened documents r is made =
      let P : Result Loaded UpdateError → Type 0 = λ x. Finishes refuses serves keeps reads may_give yields verifies old (outcome_doc x) l in
      let Q : Loaded → Type 0 = λ x. IsMadeOf l x r in
      record {
        outcome = Ok (documents_of r);
        ended = l;
        finishes = subst (λ x. Finishes refuses serves keeps reads may_give yields verifies old (Ok (loaded_doc x)) l) (sym made.loaded) (subst P is finishes);
        told = record { made = subst Q (sym made.loaded) made; holds = refl };
      }

  -- the error that tells its failure
  pub refused : (e : UpdateError) (told : Error) → o ≡ Err e → failure_in told ≡ Some (failure_of e) → Opens refuses serves keeps reads may_give yields verifies old (Err told)
  refused e told is tells =
      let P : Result Loaded UpdateError → Type 0 = λ x. Finishes refuses serves keeps reads may_give yields verifies old (outcome_doc x) l in
      record { outcome = Err (failure_of e); ended = l; finishes = subst P is finishes; told = tells }
