-- What a load gives that is driven to its end: a repository, or why there is none (TUF specification 1.0, section 5).
use Rattle.std.specs.Prelude.{◌≡◌, ℤ, Result, Ok, Err, Some}
use Rattle.url.specs.Parts.{Parts}
use Rattle.futures.specs.Runs.{Runs}
use Rattle.tough_keys.specs.Same.{Verifies}
use Rattle.tough_checks.specs.declared.checks.StepError.{StepError}
use Rattle.tough_vault.specs.Act.{Act}
use Rattle.tough_net.specs.declared.error.TransportError.{TransportError}
use Rattle.tough_net.specs.Items.{Item}
use Rattle.tough_trust.specs.Failure.{Failure}
use Rattle.tough_trust.specs.Steps.{ReadsRoot}
use Rattle.tough_update.specs.Stages.{LoadedDoc, CoreDoc}
use Rattle.tough_load.specs.declared.load.Load.{Load}
use Rattle.tough_load.specs.declared.loader.RepositoryLoader.{RepositoryLoader}
use Rattle.tough_load.specs.Advancing.{Finishes}
use Rattle.tough_load.specs.Loader.{first_core, settings_of, transport_of, verifier_of}
use Rattle.tough_load.specs.Loader as loader
use Rattle.tough_load.specs.Vouching.{Vouches}
use Rattle.tough_error.specs.declared.error.Error.{Error}
use Rattle.tough_client.specs.declared.repository.Repository.{Repository}
use Rattle.tough_trust.specs.Wide.{failure_in}
use Rattle.tough_client.specs.Repositories.{IsMadeOf, loaded_of, documents_of, held_of}

module _ {T K C V S R : Type 0} where
  -- a repository of these documents, with every part of a load
  pub record IsOpened (l : Load T K C V S R) (documents : LoadedDoc) (r : Repository T K C R) : Type 0 where
    pub made : IsMadeOf l (loaded_of r) r
    pub holds : documents_of r ≡ documents

  -- what is answered of a load that ended so, with this outcome: the repository of its documents, or the error that tells its failure
  abbrev pub Tells : Load T K C V S R → Result LoadedDoc Failure → Result (Repository T K C R) Error → Type 0
  Tells l (Ok documents) (Ok r) = IsOpened l documents r
  Tells l (Err failure) (Err e) = failure_in e ≡ Some failure
  Tells _ _ _ = ⊥

module _ {T K C V S R : Type 0} (refuses : T → Parts → TransportError → Type 0) (serves : T → Parts → Runs Item) (keeps : Verifies → K → Act → Result R StepError → K → Type 0) (reads : ReadsRoot K) (may_give : C → ℤ → Type 0) (yields : S → Runs Item)
    (verifies : V → Verifies) where
  -- the load came to an outcome, and this answer tells it
  pub record Opens (old : Load T K C V S R) (answer : Result (Repository T K C R) Error) : Type 0 where
    pub outcome : Result LoadedDoc Failure
    pub ended : Load T K C V S R
    pub finishes : Finishes refuses serves keeps reads may_give yields verifies old outcome ended
    pub told : Tells ended outcome answer

module _ {T V C K S R : Type 0} (refuses : T → Parts → TransportError → Type 0) (serves : T → Parts → Runs Item) (keeps : Verifies → K → Act → Result R StepError → K → Type 0) (reads : ReadsRoot K) (may_give : C → ℤ → Type 0) (yields : S → Runs Item)
    (verifies : V → Verifies) where
  -- the load that this loader began, over files below this URL, vouches for the documents of the repository
  abbrev pub VouchesFor : RepositoryLoader T V C K → Parts → Repository T K C R → Type 0
  VouchesFor from base r =
      (left : CoreDoc)
      × Vouches refuses serves keeps reads may_give yields (verifies (verifier_of from)) base (transport_of from) (first_core (settings_of from)) (loader.held_of from) left (held_of r) (documents_of r)
