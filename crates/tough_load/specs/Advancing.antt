-- How a load goes on.
use Rattle.std.specs.Prelude.{◌≡◌, ℤ, Result}
use Rattle.url.specs.Parts.{Parts}
use Rattle.futures.specs.Runs.{Runs}
use Rattle.tough_keys.specs.Same.{Verifies}
use Rattle.tough_checks.specs.declared.checks.StepError.{StepError}
use Rattle.tough_vault.specs.Act.{Act}
use Rattle.tough_net.specs.declared.error.TransportError.{TransportError}
use Rattle.tough_net.specs.Items.{Item}
use Rattle.tough_trust.specs.Failure.{Failure}
use Rattle.tough_trust.specs.Steps.{ReadsRoot}
use Rattle.tough_update.specs.Stages.{LoadedDoc, CoreDoc}
use Rattle.tough_update.specs.View.{core_doc, counts_of}
use Rattle.tough_load.specs.declared.load.Load.{Load}
use Rattle.tough_load.specs.Loading.{Held, Reaches, Ends, Gives, Walks}
use Rattle.tough_load.specs.Counting.{HasCounted, EndsCounting}
use Rattle.tough_load.specs.Words.{transport_of, base_of, verifier_of, settings_of, keeping_of, held_of, core_of, fetch_of}

module _ {T K C V S R : Type 0} (refuses : T → Parts → TransportError → Type 0) (serves : T → Parts → Runs Item) (keeps : Verifies → K → Act → Result R StepError → K → Type 0) (reads : ReadsRoot K) (may_give : C → ℤ → Type 0) (yields : S → Runs Item)
    (verifies : V → Verifies) where
  -- the machine, the keeper and the clock that a load may come to
  abbrev pub MayReach : Load T K C V S R → CoreDoc → Held K R C → Type 0
  MayReach l = Reaches refuses serves keeps reads may_give yields (verifies (verifier_of l)) (base_of l) (transport_of l) (fetch_of l) (core_doc (core_of l)) (held_of l)

  -- the outcomes that it may give
  abbrev pub MayGive : Load T K C V S R → Result LoadedDoc Failure → Type 0
  MayGive l = Gives refuses serves keeps reads may_give yields (verifies (verifier_of l)) (base_of l) (transport_of l) (fetch_of l) (core_doc (core_of l)) (held_of l)

  -- what it was given is still there, and steps led its keeper on, with a receipt of each that succeeded
  pub record Stays (old new : Load T K C V S R) : Type 0 where
    pub transport : transport_of new ≡ transport_of old
    pub base : base_of new ≡ base_of old
    pub verifier : verifier_of new ≡ verifier_of old
    pub settings : settings_of new ≡ settings_of old
    pub setting : (core_doc (core_of new)).setting ≡ (core_doc (core_of old)).setting
    pub walked : Walks keeps reads (verifies (verifier_of old)) (keeping_of old) (keeping_of new)

  -- what it may come to now, it might have come to before; and it counts on
  pub record Advances (old new : Load T K C V S R) : Type 0 where
    pub stays : Stays old new
    pub follows : (c : CoreDoc) (k : Held K R C) → MayReach new c k → MayReach old c k
    pub counted : HasCounted (verifies (verifier_of old)) (core_of old) → HasCounted (verifies (verifier_of old)) (core_of new)

  -- it came to this outcome, and its counts to these
  pub record Finishes (old : Load T K C V S R) (outcome : Result LoadedDoc Failure) (new : Load T K C V S R) : Type 0 where
    pub stays : Stays old new
    pub ends : Ends refuses serves keeps reads may_give yields (verifies (verifier_of old)) (base_of old) (transport_of old) (fetch_of old) (core_doc (core_of old)) (held_of old) outcome (core_doc (core_of new)) (held_of new)
    pub counted : HasCounted (verifies (verifier_of old)) (core_of old) → EndsCounting (verifies (verifier_of old)) (core_doc (core_of old)).setting outcome (counts_of (core_of new))
