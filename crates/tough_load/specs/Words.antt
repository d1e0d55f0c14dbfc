-- The parts of a load.
use Rattle.std.specs.Prelude.{Bool, List, Option}
use Rattle.url.specs.Parts.{Parts}
use Rattle.tough_net.specs.declared.collect.Collect.{Collect}
use Rattle.tough_checks.specs.Checks.{enforces}
use Rattle.tough_net.specs.declared.limits.Limits.{Limits}
use Rattle.tough_update.specs.declared.machine.Core.{Core}
use Rattle.tough_trust.specs.Steps.{Keeping}
use Rattle.tough_load.specs.Loading.{Held}
use Rattle.tough_load.specs.declared.load.Load.{Load}
use Rattle.tough_load.specs.declared.run.LoadRun.{LoadRun}

-- what a load keeps for whoever reads targets after it
pub record SettingsKept : Type 0 where
  pub targets_base : Parts
  pub limits : Limits
  -- whether documents that have expired are refused
  pub enforced : Bool

module _ {T K C V S R : Type 0} where
  -- its machine
  abbrev pub core_of : Load T K C V S R → Core
  core_of l = l.core

  -- the fetch that runs, if one does
  abbrev pub fetch_of : Load T K C V S R → Option (Collect S)
  fetch_of l = l.fetch

  -- the URL that files' names are joined to
  abbrev pub base_of : Load T K C V S R → Parts
  base_of l = l.base

  -- what it isn't asked for itself
  abbrev pub settings_of : Load T K C V S R → SettingsKept
  settings_of l = record { targets_base = l.targets_base; limits = l.limits; enforced = enforces l.enforcement }

  abbrev pub transport_of : Load T K C V S R → T
  transport_of l = l.transport

  abbrev pub verifier_of : Load T K C V S R → V
  verifier_of l = l.verifier

  abbrev pub clock_of : Load T K C V S R → C
  clock_of l = l.clock

  abbrev pub keeper_of : Load T K C V S R → K
  keeper_of l = l.keeper

  -- what the steps that it took were told
  abbrev pub receipts_of : Load T K C V S R → List R
  receipts_of l = l.receipts.items

  -- the keeper, with those
  abbrev pub keeping_of : Load T K C V S R → Keeping K R
  keeping_of l = record { keeper = keeper_of l; receipts = receipts_of l }

  -- these and the clock
  abbrev pub held_of : Load T K C V S R → Held K R C
  held_of l = record { keeping = keeping_of l; clock = clock_of l }

  -- the load that a run still has
  abbrev pub running_in : LoadRun T K C V S R → Option (Load T K C V S R)
  running_in m = m.load
