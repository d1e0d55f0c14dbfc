-- A load that is taken apart.
use Rattle.std.specs.Prelude.{◌≡◌}
use Rattle.tough_checks.specs.Checks.{enforces}
use Rattle.tough_load.specs.declared.load.Load.{Load}
use Rattle.tough_load.specs.declared.load.LoadParts.{LoadParts}
use Rattle.tough_load.specs.Words.{transport_of, keeper_of, clock_of, base_of, settings_of, receipts_of}

-- what the load was given, as its steps left it
pub record IsTakenApart {T K C V S R : Type 0} (l : Load T K C V S R) (p : LoadParts T K C R) : Type 0 where
  pub transport : p.transport ≡ transport_of l
  pub keeper : p.keeper ≡ keeper_of l
  pub clock : p.clock ≡ clock_of l
  pub metadata_base : p.metadata_base_url ≡ base_of l
  pub settings : settings_of l ≡ record { targets_base = p.targets_base_url; limits = p.limits; enforced = enforces p.enforcement }
  pub receipts : p.receipts.items ≡ receipts_of l
