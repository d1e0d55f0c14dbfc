-- The parts of a loader, and the load that it makes of them.
use Rattle.std.specs.Prelude.{◌≡◌, ◌*◌, ◌^◌, ℕ, List, [], None, Ok, Bool}
use Rattle.url.specs.Parts.{Parts}
use Rattle.tough_checks.specs.Checks.{enforces}
use Rattle.tough_net.specs.declared.limits.Limits.{Limits}
use Rattle.tough_update.specs.Stages.{CoreDoc, new_core, reaching}
use Rattle.tough_update.specs.Counts.{none_yet}
use Rattle.tough_update.specs.View.{core_doc, counts_of, is_whole}
use Rattle.tough_net.specs.Urls.{with_slash}
use Rattle.tough_load.specs.declared.loader.RepositoryLoader.{RepositoryLoader}
use Rattle.tough_load.specs.declared.load.Load.{Load}
use Rattle.tough_load.specs.Loading.{Held}
use Rattle.tough_load.specs.Words as part

-- what every loader has
pub record SettingsDoc : Type 0 where
  -- the bytes of the root that is trusted
  pub root : List ℕ
  pub metadata_base : Parts
  pub targets_base : Parts
  pub limits : Limits
  -- whether documents that have expired are refused
  pub enforced : Bool
  -- whether the documents of delegated roles are loaded too
  pub whole : Bool

-- one mebibyte for roots, timestamps and snapshots, ten for targets, and 1,024 new roots
abbrev pub default_limits : Limits
default_limits = record { max_root_size = 2 ^ 20; max_targets_size = 10 * 2 ^ 20; max_timestamp_size = 2 ^ 20; max_snapshot_size = 2 ^ 20; max_root_updates = 1024 }

-- the update that begins with these settings: nothing was answered yet
abbrev pub first_core : SettingsDoc → CoreDoc
first_core s = reaching s.whole (new_core s.root s.limits s.enforced)

module _ {T V C K : Type 0} where
  abbrev pub settings_of : RepositoryLoader T V C K → SettingsDoc
  settings_of l = record {
    root = l.settings.root.now;
    metadata_base = l.settings.metadata_base_url;
    targets_base = l.settings.targets_base_url;
    limits = l.settings.limits;
    enforced = enforces l.settings.enforcement;
    whole = is_whole l.settings.extent;
  }

  abbrev pub transport_of : RepositoryLoader T V C K → T
  transport_of l = l.transport

  abbrev pub verifier_of : RepositoryLoader T V C K → V
  verifier_of l = l.verifier

  abbrev pub clock_of : RepositoryLoader T V C K → C
  clock_of l = l.clock

  abbrev pub keeper_of : RepositoryLoader T V C K → K
  keeper_of l = l.keeper

  -- what the load holds at its beginning: no step was taken
  abbrev pub held_of : {R : Type 0} → RepositoryLoader T V C K → Held K R C
  held_of l = record { keeping = record { keeper = keeper_of l; receipts = [] }; clock = clock_of l }

-- A load at its beginning, with all that the loader was given: its update asks first, nothing is fetched and no step taken.
pub record IsBegun {T V C K S R : Type 0} (from : RepositoryLoader T V C K) (l : Load T K C V S R) : Type 0 where
  pub core : core_doc (part.core_of l) ≡ first_core (settings_of from)
  pub counts : counts_of (part.core_of l) ≡ none_yet
  pub base : with_slash (settings_of from).metadata_base ≡ Ok (part.base_of l)
  pub targets_base : with_slash (settings_of from).targets_base ≡ Ok (part.settings_of l).targets_base
  pub limits : (part.settings_of l).limits ≡ (settings_of from).limits
  pub enforced : (part.settings_of l).enforced ≡ (settings_of from).enforced
  pub transport : part.transport_of l ≡ transport_of from
  pub verifier : part.verifier_of l ≡ verifier_of from
  pub clock : part.clock_of l ≡ clock_of from
  pub keeper : part.keeper_of l ≡ keeper_of from
  pub fetch : part.fetch_of l ≡ None
  pub receipts : part.receipts_of l ≡ []
