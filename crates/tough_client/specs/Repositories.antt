-- A repository that was loaded, by its parts.
use Rattle.std.specs.Prelude.{◌≡◌, Bool, List}
use Rattle.std.specs.declared.alloc.Global.{Global}
use Rattle.url.specs.Parts.{Parts}
use Rattle.tough_checks.specs.Checks.{enforces}
use Rattle.tough_trust.specs.Steps.{Keeping}
use Rattle.tough_net.specs.declared.limits.Limits.{Limits}
use Rattle.tough_update.specs.declared.stage.Loaded.{Loaded}
use Rattle.tough_update.specs.Stages.{LoadedDoc}
use Rattle.tough_update.specs.View.{loaded_doc, root_of, timestamp_of, snapshot_of, targets_of}
use Rattle.tough_load.specs.declared.load.Load.{Load}
use Rattle.tough_load.specs.Loading.{Held}
use Rattle.tough_load.specs.Words as load
use Rattle.tough_client.specs.declared.repository.Repository.{Repository}
use Rattle.tough_parts.specs.declared.RepositoryParts.{RepositoryParts}

module _ {T K C R : Type 0} where
  abbrev pub loaded_of : Repository T K C R → Loaded
  loaded_of r = r.loaded

  -- the documents that were loaded
  abbrev pub documents_of : Repository T K C R → LoadedDoc
  documents_of r = loaded_doc r.loaded

  abbrev pub alloc_of : Repository T K C R → Global
  alloc_of r = r.alloc

  abbrev pub transport_of : Repository T K C R → T
  transport_of r = r.transport

  abbrev pub keeper_of : Repository T K C R → K
  keeper_of r = r.keeper

  abbrev pub clock_of : Repository T K C R → C
  clock_of r = r.clock

  -- the URL that the names of metadata files are joined to
  abbrev pub metadata_base_of : Repository T K C R → Parts
  metadata_base_of r = r.metadata_base_url

  -- the URL that the names of targets' files are joined to
  abbrev pub targets_base_of : Repository T K C R → Parts
  targets_base_of r = r.targets_base_url

  abbrev pub limits_of : Repository T K C R → Limits
  limits_of r = r.limits

  -- whether documents that have expired are refused
  abbrev pub enforced_of : Repository T K C R → Bool
  enforced_of r = enforces r.enforcement

  -- what the steps were told
  abbrev pub receipts_of : Repository T K C R → List R
  receipts_of r = r.receipts.items

  -- the keeper, and what its steps were told
  abbrev pub keeping_of : Repository T K C R → Keeping K R
  keeping_of r = record { keeper = keeper_of r; receipts = receipts_of r }

  -- these and the clock
  abbrev pub held_of : Repository T K C R → Held K R C
  held_of r = record { keeping = keeping_of r; clock = clock_of r }

  -- every part of the load is handed on, with these documents
  pub record IsMadeOf {V S : Type 0} (l : Load T K C V S R) (documents : Loaded) (r : Repository T K C R) : Type 0 where
    pub loaded : loaded_of r ≡ documents
    pub transport : transport_of r ≡ load.transport_of l
    pub keeper : keeper_of r ≡ load.keeper_of l
    pub clock : clock_of r ≡ load.clock_of l
    pub metadata_base : metadata_base_of r ≡ load.base_of l
    pub settings : load.settings_of l ≡ record { targets_base = targets_base_of r; limits = limits_of r; enforced = enforced_of r }
    pub receipts : receipts_of r ≡ load.receipts_of l

  -- what an editor is given of a repository
  pub record IsLeftOf (r : Repository T K C R) (p : RepositoryParts T) : Type 0 where
    pub transport : p.transport ≡ transport_of r
    pub limits : p.limits ≡ limits_of r
    pub root : p.root ≡ root_of (loaded_of r)
    pub timestamp : p.timestamp ≡ timestamp_of (loaded_of r)
    pub snapshot : p.snapshot ≡ snapshot_of (loaded_of r)
    pub targets : p.targets ≡ targets_of (loaded_of r)

  -- its files are served as they were, and its settings are those
  pub record IsServedAs (old new : Repository T K C R) : Type 0 where
    pub alloc : alloc_of new ≡ alloc_of old
    pub transport : transport_of new ≡ transport_of old
    pub metadata_base : metadata_base_of new ≡ metadata_base_of old
    pub targets_base : targets_base_of new ≡ targets_base_of old
    pub limits : limits_of new ≡ limits_of old
    pub enforced : enforced_of new ≡ enforced_of old

  -- all is as it was, but for the keeper, the clock and the receipts
  pub record IsKept (old new : Repository T K C R) : Type 0 where
    pub loaded : loaded_of new ≡ loaded_of old
    pub transport : transport_of new ≡ transport_of old
    pub metadata_base : metadata_base_of new ≡ metadata_base_of old
    pub targets_base : targets_base_of new ≡ targets_base_of old
    pub limits : limits_of new ≡ limits_of old
    pub enforced : enforced_of new ≡ enforced_of old
