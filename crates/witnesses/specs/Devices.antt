-- Devices in memory, and a load over them.
use Rattle.std.specs.Prelude.{◌≡◌, ◌<◌, ◌+◌, ◌^◌, ℕ, ℤ, List, length, Option, Some, None, Ok, true, codes, Result}
use Rattle.std.specs.Borrow.{MutBor}
use Rattle.url.specs.Parts.{Parts, serialize}
use Rattle.url.specs.Parser.{parse_url}
use Rattle.futures.specs.Runs.{Runs}
use Rattle.tough_keys.specs.Demo.{demo_verifies}
use Rattle.tough_keys.specs.Same.{Verifies}
use Rattle.tough_keys.specs.declared.demo.DemoVerify.{DemoVerify}
use Rattle.tough_net.specs.Items.{Item}
use Rattle.tough_net.specs.MemoryFiles.{file_at, left_in, Cuts, CutsFile, RefusesFile}
use Rattle.tough_net.specs.declared.error.TransportError.{TransportError}
use Rattle.tough_net.specs.declared.memory.MemoryStream.{MemoryStream}
use Rattle.tough_net.specs.declared.memory.MemoryTransport.{MemoryTransport}
use Rattle.tough_vault.specs.Memory.{memory_files, memory_removals, memory_changes}
use Rattle.tough_vault.specs.Vault.{parts_of}
use Rattle.tough_vault.specs.declared.clock.FixedClock.{FixedClock}
use Rattle.tough_vault.specs.declared.entry.Receipt.{Receipt}
use Rattle.tough_vault.specs.declared.memory.MemoryStore.{MemoryStore}
use Rattle.tough_vault.specs.declared.store.Store.{Ghosts}
use Rattle.tough_vault.specs.declared.vault.Vault.{Vault}
use Rattle.tough_trust.specs.Failure.{Failure}
use Rattle.tough_trust.specs.Vaults.{vault_keeps, vault_reads}
use Rattle.tough_update.specs.Loadable.{Files}
use Rattle.tough_update.specs.Stages.{LoadedDoc}
use Rattle.tough_load.specs.Advancing.{Finishes}
use Rattle.tough_load.specs.Loader.{IsBegun, first_core, settings_of, transport_of, clock_of, keeper_of}
use Rattle.tough_load.specs.Words as part
use Rattle.tough_load.specs.declared.load.Load.{Load}
use Rattle.tough_load.specs.declared.loader.RepositoryLoader.{RepositoryLoader}
use Rattle.tough_honest.specs.Fresh.{Untouched, IsFineOutcome}
use Rattle.tough_honest.specs.Loads.{LoadsAt}
use Rattle.tough_honest.specs.Serves.{ServesName}
use Rattle.witnesses.specs.Served.{Repository}
use Rattle.witnesses.specs.Steps.{no_failure}

-- ---- what the devices say of themselves

abbrev pub memory_refuses : MemoryTransport → Parts → TransportError → Type 0
memory_refuses t url = RefusesFile (file_at t (serialize url)) (serialize url)

abbrev pub memory_serves : MemoryTransport → Parts → Runs Item
memory_serves t url = CutsFile (file_at t (serialize url))

abbrev pub memory_yields : MemoryStream → Runs Item
memory_yields m = Cuts (left_in m)

abbrev pub fixed_gives : FixedClock → ℤ → Type 0
fixed_gives clock moment = moment ≡ clock.0.nanosecond

abbrev pub demo_verifies_by : DemoVerify → Verifies
demo_verifies_by v = demo_verifies

abbrev pub store_ghosts : Ghosts MemoryStore
store_ghosts = record { tells = true; files = memory_files; count = no_failure; removals = memory_removals; changes = memory_changes }

-- a lent vault over a store in memory
abbrev pub Lent : Type 0
Lent = MutBor (Vault MemoryStore store_ghosts)

abbrev pub MemoryLoader : Type 0
MemoryLoader = RepositoryLoader MemoryTransport DemoVerify FixedClock Lent

abbrev pub MemoryLoad : Type 0
MemoryLoad = Load MemoryTransport Lent FixedClock DemoVerify MemoryStream Receipt

abbrev pub MemoryFinishes : MemoryLoad → Result LoadedDoc Failure → MemoryLoad → Type 0
MemoryFinishes = Finishes memory_refuses memory_serves (vault_keeps true memory_files no_failure) (vault_reads true memory_files no_failure) fixed_gives memory_yields demo_verifies_by

-- ---- files below a URL

-- the name is joined to the URL, and both aren't long
pub record IsAt (base : Parts) (name : List ℕ) (url : Parts) : Type 0 where
  pub joined : parse_url (Some base) name ≡ Ok url
  pub short : length (serialize base) + length name < 2 ^ 30

abbrev pub ServesFile : MemoryTransport → Parts → List ℕ → Option (List ℕ) → Type 0
ServesFile t base name file = ServesName memory_refuses memory_serves t base name file

-- the repository's three files are served, and a second root isn't there
pub record ServesFour (t : MemoryTransport) (base : Parts) (f : Repository) : Type 0 where
  pub root : ServesFile t base (codes "2.root.json") None
  pub timestamp : ServesFile t base (codes "timestamp.json") (Some f.timestamp)
  pub snapshot : ServesFile t base (codes "snapshot.json") (Some f.snapshot)
  pub targets : ServesFile t base (codes "targets.json") (Some f.targets)

-- ---- all that `honest_loads` asks

pub record HasHonestLoad (start : ℤ) : Type 0 where
  pub loader : MemoryLoader
  pub load : MemoryLoad
  pub ended : MemoryLoad
  pub files : Files
  pub d : ℤ → LoadedDoc
  pub outcome : Result LoadedDoc Failure
  pub begun : IsBegun loader load
  pub untouched : Untouched memory_files 0 (parts_of (keeper_of loader).now)
  -- the clock shows this moment, and no other
  pub shows : fixed_gives (clock_of loader) start
  pub able : (now : ℤ) → fixed_gives (clock_of loader) now
      → LoadsAt memory_refuses memory_serves demo_verifies (part.base_of load) (transport_of loader) (first_core (settings_of loader)) files now (d now)
  pub finishes : MemoryFinishes load outcome ended
  pub fine : IsFineOutcome outcome
