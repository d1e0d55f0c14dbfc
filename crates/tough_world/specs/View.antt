-- The parts of a world.
use Rattle.std.specs.Prelude.{List}
use Rattle.tough_vault.specs.declared.store.Store.{Ghosts}
use Rattle.tough_vault.specs.declared.vault.Vault.{Vault}
use Rattle.tough_vault.specs.Vault.{parts_of}
use Rattle.tough_update.specs.declared.machine.Core.{Core}
use Rattle.tough_world.specs.declared.world.World.{World}
use Rattle.tough_world.specs.Turns.{WorldDoc}

module _ {S V : Type 0} {g : Ghosts S} where
  abbrev pub cores_of : World S V g → List Core
  cores_of w = w.cores.items

  abbrev pub vault_of : World S V g → Vault S g
  vault_of w = w.vault

  abbrev pub verifier_of : World S V g → V
  verifier_of w = w.verifier

  abbrev pub world_doc : World S V g → WorldDoc S
  world_doc w = record { cores = w.cores.items; parts = parts_of w.vault }
