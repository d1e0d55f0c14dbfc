-- The parts of a closed store.
use Rattle.std.specs.Prelude.{ℕ}
use Rattle.tough_vault.specs.declared.store.Store.{Ghosts as StoreGhosts}
use Rattle.tough_vault.specs.declared.vault.Vault.{Vault}
use Rattle.tough_shared.specs.declared.front.Naming.{Ghosts}
use Rattle.tough_shared.specs.declared.closed.ClosedStore.{ClosedStore}
use Rattle.tough_shared.specs.Lines.{begun_in, told}

module _ {S J : Type 0} {g : StoreGhosts S} {h : Ghosts J} where
  -- its vault, to which nothing is added any more
  abbrev pub vault_of : ClosedStore S J g h → Vault S g
  vault_of c = c.vault

  -- how often the store that was handed in had been changed when the shared vault began over it
  abbrev pub closed_begun : ClosedStore S J g h → ℕ
  closed_begun c = begun_in (told c.front.seen.log)
