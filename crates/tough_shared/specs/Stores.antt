-- Where the history of a shared store began.
use Rattle.std.specs.Prelude.{ℕ}
use Rattle.tough_vault.specs.declared.store.Store.{Ghosts as StoreGhosts}
use Rattle.tough_shared.specs.declared.front.Naming.{Ghosts}
use Rattle.tough_shared.specs.declared.shared_store.SharedStore.{SharedStore}
use Rattle.tough_shared.specs.declared.shared_store.Quiet.{Quiet}
use Rattle.tough_shared.specs.Lines.{begun_in, told}

module _ {S J : Type 0} {g : StoreGhosts S} {h : Ghosts J} where
  -- how often the store that was handed in had been changed when the shared vault began over it
  abbrev pub begun_of : SharedStore S J g h → ℕ
  begun_of s = begun_in (told s.start.seen.log)

  abbrev pub quiet_begun : Quiet S J g h → ℕ
  quiet_begun q = begun_in (told q.start.seen.log)
