-- How two removals end doesn't depend on the store.
use Rattle.std.proofs.Common.{◌≡◌, List, Result, Ok, Err}
use Rattle.tough_checks.specs.declared.checks.StepError.{StepError}
use Rattle.tough_vault.specs.declared.entry.Receipt.{Receipt}
use Rattle.tough_vault.specs.declared.store.StoreError.{StoreError}
use Rattle.tough_vault.specs.Journal.{Note, Last}
use Rattle.tough_vault.specs.Step.{Parts, IsNoted, EndsRemoval}

-- parts with another store
abbrev pub over : {S T : Type 0} → S → Parts T → Parts S
over s p = record { store = s; notes = p.notes; tip = p.tip }

noted_over : {S T : Type 0} (note : Note) (s s' : S) (old new : Parts T) → IsNoted note old new → IsNoted note (over s old) (over s' new)
noted_over note s s' old new h = record { notes = h.notes; tip = h.tip }

pub ends_over : {S T : Type 0} (note : Note) (s s' : S) (old new : Parts T) (one two : Result Unit StoreError) (result : Result Receipt StepError)
    → EndsRemoval note one two old new result → EndsRemoval note one two (over s old) (over s' new) result
ends_over note s s' old new (Err fault) two (Err e) h = (noted_over _ s s' old new h.0, h.1)
ends_over note s s' old new (Ok u) (Err fault) (Err e) h = (noted_over _ s s' old new h.0, h.1)
ends_over note s s' old new (Ok u) (Ok v) (Ok r) h = (noted_over _ s s' old new h.0, h.1)
ends_over note s s' old new (Ok u) (Ok v) (Err e) h = h
ends_over note s s' old new (Err fault) two (Ok r) h = h
ends_over note s s' old new (Ok u) (Err fault) (Ok r) h = h
