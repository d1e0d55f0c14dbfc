-- What a vault's step says of its journal, whatever the step is.
use Rattle.std.proofs.Common.{◌≡◌, ◌⊎◌, ℕ, Bool, true, List, [], ◌∷◌, ◌++◌, length, Result, Ok, Err, sym, ap, ◌∙◌, subst, inl, inr}
use Rattle.tough_keys.specs.Same.{Verifies}
use Rattle.tough_roles.specs.Root.{RootDoc}
use Rattle.tough_roles.specs.Signature.{SignedDoc}
use Rattle.tough_checks.specs.declared.checks.StepError.{StepError}
use Rattle.tough_checks.specs.declared.checks.StepError.TheVariants.{Refused, DatastoreOpen, DatastoreCreate, DatastoreRemove, Memory}
use Rattle.tough_vault.specs.declared.entry.Receipt.{Receipt}
use Rattle.tough_vault.specs.declared.store.StoreError.{StoreError}
use Rattle.tough_vault.specs.Act.{Act, NoteTime, PutRoot, ClearRotated, AdvanceTimestamp, AdvanceSnapshot, PutDocument, Acts}
use Rattle.tough_vault.specs.Journal.{Note, Root, Cleared, Broken, note_of, number_of, entry_of}
use Rattle.tough_vault.specs.Step.{Step, Parts, IsNoted, IsReceipt, Takes, EndsRemoval, Clears}
use Rattle.tough_vault.specs.Steps.{time_step, root_step, timestamp_step, snapshot_step, document_step}
use Rattle.tough_vault.specs.Puts.{Puts}
use Rattle.tough_vault.specs.Stored.{Files}

-- the journal is as before, or one entry longer; where a step succeeded, its receipt tells that entry and its number
abbrev pub GoesOn : List Note → List Note → Result Receipt StepError → Type 0
GoesOn old new (Ok r) = (new ≡ old ++ note_of (entry_of r) ∷ []) × (number_of r ≡ length old)
GoesOn old new (Err e) = (new ≡ old) ⊎ (new ≡ old ++ Broken ∷ [])

module _ {S : Type 0} (tells : Bool) (files : S → Files) (count : S → ℕ) where
  noted : (note : Note) (old new : Parts S) (r : Receipt) → IsNoted note old new → IsReceipt (length old.notes) note r → GoesOn old.notes new.notes (Ok r)
  noted note old new r n i = (n.notes ∙ ap (λ x. old.notes ++ x ∷ []) (sym i.entry), i.number)

  took : (step : Step) (old new : Parts S) (result : Result Receipt StepError) → Takes tells files count step old new result → GoesOn old.notes new.notes result
  took step old new (Ok r) t = noted (step.entry t.done.0) old new r t.done.1.noted t.done.1.receipt
  took step old new (Err (DatastoreCreate path)) t = inr (t.broken tt).notes
  took step old new (Err (Refused c)) t = inl (t.same (λ x. x)).0
  took step old new (Err (DatastoreOpen path)) t = inl (t.same (λ x. x)).0
  took step old new (Err (DatastoreRemove path)) t = inl (t.same (λ x. x)).0
  took step old new (Err Memory) t = inl (t.same (λ x. x)).0

  ends : (note : Note) (first second : Result Unit StoreError) (old new : Parts S) (result : Result Receipt StepError) → EndsRemoval note first second old new result → GoesOn old.notes new.notes result
  ends note (Ok u) (Ok v) old new (Ok r) e = noted note old new r e.0 e.1
  ends note (Err fault) second old new (Err x) e = inr e.0.notes
  ends note (Ok u) (Err fault) old new (Err x) e = inr e.0.notes
  ends note (Ok u) (Ok v) old new (Err x) e = absurd e
  ends note (Err fault) second old new (Ok r) e = absurd e
  ends note (Ok u) (Err fault) old new (Ok r) e = absurd e

  cleared : (old new : Parts S) (result : Result Receipt StepError) → Clears tells files count old new result → GoesOn old.notes new.notes result
  cleared old new result (inl s) = subst (λ (x : Result Receipt StepError). GoesOn old.notes new.notes x) (sym s.0) (inl (ap (λ (p : Parts S). p.notes) s.1))
  cleared old new result (inr t) = ends Cleared t.first t.second old new result t.ends

  put : (verifies : Verifies) (root : SignedDoc RootDoc) (old new : Parts S) (result : Result Receipt StepError) → Puts tells files count verifies root old new result → GoesOn old.notes new.notes result
  put verifies root old new result (inl h) = took (root_step verifies old.tip root) old new result h.takes
  put verifies root old new result (inr h) =
      ends (Root root.role.head.version true) h.tried.first h.tried.second (record { store = h.between; notes = old.notes; tip = old.tip }) new result h.tried.ends

  pub goes_on : (verifies : Verifies) (act : Act) (old new : Parts S) (result : Result Receipt StepError) → Acts tells files count verifies act old new result → GoesOn old.notes new.notes result
  goes_on verifies (NoteTime now) old new result h = took (time_step old.tip now) old new result h
  goes_on verifies (PutRoot root) old new result h = put verifies root old new result h
  goes_on verifies ClearRotated old new result h = cleared old new result h
  goes_on verifies (AdvanceTimestamp root t start enforced) old new result h = took (timestamp_step verifies root old.tip t start enforced) old new result h
  goes_on verifies (AdvanceSnapshot root listed s start enforced) old new result h = took (snapshot_step verifies root old.tip listed s start enforced) old new result h
  goes_on verifies (PutDocument name text) old new result h = took (document_step name text) old new result h
