-- Lines of a history: a journal's entries as plain data, and the end.
use Rattle.std.specs.Prelude.{◌≡◌, ◌<◌, ◌≤◌, ℕ, List, [], ◌∷◌, ◌++◌, map, Option, None, Some, Result, Ok, Err, Bool, true, false, if◌then◌else◌, slice_get}
use Rattle.tough_checks.specs.Versions.{Item}
use Rattle.tough_checks.specs.declared.checks.StepError.{StepError}
use Rattle.tough_vault.specs.declared.entry.Receipt.{Receipt}
use Rattle.tough_vault.specs.Journal.{Note, Noted, Root, Timestamp, Snapshot, Cleared, Document, Broken, note_of, entry_of}
use Rattle.tough_shared.specs.declared.line.Line.{Line}
use Rattle.tough_shared.specs.declared.line.Line.TheVariants as line
use Rattle.tough_shared.specs.declared.line.Mark.{Mark}
use Rattle.tough_shared.specs.declared.line.Addition.{Addition}
use Rattle.tough_shared.specs.declared.line.Addition.TheVariants as adds

abbrev pub pairs_of : List Item → List (List ℕ × ℕ)
pairs_of items = map (λ i. (i.name, i.version)) items

abbrev pub items_from : List (List ℕ × ℕ) → List Item
items_from ps = map (λ p. record { name = p.0; version = p.1 }) ps

abbrev pub line_of : Note → Line
line_of (Noted t) = line.Noted t
line_of (Root v cleared) = line.Root v cleared
line_of (Timestamp p had) = line.Timestamp p.version p.snapshot had
line_of (Snapshot r had) = line.Snapshot r.version (pairs_of r.items) had
line_of Cleared = line.Cleared
line_of (Document name) = line.Document name
line_of Broken = line.Broken

-- the entry that a line is, if it is one
abbrev pub note_at : Line → Option Note
note_at (line.Begun n) = None
note_at (line.Noted t) = Some (Noted t)
note_at (line.Root v cleared) = Some (Root v cleared)
note_at (line.Timestamp v w had) = Some (Timestamp (record { version = v; snapshot = w }) had)
note_at (line.Snapshot v ps had) = Some (Snapshot (record { version = v; items = items_from ps }) had)
note_at line.Cleared = Some Cleared
note_at (line.Document name) = Some (Document name)
note_at line.Broken = Some Broken
note_at line.End = None

-- these entries, one a line
abbrev pub lines : List Note → List Line
lines ns = map line_of ns

-- a history: how often the store had been changed before, and the entries
abbrev pub history : ℕ → List Note → List Line
history begun ns = line.Begun begun ∷ lines ns

-- how often the store had been changed before
abbrev pub begun_in : List Line → ℕ
begun_in (line.Begun n ∷ ls) = n
begun_in _ = 0

-- the line of the entry with this number
abbrev pub entry_at : List Line → ℕ → Option Line
entry_at [] k = None
entry_at (l ∷ ls) k = slice_get ls k

abbrev pub is_end : Line → Bool
is_end line.End = true
is_end _ = false

abbrev pub none_left : List Line → Bool
none_left [] = true
none_left (l ∷ ls) = false

-- the store wasn't closed
abbrev pub is_open : List Line → Bool
is_open [] = true
is_open (l ∷ ls) = if is_end l then false else is_open ls

-- nothing stands behind the end
abbrev pub ends_well : List Line → Bool
ends_well [] = true
ends_well (l ∷ ls) = if is_end l then none_left ls else ends_well ls

-- the line that is added
abbrev pub line_added : Addition → Line
line_added (adds.Told r) = line_of (note_of (entry_of r))
line_added adds.Broken = line.Broken
line_added adds.End = line.End

-- What a vault's answer adds to the history: its entry; or, where a refused step left the journal longer than it was, that it is broken.
abbrev pub Grows : ℕ → ℕ → Result Receipt StepError → List Line → List Line → Type 0
Grows before after (Ok r) old new = new ≡ old ++ line_of (note_of (entry_of r)) ∷ []
Grows before after (Err e) old new = (before < after → new ≡ old ++ line.Broken ∷ []) × (after ≤ before → new ≡ old)

-- the lines alone
abbrev pub told : List Mark → List Line
told log = map (λ m. m.line) log

abbrev pub mark : Line → ℕ → Mark
mark l k = record { line = l; next = k }
