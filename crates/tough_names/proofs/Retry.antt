-- Where the search may go back to, as parts and characters, and the work that remains.
use Rattle.std.proofs.Common.{ℕ, List, Option, Some, None, Bor, length, chars, ◌+◌, ◌*◌, ◌≤◌, ◌<◌, ◌≡◌, arith}
use Rattle.tough_names.specs.declared.pattern.item.Item.{Item}
use Rattle.tough_names.specs.Glob.{Part}
use Rattle.tough_names.specs.Items.{parts_of}

abbrev pub parts_and_chars : Option (Bor (List Item) × Bor (List ℕ)) → Option (List Part × List ℕ)
parts_and_chars None = None
parts_and_chars (Some (after, from)) = Some (parts_of after.now, chars from.now)

abbrev pub InBounds : List Item → List ℕ → List Item → List ℕ → Option (Bor (List Item) × Bor (List ℕ)) → Type 0
InBounds items text left rest None = (length left ≤ length items) × (length rest ≤ length text)
InBounds items text left rest (Some (after, from)) =
    (length left ≤ length items) × (length after.now ≤ length items) × (length rest ≤ length from.now) × (length from.now ≤ length text)

abbrev pub work : List Item → List ℕ → List Item → Option (Bor (List Item) × Bor (List ℕ)) → ℕ
work items text left None = (length text + 1) * (length items + 1) + length left
work items text left (Some (after, from)) = length from.now * (length items + 1) + length left

abbrev pub Widened : List Item → List ℕ → List ℕ → List Item → Type 0
Widened items text rest after =
    (length after ≤ length items) × (length after ≤ length items) × (length rest ≤ length rest) × (length rest ≤ length text)

pub widened_bounds : (items : List Item) (text : List ℕ) (left : List Item) (rest : List ℕ) (retry : Option (Bor (List Item) × Bor (List ℕ))) (after : List Item) (from : List ℕ) → length left ≡ length after + 1 → length from ≤ length rest → InBounds items text left rest retry → Widened items text from after
widened_bounds items text left rest None after from e s h = (omega arith, omega arith, omega arith, omega arith)
widened_bounds items text left rest (Some (old, before)) after from e s h = (omega arith, omega arith, omega arith, omega arith)

pub advanced_bounds : (items : List Item) (text : List ℕ) (left : List Item) (rest : List ℕ) (retry : Option (Bor (List Item) × Bor (List ℕ))) (after : List Item) (tail : List ℕ) → length left ≡ length after + 1 → length tail ≤ length rest → InBounds items text left rest retry → InBounds items text after tail retry
advanced_bounds items text left rest None after tail e s h = (omega arith, omega arith)
advanced_bounds items text left rest (Some (old, from)) after tail e s h = (omega arith, h.1, omega arith, h.3)

pub retried_bounds : (items : List Item) (text : List ℕ) (left : List Item) (rest : List ℕ) (after : Bor (List Item)) (from : Bor (List ℕ)) (tail again : List ℕ) → length tail < length from.now → length again ≤ length tail → InBounds items text left rest (Some (after, from)) → Widened items text again after.now
retried_bounds items text left rest after from tail again s t h = (h.1, h.1, omega arith, omega arith)
