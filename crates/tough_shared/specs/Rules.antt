-- The rule of the history, and what its steps tell.
use Rattle.std.specs.Prelude.{ℕ, ◌≡◌, ◌≢◌, ◌<◌, true, List, [], ◌∷◌, ◌++◌, ⊤}
use mathlib.Core.List.{IsPrefix}
use Rattle.logbook.specs.Pages.{Cell, cell, Step, View, Book, Named, may_make}
use Rattle.tough_shared.specs.declared.line.Mark.{Mark}
use Rattle.tough_shared.specs.Lines.{told, ends_well}

-- the book has the value of the word that this pen was the right to write, and so the pen is used up
abbrev pub IsUsed : List Cell → ℕ → Type 0
IsUsed cs k = (cell cs k).1 ≡ true

-- each line was added by the pen that the one before it names
abbrev pub Chain : List Cell → ℕ → List Mark → Type 0
Chain cs k [] = ⊤
Chain cs k (m ∷ ms) = IsUsed cs k × Chain cs m.next ms

abbrev pub Chained : List Cell → List Mark → Type 0
Chained cs [] = ⊤
Chained cs (m ∷ ms) = Chain cs m.next ms

-- the pen that adds the next line
abbrev pub turn_from : ℕ → List Mark → ℕ
turn_from k [] = k
turn_from k (m ∷ ms) = turn_from m.next ms

abbrev pub turn_of : List Mark → ℕ
turn_of log = turn_from 0 log

-- 0 as long as nothing was added
abbrev pub gate_of : List Mark → ℕ
gate_of [] = 0
gate_of (m ∷ ms) = 1

-- The first word tells whether the history has begun; and each line behind the first used up the pen that the one before it names.
pub record IsKept (cells : List Cell) (log : List Mark) : Type 0 where
  pub gate : cell cells 0 ≡ (gate_of log, true)
  pub turns : Chained cells log
  pub ends : ends_well (told log) ≡ true

abbrev pub head_of : Book → Named
head_of b = record { tracked = true; key = 0; book = b }

-- a new pen
abbrev pub Draws : Step Mark → View Mark ℕ → ℕ → View Mark ℕ → Type 0
Draws s v found w = (w.1.0.right ≡ may_make) × (0 < w.1.0.key)

-- the first line was added, where there was none
abbrev pub Opens : Step Mark → View Mark ℕ → ℕ → View Mark ℕ → Type 0
Opens s v found w = found ≡ 0 → w.0 ≡ s.ask ∷ []

-- the line was added to all that was seen
abbrev pub Adds : Step Mark → View Mark ℕ → ℕ → View Mark ℕ → Type 0
Adds s v found w = w.0 ≡ v.0 ++ s.ask ∷ []

-- what the pen's owner has seen is the whole history
abbrev pub Sees : Step Mark → View Mark ℕ → ℕ → View Mark ℕ → Type 0
Sees s v found w = (w.1.0 ≡ v.1.0) × ((mine : List Mark) → mine ≢ [] → turn_of mine ≡ v.1.0.key → IsPrefix mine v.0 → w.0 ≡ mine)
