-- The parts that the kept items stand for.
use Rattle.std.specs.Prelude.{ℕ, Bool, true, false, List, [], ◌∷◌, map, flat_map, chars, string_bytes}
use Rattle.tough_names.specs.declared.pattern.item.Span.{Span}
use Rattle.tough_names.specs.declared.pattern.item.Item.{Item}
use Rattle.tough_names.specs.declared.pattern.item.Item.TheVariants.{Run, One, Text}
use Rattle.tough_names.specs.declared.pattern.item.CharSet.{CharSet}
use Rattle.tough_names.specs.declared.pattern.item.CharSet.TheVariants.{Any, OneOf, NoneOf}
use Rattle.tough_names.specs.Glob.{Part, run, one}

abbrev pub just : ℕ → Span
just c = record { first = c; last = c }

-- this character, for itself
abbrev pub literal : ℕ → Part
literal c = one false (just c ∷ [])

abbrev pub literals : List ℕ → List Part
literals cs = map literal cs

-- whether these characters are those outside the spans, and the spans
abbrev pub is_negated : CharSet → Bool
is_negated Any = true
is_negated (OneOf spans) = false
is_negated (NoneOf spans) = true

abbrev pub spans_of : CharSet → List Span
spans_of Any = []
spans_of (OneOf spans) = spans.items
spans_of (NoneOf spans) = spans.items

abbrev pub set_part : CharSet → Part
set_part set = one (is_negated set) (spans_of set)

abbrev pub item_parts : Item → List Part
item_parts Run = run ∷ []
item_parts (One set) = set_part set ∷ []
item_parts (Text text) = literals (chars (string_bytes text))

abbrev pub parts_of : List Item → List Part
parts_of items = flat_map item_parts items
