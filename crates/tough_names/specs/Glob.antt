-- What a pattern is made of, and which texts it fits (TUF specification 1.0, section 4.5, PATHPATTERN: shell-style
-- wildcards; `*` and `?` take `/` too, as in the original).
use Rattle.std.specs.Prelude.{◌≡◌, ℕ, Bool, true, cond, not, ◌&&◌, nat_le, List, [], ◌∷◌, ◌++◌}
use Rattle.std.specs.List.{list_any}
use Rattle.tough_names.specs.declared.pattern.item.Span.{Span}

-- a run of characters, or one character: one in these spans, or, when negated, one outside them all
pub data Part : Type 0 where
  run : Part
  one : Bool → List Span → Part

abbrev pub is_in : ℕ → Span → Bool
is_in c span = nat_le span.first c && nat_le c span.last

abbrev pub is_one_of : List Span → ℕ → Bool
is_one_of spans c = list_any (is_in c) spans

-- whether one character of the class may stand here
abbrev pub accepts : Bool → List Span → ℕ → Bool
accepts negated spans c = cond negated (not (is_one_of spans c)) (is_one_of spans c)

-- what a part may cover
abbrev pub Covers : Part → List ℕ → Type 0
Covers run piece = Unit {0}
Covers (one negated spans) piece = (c : ℕ) × (piece ≡ c ∷ []) × (accepts negated spans c ≡ true)

-- the characters can be cut into one piece for each part, in order
abbrev pub Fits : List Part → List ℕ → Type 0
Fits [] text = text ≡ []
Fits (part ∷ parts) text = (piece : List ℕ) × (rest : List ℕ) × (text ≡ piece ++ rest) × Covers part piece × Fits parts rest
