-- Whether a pattern and a name may agree, by the bytes before the pattern's first special character: a word of private
-- clauses.
use Rattle.std.specs.Prelude.{ℕ, Bool, true, ◌&&◌, ◌||◌, ◌==◌, List, [], ◌∷◌}

-- `*`, `?`, `[` and `\`
abbrev pub is_special : ℕ → Bool
is_special b = (b == 42) || (b == 63) || (b == 91) || (b == 92)

-- the bytes are the same up to the first special one, or up to the end of either
abbrev pub begin_alike : List ℕ → List ℕ → Bool
begin_alike [] name = true
begin_alike (b ∷ pattern) [] = true
begin_alike (b ∷ pattern) (c ∷ name) = is_special b || (b == c) && begin_alike pattern name
