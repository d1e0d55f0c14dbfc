-- Which role of a list says who signs for a name: the first of that name (TUF specification 1.0, section 5.6.7).
use Rattle.std.specs.Prelude.{ℕ, List, Option}
use Rattle.std.specs.List.{position_from}
use Rattle.std.specs.Str.{bytes_eq}
use Rattle.tough_schema.specs.Tree.{Entry}

-- a place for each name that has one
abbrev pub Firsts : Type 0
Firsts = List ℕ → Option ℕ

-- the place of the first role of each name
abbrev pub first_places : List Entry → Firsts
first_places roles name = position_from (λ e. bytes_eq e.name name) 0 roles
