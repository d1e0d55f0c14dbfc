-- Which URLs name a file by its version (TUF specification 1.0, section 6.2: with consistent snapshots a file's name is "prefixed with the version number and a dot").
use Rattle.std.specs.List.{ends_with}
use Rattle.std.specs.Prelude.{ℕ, Bool, true, false, ◌&&◌, List, [], ◌∷◌, eqb, nat_lt, if◌then◌else◌}

abbrev pub is_digit : ℕ → Bool
is_digit c = nat_lt 47 c && nat_lt c 58

-- digits, and then a dot; `begun` where there were digits before
abbrev pub goes_on : Bool → List ℕ → Bool
goes_on begun [] = false
goes_on begun (c ∷ cs) = if eqb c 46 then begun else (is_digit c && goes_on true cs)

-- the name is a number, a dot and the rest
abbrev pub is_versioned : List ℕ → Bool
is_versioned name = goes_on false name

-- what stands behind the last slash of a text, or this name
abbrev pub last_part : List ℕ → List ℕ → List ℕ
last_part name [] = name
last_part name (c ∷ cs) = if eqb c 47 then last_part cs cs else last_part name cs

abbrev pub name_in : List ℕ → List ℕ
name_in path = last_part path path

-- the text ends in `.json`
abbrev pub is_json : List ℕ → Bool
is_json path = ends_with eqb path (46 ∷ 106 ∷ 115 ∷ 111 ∷ 110 ∷ [])

-- the path names a document by its version
abbrev pub names_version : List ℕ → Bool
names_version path = is_versioned (name_in path) && is_json path
