-- Which names a path set matches (TUF specification 1.0, section 4.5, PATHPATTERN and PATH_HASH_PREFIX).
use Rattle.std.specs.Prelude.{ℕ, List, [], ◌∷◌, Bool, true, false, ◌&&◌, ◌||◌, Option, Some, None, chars, eqb}
use Rattle.std.specs.List.{list_any, starts_with}
use Rattle.sha2.specs.Sha256.{sha256}
use Rattle.hex.specs.Hex.{encode_lower}
use Rattle.tough_names.specs.Glob.{Part, run, one, accepts}
use Rattle.tough_names.specs.Grammar.{parts_in}
use Rattle.tough_schema.specs.Delegations.{DelegatedRoleDoc}
use Rattle.tough_schema.specs.Paths.{PathsDoc, patterns, prefixes}

-- some end of the text passes the test
abbrev pub some_end : (List ℕ → Bool) → List ℕ → Bool
some_end test [] = test []
some_end test (c ∷ cs) = test (c ∷ cs) || some_end test cs

-- the parts fit the whole text: a run takes any beginning, the other parts one character each
abbrev pub fits_in : List Part → List ℕ → Bool
fits_in [] [] = true
fits_in [] (c ∷ cs) = false
fits_in (run ∷ parts) text = some_end (fits_in parts) text
fits_in (one negated spans ∷ parts) [] = false
fits_in (one negated spans ∷ parts) (c ∷ cs) = accepts negated spans c && fits_in parts cs

abbrev pub if_parts : Option (List Part) → List ℕ → Bool
if_parts None text = false
if_parts (Some parts) text = fits_in parts text

-- the pattern fits the resolved name
abbrev pub pattern_matches : List ℕ → List ℕ → Bool
pattern_matches resolved p = if_parts (parts_in (chars p)) (chars resolved)

-- the digits of the resolved name's digest begin with the prefix
abbrev pub prefix_matches : List ℕ → List ℕ → Bool
prefix_matches resolved p = starts_with eqb (encode_lower (sha256 resolved)) p

-- a pattern or a prefix of the set matches the resolved name
abbrev pub paths_match : List ℕ → PathsDoc → Bool
paths_match resolved (patterns ps) = list_any (pattern_matches resolved) ps
paths_match resolved (prefixes ps) = list_any (prefix_matches resolved) ps

-- a role's path set matches the resolved name
abbrev pub some_match : List ℕ → List DelegatedRoleDoc → Bool
some_match resolved rs = list_any (λ r. paths_match resolved r.paths) rs
