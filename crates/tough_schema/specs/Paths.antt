-- Which names a delegated role may list (TUF specification 1.0, section 4.5, `paths` and `path_hash_prefixes`).
use Rattle.std.specs.Prelude.{ℕ, List, Option, Some, None, option_map, option_and_then, chars, codes}
use Rattle.serde_json.specs.Data.{Data, string, array, Members}
use Rattle.serde_json.specs.Find.{get_member}
use Rattle.tough_names.specs.Grammar.{parts_in}
use Rattle.tough_json.specs.Reading.{◌>>=◌, text, listing, without}
use Rattle.tough_json.specs.Writing.{with, all_json}
use Rattle.tough_schema.specs.declared.delegations.PathSet.{PathSet}
use Rattle.tough_schema.specs.declared.delegations.PathSet.TheVariants as sets

-- the texts of patterns, or of prefixes of digests
pub data PathsDoc : Type 0 where
  patterns : List (List ℕ) → PathsDoc
  prefixes : List (List ℕ) → PathsDoc

abbrev pub paths_doc : PathSet → PathsDoc
paths_doc (sets.Paths ps) = patterns ps.items
paths_doc (sets.PathHashPrefixes ps) = prefixes ps.items

-- ---- reading

-- a text that is a pattern
abbrev pub if_pattern : List ℕ → Option (List ℕ)
if_pattern s = option_map (λ parts. s) (parts_in (chars s))

abbrev pub pattern : Data → Option (List ℕ)
pattern d = option_and_then if_pattern (text d)

-- what stands under `paths`, and under `path_hash_prefixes`: exactly one of them is there
abbrev pub either_at : Option Data → Option Data → Option PathsDoc
either_at None None = None
either_at (Some d) None = option_map patterns (listing pattern d)
either_at None (Some d) = option_map prefixes (listing text d)
either_at (Some d) (Some e) = None

abbrev pub paths_at : Members → Option PathsDoc
paths_at ms = either_at (get_member (codes "paths") ms) (get_member (codes "path_hash_prefixes") (without (codes "paths") ms))

-- ---- writing

abbrev pub text_json : List ℕ → Option Data
text_json s = Some (string s)

-- a text that is a pattern, as that of each pattern of the program is
abbrev pub pattern_json : List ℕ → Option Data
pattern_json s = option_map string (if_pattern s)

-- the members with one of the two
abbrev pub with_paths : PathsDoc → Members → Option Members
with_paths (patterns ps) ms = do
  items ← all_json pattern_json ps
  with (codes "paths") (array items) ms
with_paths (prefixes ps) ms = do
  items ← all_json text_json ps
  with (codes "path_hash_prefixes") (array items) ms
