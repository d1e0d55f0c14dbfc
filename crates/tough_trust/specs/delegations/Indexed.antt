-- Which names of delegated roles had their turn (TUF specification 1.0, section 5.6.7).
use Rattle.std.specs.Prelude.{ℕ, List, Option, Some, None, is_some}
use Rattle.std.specs.Str.{bytes_eq}
use Rattle.std.specs.Map.{update}
use Rattle.tough_schema.specs.Search.{Names}

-- each name that was loaded, with the number of its document, and each name that isn't in the snapshot, with none
abbrev pub Index : Type 0
Index = List ℕ → Option (Option ℕ)

abbrev pub no_index : Index
no_index q = None

abbrev pub put : List ℕ → Option ℕ → Index → Index
put name number index = update bytes_eq index name (Some number)

abbrev pub names_of : Index → Names
names_of index q = is_some (index q)
