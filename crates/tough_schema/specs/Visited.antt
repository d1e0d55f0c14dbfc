-- The names that a search has reached, and the roles after which it ends: words of private clauses.
use Rattle.std.specs.Prelude.{Bool, ◌&&◌, not, String}
use Rattle.std.specs.BTreeSet.{BTreeSet, contains_text}
use Rattle.std.specs.declared.alloc.Global.{Global}
use Rattle.tough_schema.specs.Tree.{Entry}
use Rattle.tough_schema.specs.Search.{Names}

-- the names in a set
abbrev pub names_in : BTreeSet (String Global) → Names
names_in s q = contains_text s q

abbrev pub ends : Bool → Entry → Bool
ends permissive e = e.terminating && not permissive
