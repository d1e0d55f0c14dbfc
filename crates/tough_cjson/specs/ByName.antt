-- for private clauses: the members of an object in the order of their names' NFC
use Rattle.std.specs.declared.alloc.Global.{Global}
use Rattle.std.specs.Prelude.{String, string_bytes, string_cmp, ℕ, List, map}
use Rattle.std.specs.List.Sorted.{IsPermutation, IsStrictlySortedBy}
use Rattle.std.specs.Map.{keys_of}
use denote.Ref.{Bor}
use Rattle.serde_json.specs.declared.value.Value.{Value}
use Rattle.tough_cjson.specs.Canon.{nfc_text}

-- each member's name in NFC, and its value
abbrev pub named : List (String Global × Value) → List (List ℕ × Value)
named es = map (λ e. (nfc_text (string_bytes e.0), e.1)) es

-- names and values as a map of references keeps them
abbrev pub kept : List (String Global × Bor Value) → List (List ℕ × Value)
kept es = map (λ e. (string_bytes e.0, e.1.now)) es

-- the same members, in order, and no name twice
pub record AreByName (es : List (String Global × Value)) (sorted : List (String Global × Bor Value)) : Type 0 where
  pub same : IsPermutation (named es) (kept sorted)
  pub rising : IsStrictlySortedBy string_cmp (keys_of sorted)
