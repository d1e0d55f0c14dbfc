-- The canonical text of a JSON value (OLPC canonical JSON, with texts and names in NFC), computed: what `Canon` says, as a function.
use Rattle.std.specs.Prelude.{◌^◌, ℕ, ℤ, nat_lt, if◌then◌else◌, List, [], ◌∷◌, ◌++◌, map, Option, Some, None, option_map, option_and_then, codes}
use Rattle.std.specs.Cmp.Lexicographic.{slice_cmp}
use Rattle.std.specs.Fmt.{signed_decimal}
use Rattle.std.specs.Ordering.{nat_cmp, match_ordering}
use lib.Signed.{mag}
use Rattle.serde_json.specs.Data.{Num, Data, null, boolean, number, string, array, object, Items, no_items, item, Members, no_members, member}
use Rattle.serde_json.specs.Find.{as_integer}
use Rattle.tough_cjson.specs.Canon.{Member, nfc_text, quoted, joined, member_text}

-- the decimal digits of a whole number of at most 128 bits
abbrev pub whole_text : ℤ → Option (List ℕ)
whole_text z = if nat_lt (mag z) (2 ^ 128) then Some (signed_decimal z) else None

abbrev pub number_text : Num → Option (List ℕ)
number_text n = option_and_then whole_text (as_integer n)

-- the member put before the first whose name is greater, by the names' bytes; none where its name stands there already
abbrev pub put_in : Member → List Member → Option (List Member)
put_in m [] = Some (m ∷ [])
put_in m (x ∷ xs) = match_ordering (slice_cmp nat_cmp m.0 x.0) (Some (m ∷ x ∷ xs)) None (option_map (λ ys. x ∷ ys) (put_in m xs))

-- the members in the order of their names' bytes; none where two have one name
abbrev pub in_order : List Member → Option (List Member)
in_order [] = Some []
in_order (m ∷ ms) = option_and_then (put_in m) (in_order ms)

-- the items' texts in brackets
abbrev pub array_text : List (List ℕ) → List ℕ
array_text ts = 91 ∷ (joined ts ++ 93 ∷ [])

-- the members, which are in order, in braces
abbrev pub object_text : List Member → List ℕ
object_text ms = 123 ∷ (joined (map member_text ms) ++ 125 ∷ [])

unfoldable mutual
  -- the canonical text of the value, if it has one
  pub canonical_of : Data → Option (List ℕ)
  canonical_of null = Some (codes "null")
  canonical_of (boolean b) = Some (if b then codes "true" else codes "false")
  canonical_of (number n) = number_text n
  canonical_of (string s) = Some (quoted (nfc_text s))
  canonical_of (array ds) = option_map array_text (item_texts ds)
  canonical_of (object ms) = option_map object_text (option_and_then in_order (member_texts ms))

  -- the items' texts, in turn
  pub item_texts : Items → Option (List (List ℕ))
  item_texts no_items = Some []
  item_texts (item d ds) = option_and_then (λ t. option_map (λ ts. t ∷ ts) (item_texts ds)) (canonical_of d)

  -- the members' names in NFC and texts, in turn
  pub member_texts : Members → Option (List Member)
  member_texts no_members = Some []
  member_texts (member k d ms) = option_and_then (λ t. option_map (λ ps. (nfc_text k, t) ∷ ps) (member_texts ms)) (canonical_of d)
