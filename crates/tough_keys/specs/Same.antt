-- What makes two keys equal: kind, public bytes and extras, where two floats count as equal; the scheme is that of
-- the kind. A verifier sees no more of a key.
use Rattle.std.specs.Prelude.{ℕ, List, Bool}
use Rattle.std.specs.Float.{float_zero}
use Rattle.serde_json.specs.Data.{Num, unsigned, negative, float, Data, null, boolean, number, string, array, object, Items, no_items, item, Members, no_members, member}
use Rattle.tough_keys.specs.declared.kind.Kind.{Kind}
use Rattle.tough_keys.specs.declared.key.Key.{Key}
use Rattle.tough_keys.specs.Key.{KeyDoc, key_doc}

abbrev pub without_float : Num → Num
without_float (unsigned n) = unsigned n
without_float (negative z) = negative z
without_float (float x) = float float_zero

-- the same value with 0.0 in the place of each float
abbrev mutual
  pub blurred : Data → Data
  blurred null = null
  blurred (boolean b) = boolean b
  blurred (number n) = number (without_float n)
  blurred (string s) = string s
  blurred (array ds) = array (blurred_items ds)
  blurred (object ms) = object (blurred_members ms)

  pub blurred_items : Items → Items
  blurred_items no_items = no_items
  blurred_items (item d ds) = item (blurred d) (blurred_items ds)

  pub blurred_members : Members → Members
  blurred_members no_members = no_members
  blurred_members (member k d ms) = member k (blurred d) (blurred_members ms)

pub record KeyData : Type 0 where
  pub kind : Kind
  pub public : List ℕ
  pub keyval_extra : Members
  pub extra : Members

abbrev pub data_of : KeyDoc → KeyData
data_of k = record { kind = k.kind; public = k.public.bytes; keyval_extra = blurred_members k.keyval_extra; extra = blurred_members k.extra }

abbrev pub key_data : Key → KeyData
key_data k = data_of (key_doc k)

-- which signatures verify: of a key, a message and a signature
abbrev pub Verifies : Type 0
Verifies = KeyData → List ℕ → List ℕ → Bool
