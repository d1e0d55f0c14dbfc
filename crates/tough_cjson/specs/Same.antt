-- Values that are equal once their texts and names are in NFC.
use Rattle.std.specs.Prelude.{◌≡◌, ◌⊎◌, ℤ, List, ℕ, Some, true}
use Rattle.serde_json.specs.Data.{Num, Data, null, boolean, number, string, array, object, Items, no_items, item, Members, no_members, member}
use Rattle.serde_json.specs.Find.{as_integer}
use Rattle.tough_cjson.specs.Canon.{nfc_text, has_name}

-- one of the members has a name with this NFC, and a value of which P says something
abbrev pub HasMember : List ℕ → (Data → Type 0) → Members → Type 0
HasMember n P no_members = ⊥
HasMember n P (member l e ns) = ((nfc_text l ≡ n) × P e) ⊎ HasMember n P ns

-- each name of these members has an equal one among the others
abbrev pub HaveNamesIn : Members → Members → Type 0
HaveNamesIn no_members ms = Unit {0}
HaveNamesIn (member l e ns) ms = (has_name (nfc_text l) ms ≡ true) × HaveNamesIn ns ms

abbrev mutual
  -- the same kind; equal numbers, equal texts in NFC, items one by one, and the same names in NFC with such members
  pub Same : Data → Data → Type 0
  Same null e = e ≡ null
  Same (boolean b) e = e ≡ boolean b
  Same (number n) e = (m : Num) × (e ≡ number m) × (z : ℤ) × (as_integer n ≡ Some z) × (as_integer m ≡ Some z)
  Same (string s) e = (u : List ℕ) × (e ≡ string u) × (nfc_text s ≡ nfc_text u)
  Same (array ds) e = (es : Items) × (e ≡ array es) × SameItems ds es
  Same (object ms) e = (ns : Members) × (e ≡ object ns) × SameMembers ms ns × HaveNamesIn ns ms

  pub SameItems : Items → Items → Type 0
  SameItems no_items es = es ≡ no_items
  SameItems (item d ds) es = (e : Data) × (rest : Items) × (es ≡ item e rest) × Same d e × SameItems ds rest

  -- each of the first members has its like among the second
  pub SameMembers : Members → Members → Type 0
  SameMembers no_members ns = Unit {0}
  SameMembers (member k d ms) ns = HasMember (nfc_text k) (Same d) ns × SameMembers ms ns
