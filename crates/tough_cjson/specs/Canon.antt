-- The canonical text of a JSON value: OLPC canonical JSON (wiki.laptop.org/go/Canonical_JSON), with texts and names in
-- NFC, and names in the order of their UTF-8 bytes. Numbers are whole, and control characters stand as they are.
use Rattle.std.specs.declared.alloc.Global.{Global}
use Rattle.std.specs.Prelude.{Vec, Result, Ok, Err, ◌≡◌, ◌<◌, ◌^◌, ℕ, ℤ, Bool, true, false, ◌||◌, ◌==◌, if◌then◌else◌, List, [], ◌∷◌, ◌++◌, map, flat_map, Some, bytes_eq, codes, chars, encode_utf8_all}
use Rattle.std.specs.Cmp.Lexicographic.{slice_cmp}
use Rattle.std.specs.Fmt.{signed_decimal}
use Rattle.std.specs.Ordering.{nat_cmp}
use Rattle.std.specs.List.Sorted.{IsPermutation, IsStrictlySortedBy}
use Rattle.std.specs.Map.{keys_of}
use lib.Signed.{mag}
use Rattle.serde_json.specs.Data.{Num, Data, null, boolean, number, string, array, object, Items, no_items, item, Members, no_members, member}
use Rattle.serde_json.specs.Find.{as_integer}
use Rattle.serde_json.specs.Written.{has_float, items_have_float, members_have_float}
use Rattle.unicode_normalization.specs.Forms.{nfc}
use Rattle.tough_cjson.specs.declared.error.CjsonError.{CjsonError}
use Rattle.tough_cjson.specs.declared.error.CjsonError.TheVariants.{Float, SameName, Memory}

-- the UTF-8 bytes of the NFC of a text, which is given by its UTF-8 bytes
unfoldable pub nfc_text : List ℕ → List ℕ
nfc_text s = encode_utf8_all (nfc (chars s))

-- `"` and `\` have a backslash before them, and every other byte stands for itself
abbrev pub escaped_byte : ℕ → List ℕ
escaped_byte b = if (b == 34) || (b == 92) then 92 ∷ b ∷ [] else b ∷ []

unfoldable pub escaped : List ℕ → List ℕ
escaped s = flat_map escaped_byte s

abbrev pub quoted : List ℕ → List ℕ
quoted s = 34 ∷ (escaped s ++ 34 ∷ [])

-- the texts, with a comma between each two
abbrev pub joined : List (List ℕ) → List ℕ
joined [] = []
joined (t ∷ ts) = t ++ flat_map (λ u. 44 ∷ u) ts

-- a name in NFC, and the text of what stands under it
abbrev pub Member : Type 0
Member = List ℕ × List ℕ

abbrev pub member_text : Member → List ℕ
member_text m = quoted m.0 ++ 58 ∷ m.1

-- the same members, in the order of their names' bytes; no two have one name
pub record IsInOrder (ps es : List Member) : Type 0 where
  pub same : IsPermutation ps es
  pub rising : IsStrictlySortedBy (slice_cmp nat_cmp) (keys_of es)

-- a number that is held as a whole number, in plain decimal
pub record IsWhole (n : Num) (t : List ℕ) : Type 0 where
  pub whole : ℤ
  pub held : as_integer n ≡ Some whole
  pub small : mag whole < 2 ^ 128
  pub text : t ≡ signed_decimal whole

abbrev mutual
  -- t is the canonical text of the value
  pub Canon : Data → List ℕ → Type 0
  Canon null t = t ≡ codes "null"
  Canon (boolean b) t = t ≡ (if b then codes "true" else codes "false")
  Canon (number n) t = IsWhole n t
  Canon (string s) t = t ≡ quoted (nfc_text s)
  Canon (array ds) t = (ts : List (List ℕ)) × CanonItems ds ts × (t ≡ 91 ∷ (joined ts ++ 93 ∷ []))
  Canon (object ms) t = (ps : List Member) × (es : List Member) × CanonMembers ms ps × IsInOrder ps es × (t ≡ 123 ∷ (joined (map member_text es) ++ 125 ∷ []))

  pub CanonItems : Items → List (List ℕ) → Type 0
  CanonItems no_items ts = ts ≡ []
  CanonItems (item d ds) ts = (t : List ℕ) × (rest : List (List ℕ)) × Canon d t × CanonItems ds rest × (ts ≡ t ∷ rest)

  pub CanonMembers : Members → List Member → Type 0
  CanonMembers no_members ps = ps ≡ []
  CanonMembers (member k d ms) ps = (t : List ℕ) × (rest : List Member) × Canon d t × CanonMembers ms rest × (ps ≡ (nfc_text k, t) ∷ rest)

-- one of the members has a name with this NFC
abbrev pub has_name : List ℕ → Members → Bool
has_name n no_members = false
has_name n (member k d ms) = bytes_eq n (nfc_text k) || has_name n ms

abbrev mutual
  -- an object in the value has two names with one NFC
  pub shares_name : Data → Bool
  shares_name null = false
  shares_name (boolean b) = false
  shares_name (number n) = false
  shares_name (string s) = false
  shares_name (array ds) = items_share_name ds
  shares_name (object ms) = members_share_name ms

  pub items_share_name : Items → Bool
  items_share_name no_items = false
  items_share_name (item d ds) = shares_name d || items_share_name ds

  pub members_share_name : Members → Bool
  members_share_name no_members = false
  members_share_name (member k d ms) = has_name (nfc_text k) ms || (shares_name d || members_share_name ms)

-- the value is one that this error is for
abbrev pub IsRefused : Data → CjsonError → Type 0
IsRefused d Float = has_float d ≡ true
IsRefused d SameName = (has_float d ≡ false) × (shares_name d ≡ true)
IsRefused d Memory = Unit {0}

abbrev pub AreItemsRefused : Items → CjsonError → Type 0
AreItemsRefused ds Float = items_have_float ds ≡ true
AreItemsRefused ds SameName = items_share_name ds ≡ true
AreItemsRefused ds Memory = Unit {0}

abbrev pub AreMembersRefused : Members → CjsonError → Type 0
AreMembersRefused ms Float = members_have_float ms ≡ true
AreMembersRefused ms SameName = members_share_name ms ≡ true
AreMembersRefused ms Memory = Unit {0}

-- for private clauses: the value holds what this error is for
abbrev pub Holds : Data → CjsonError → Type 0
Holds d Float = has_float d ≡ true
Holds d SameName = shares_name d ≡ true
Holds d Memory = Unit {0}

-- for private clauses: new is old with the text of the value at its end
abbrev pub Appends : Data → List ℕ → List ℕ → Type 0
Appends d old new = (t : List ℕ) × Canon d t × (new ≡ old ++ t)

-- for private clauses: the same for the items in brackets, and the members in braces
abbrev pub AppendsItems : Items → List ℕ → List ℕ → Type 0
AppendsItems ds old new = (ts : List (List ℕ)) × CanonItems ds ts × (new ≡ old ++ 91 ∷ (joined ts ++ 93 ∷ []))

abbrev pub AppendsMembers : Members → List ℕ → List ℕ → Type 0
AppendsMembers ms old new = (ps : List Member) × (es : List Member) × CanonMembers ms ps × IsInOrder ps es × (new ≡ old ++ 123 ∷ (joined (map member_text es) ++ 125 ∷ []))

-- the call gave this text, or found no memory
abbrev pub IsTextOrMemory : List ℕ → Result (Vec ℕ Global) CjsonError → Type 0
IsTextOrMemory t (Ok found) = found.items ≡ t
IsTextOrMemory t (Err Float) = ⊥
IsTextOrMemory t (Err SameName) = ⊥
IsTextOrMemory t (Err Memory) = Unit {0}
