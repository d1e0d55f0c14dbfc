-- Objects that are written member by member: the text of an object is told by the texts of its members, where their names
-- stand as they are and rise.
use Rattle.std.specs.declared.alloc.Global.{Global}
use Rattle.std.specs.Prelude.{◌≡◌, ℕ, nat_lt, ◌==◌, ◌&&◌, not, Bool, true, false, if◌then◌else◌, List, [], ◌∷◌, ◌++◌, Option, Some, None, String, string_bytes}
use Rattle.std.specs.Cmp.Lexicographic.{slice_cmp}
use Rattle.std.specs.declared.cmp.Ordering.TheVariants.{Less}
use Rattle.std.specs.List.{list_all}
use Rattle.std.specs.Ordering.{nat_cmp}
use Rattle.std.specs.Str.{IsAscii, bytes_eq}
use Rattle.serde_json.specs.Data.{Data, Members, no_members, member}
use Rattle.serde_json.specs.Written.{has_float, compact_text}
use Rattle.tough_cjson.specs.Canon.{joined}
use Rattle.tough_cjson.specs.CanonicalText.{canonical_of}
use Rattle.tough_json.specs.declared.pieces.Form.{Form}
use Rattle.tough_json.specs.declared.pieces.Form.TheVariants as forms
use Rattle.tough_json.specs.declared.pieces.ObjectText.{ObjectText}
use Rattle.tough_json.specs.declared.pieces.OpenObject.{OpenObject}

-- compact JSON (RFC 8259), which no value with a float has
abbrev pub compact_of : Data → Option (List ℕ)
compact_of d = if has_float d then None else Some (compact_text d)

-- the text that both are
abbrev pub agreed : Option (List ℕ) → Option (List ℕ) → Option (List ℕ)
agreed (Some s) (Some t) = if bytes_eq s t then Some s else None
agreed _ _ = None

-- the text of a value: the canonical one (OLPC canonical JSON), the compact one, or that which is both, if there is one
abbrev pub text_in : Form → Data → Option (List ℕ)
text_in forms.Canonical d = canonical_of d
text_in forms.Compact d = compact_of d
text_in forms.Both d = agreed (canonical_of d) (compact_of d)

-- no control character, no quote and no backslash
abbrev pub is_simple_byte : ℕ → Bool
is_simple_byte b = not (nat_lt b 32) && (not (b == 34) && not (b == 92))

-- a name that stands in quotes as it is: ASCII with none of these
abbrev pub IsSimple : List ℕ → Type 0
IsSimple s = IsAscii s × (list_all is_simple_byte s ≡ true)

-- the name is below each of the members'
abbrev pub IsBelow : List ℕ → Members → Type 0
IsBelow n no_members = Unit {0}
IsBelow n (member k d ms) = (slice_cmp nat_cmp n k ≡ Less) × IsBelow n ms

-- each of the members' names is below the name
abbrev pub AreBelow : List ℕ → Members → Type 0
AreBelow n no_members = Unit {0}
AreBelow n (member k d ms) = (slice_cmp nat_cmp k n ≡ Less) × AreBelow n ms

-- each name stands as it is, and they rise
abbrev pub AreSimple : Members → Type 0
AreSimple no_members = Unit {0}
AreSimple (member k d ms) = IsSimple k × IsBelow k ms × AreSimple ms

-- the members with one more at their end
abbrev pub and_last : Members → List ℕ → Data → Members
and_last no_members n x = member n x no_members
and_last (member k d ms) n x = member k d (and_last ms n x)

-- the members with that value in the place of each of the name
abbrev pub replaced : List ℕ → Data → Members → Members
replaced n x no_members = no_members
replaced n x (member k d ms) = member k (if bytes_eq k n then x else d) (replaced n x ms)

-- the text of a member: its name in quotes, a colon, and the value's text
abbrev pub piece : List ℕ → List ℕ → List ℕ
piece k t = 34 ∷ (k ++ 34 ∷ 58 ∷ t)

-- the members' texts in turn
abbrev pub ArePieces : Form → Members → List (List ℕ) → Type 0
ArePieces form no_members ts = ts ≡ []
ArePieces form (member k d ms) ts = (t : List ℕ) × (rest : List (List ℕ)) × (text_in form d ≡ Some t) × ArePieces form ms rest × (ts ≡ piece k t ∷ rest)

abbrev pub is_none_yet : List (List ℕ) → Bool
is_none_yet [] = true
is_none_yet (t ∷ ts) = false

-- the text is the one before with that text behind it, if there is one
abbrev pub Appends : List ℕ → Option (List ℕ) → List ℕ → Type 0
Appends before o after = (s : List ℕ) × (o ≡ Some s) × (after ≡ before ++ s)

-- behind the base stands the object of these members, but for the brace at its end
pub record Stands (base : List ℕ) (form : Form) (ms : Members) (o : ObjectText) : Type 0 where
  pub kind : o.form ≡ form
  pub simple : AreSimple ms
  pub above : (n : List ℕ) → slice_cmp nat_cmp (string_bytes o.last) n ≡ Less → AreBelow n ms
  pub pieces : List (List ℕ)
  pub told : ArePieces form ms pieces
  pub text : o.text.items ≡ base ++ 123 ∷ joined pieces
  pub first : o.is_first ≡ is_none_yet pieces

-- behind that stands the name of one more member, which is the last one, and its value is still to come
pub record IsNamed (base : List ℕ) (form : Form) (ms : Members) (n : List ℕ) (kind : Form) (last : String Global) (text : List ℕ) : Type 0 where
  pub same : kind ≡ form
  pub simple : AreSimple ms
  pub here : IsSimple n
  pub below : AreBelow n ms
  pub named : string_bytes last ≡ n
  pub pieces : List (List ℕ)
  pub told : ArePieces form ms pieces
  pub written : text ≡ (base ++ 123 ∷ joined pieces) ++ ((if is_none_yet pieces then [] else 44 ∷ []) ++ piece n [])

abbrev pub IsOpen : List ℕ → Form → Members → List ℕ → OpenObject → List ℕ → Type 0
IsOpen base form ms n o text = IsNamed base form ms n o.form o.last text
