-- Which document a JSON value is, if it is one. A member is taken out of its object; what is left when
-- all known members were taken are the unknown ones.
use Rattle.std.specs.Prelude.{Bool, ℕ, zero, suc, ℤ, List, [], ◌∷◌, Option, Some, None, option_map, option_and_then, Result, Ok, Err}
use Rattle.std.specs.Ordering.{nat_cmp, match_ordering}
use Rattle.std.specs.Cmp.Lexicographic.{slice_cmp}
use Rattle.tough_decoded.specs.Spelled.{Spelled, hex_bytes}
use Rattle.jiff.specs.Words.{parse_timestamp}
use Rattle.jiff_core.specs.declared.error.Error.{Error}
use Rattle.serde_json.specs.Data.{Data, null, boolean, number, string, array, object, Members, no_members, member, Items, no_items, item}
use Rattle.serde_json.specs.Find.{get_member, as_number, as_object, as_str, as_u64}

infixl 10 ◌>>=◌
abbrev pub ◌>>=◌ : {A B : Type 0} → Option A → (A → Option B) → Option B
(Some x) >>= f = f x
None >>= f = None

-- the members without the first of that name
abbrev pub without : List ℕ → Members → Members
without k no_members = no_members
without k (member l e ms) = match_ordering (slice_cmp nat_cmp k l) (member l e (without k ms)) ms (member l e (without k ms))

-- a member that must be there, and what is left
abbrev pub required : {A : Type 0} → List ℕ → (Data → Option A) → Members → Option (A × Members)
required k f ms = option_map (λ a. (a, without k ms)) (option_and_then f (get_member k ms))

-- null counts as absent
abbrev pub unless_null : Data → Option Data
unless_null null = None
unless_null (boolean b) = Some (boolean b)
unless_null (number n) = Some (number n)
unless_null (string s) = Some (string s)
unless_null (array ds) = Some (array ds)
unless_null (object ms) = Some (object ms)

abbrev pub present : List ℕ → Members → Option Data
present k ms = option_and_then unless_null (get_member k ms)

abbrev pub if_present : {A : Type 0} → (Data → Option A) → Option Data → Option (Option A)
if_present f None = Some None
if_present f (Some d) = option_map Some (f d)

-- one that may be absent, and what is left
abbrev pub optional : {A : Type 0} → List ℕ → (Data → Option A) → Members → Option (Option A × Members)
optional k f ms = option_map (λ a. (a, without k ms)) (if_present f (present k ms))

-- one that may be absent, where null is none, and what is left
abbrev pub stated : {A : Type 0} → List ℕ → (Data → Option A) → Members → Option (Option A × Members)
stated k f ms = option_map (λ a. (a, without k ms)) (if_present f (get_member k ms))

-- ---- the kinds of members

abbrev pub text : Data → Option (List ℕ)
text = as_str

abbrev pub whole : Data → Option ℕ
whole d = option_and_then as_u64 (as_number d)

abbrev pub if_positive : ℕ → Option ℕ
if_positive zero = None
if_positive (suc n) = Some (suc n)

abbrev pub positive : Data → Option ℕ
positive d = option_and_then if_positive (whole d)

abbrev pub spelled : (List ℕ → Option (List ℕ)) → List ℕ → Option Spelled
spelled decodes s = option_map (λ b. record { spelling = s; bytes = b }) (decodes s)

-- a text that stands for bytes
abbrev pub decoded : (List ℕ → Option (List ℕ)) → Data → Option Spelled
decoded decodes d = option_and_then (spelled decodes) (as_str d)

abbrev pub hexadecimal : Data → Option Spelled
hexadecimal = decoded hex_bytes

abbrev pub if_read : Result ℤ Error → Option ℤ
if_read (Ok z) = Some z
if_read (Err e) = None

abbrev pub instant : Data → Option ℤ
instant d = option_and_then (λ s. if_read (parse_timestamp s)) (as_str d)

-- an object from names to values that f reads
unfoldable pub each : {A : Type 0} → (Data → Option A) → Members → Option (List (List ℕ × A))
each f no_members = Some []
each f (member k d ms) = do
  a ← f d
  rest ← each f ms
  Some ((k, a) ∷ rest)

abbrev pub mapping : {A : Type 0} → (Data → Option A) → Data → Option (List (List ℕ × A))
mapping f d = option_and_then (each f) (as_object d)

-- the items of an array
abbrev pub as_items : Data → Option Items
as_items null = None
as_items (boolean b) = None
as_items (number n) = None
as_items (string s) = None
as_items (array ds) = Some ds
as_items (object ms) = None

abbrev pub truth : Data → Option Bool
truth null = None
truth (boolean b) = Some b
truth (number n) = None
truth (string s) = None
truth (array ds) = None
truth (object ms) = None

-- each of some items, as f reads it
unfoldable pub all_at : {A : Type 0} → (Data → Option A) → Items → Option (List A)
all_at f no_items = Some []
all_at f (item d ds) = do
  a ← f d
  rest ← all_at f ds
  Some (a ∷ rest)

abbrev pub listing : {A : Type 0} → (Data → Option A) → Data → Option (List A)
listing f d = option_and_then (all_at f) (as_items d)
