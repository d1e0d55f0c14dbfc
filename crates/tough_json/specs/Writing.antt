-- The JSON of a document. A member is put in only where its name is free, so no extra hides a member.
use Rattle.std.specs.Prelude.{ℕ, zero, suc, List, [], ◌∷◌, Option, Some, None, Bool, false, if◌then◌else◌}
use Rattle.std.specs.Str.{bytes_eq}
use Rattle.tough_decoded.specs.Spelled.{Spelled, hex_bytes}
use Rattle.serde_json.specs.Data.{Data, number, unsigned, string, Members, no_members, member, put, Items, no_items, item}
use Rattle.serde_json.specs.Find.{get_member}
use Rattle.tough_json.specs.Reading.{◌>>=◌}

abbrev pub if_free : {A : Type 0} → Option Data → A → Option A
if_free None a = Some a
if_free (Some d) a = None

-- the members with one more
abbrev pub with : List ℕ → Data → Members → Option Members
with k d ms = if_free (get_member k ms) (put k d ms)

-- an absent one is not written, and nothing stands in its place
abbrev pub with_optional : List ℕ → Option Data → Members → Option Members
with_optional k None ms = if_free (get_member k ms) ms
with_optional k (Some d) ms = with k d ms

-- each name with what f writes
unfoldable pub named : {A : Type 0} → (A → Option Data) → List (List ℕ × A) → Option Members
named f [] = Some no_members
named f (e ∷ es) = do
  d ← f e.1
  ms ← named f es
  Some (member e.0 d ms)

abbrev pub positive_json : ℕ → Option Data
positive_json zero = None
positive_json (suc n) = Some (number (unsigned (suc n)))

abbrev pub optional_json : {A : Type 0} → (A → Option Data) → Option A → Option (Option Data)
optional_json f None = Some None
optional_json f (Some a) = f a >>= λ d. Some (Some d)

abbrev pub length_json : ℕ → Option Data
length_json n = Some (number (unsigned n))

-- a spelling that stands for its bytes, as that of each value of the program does
abbrev pub stands_for : Option (List ℕ) → List ℕ → Bool
stands_for None bytes = false
stands_for (Some found) bytes = bytes_eq found bytes

abbrev pub decoded_json : (List ℕ → Option (List ℕ)) → Spelled → Option Data
decoded_json decodes s = if stands_for (decodes s.spelling) s.bytes then Some (string s.spelling) else None

abbrev pub hexadecimal_json : Spelled → Option Data
hexadecimal_json = decoded_json hex_bytes

-- each of some values as an item
unfoldable pub all_json : {A : Type 0} → (A → Option Data) → List A → Option Items
all_json f [] = Some no_items
all_json f (a ∷ rest) = do
  d ← f a
  ds ← all_json f rest
  Some (item d ds)
