-- What a reader of the code answers, beside what reading gives.
use Rattle.std.specs.Prelude.{◌≡◌, ℕ, List, Option, Some, None, Result, Ok, Err, ⊤, if◌then◌else◌}
use Rattle.std.specs.Str.{is_utf8}
use Rattle.serde_json.specs.Data.{Data, Members}
use Rattle.serde_json.specs.Read.{read}
use Rattle.tough_json.specs.declared.error.ReadError.{ReadError}
use Rattle.tough_json.specs.declared.error.ReadError.TheVariants as errors
use Rattle.tough_json.specs.declared.error.WriteError.{WriteError}
use Rattle.tough_json.specs.declared.error.WriteError.TheVariants as writes

-- a refusal of a value that is JSON: want of memory says nothing
abbrev pub Refuses : {Y : Type 0} → ReadError → Option Y → Type 0
Refuses (errors.Json place) answer = ⊥
Refuses (errors.Shape s) answer = answer ≡ None
Refuses errors.Memory answer = ⊤

-- what was read, seen by view, is the answer
abbrev pub Reads : {X Y : Type 0} → (X → Y) → Result X ReadError → Option Y → Type 0
Reads view (Ok x) answer = answer ≡ Some (view x)
Reads view (Err e) answer = Refuses e answer

-- the same where members are left
abbrev pub Takes : {X Y : Type 0} → (X → Y) → Result X ReadError → Members → Option (Y × Members) → Type 0
Takes view (Ok x) left answer = answer ≡ Some (view x, left)
Takes view (Err e) left answer = Refuses e answer

-- The JSON value that the bytes are: UTF-8, and JSON (RFC 8259) that nests no deeper than serde_json reads.
unfoldable pub json_of : List ℕ → Option Data
json_of bytes = if is_utf8 bytes then read bytes else None

-- The same from bytes: the value is that of the bytes, or these are no JSON.
abbrev pub RefusesBytes : {Y : Type 0} → ReadError → List ℕ → (Data → Option Y) → Type 0
RefusesBytes (errors.Json place) bytes f = json_of bytes ≡ None
RefusesBytes (errors.Shape s) bytes f = (d : Data) × (json_of bytes ≡ Some d) × (f d ≡ None)
RefusesBytes errors.Memory bytes f = ⊤

abbrev pub ReadsBytes : {X Y : Type 0} → (X → Y) → Result X ReadError → List ℕ → (Data → Option Y) → Type 0
ReadsBytes view (Ok x) bytes f = (d : Data) × (json_of bytes ≡ Some d) × (f d ≡ Some (view x))
ReadsBytes view (Err e) bytes f = RefusesBytes e bytes f

-- bytes as a value: they are no JSON, or want of memory
abbrev pub RefusesJson : ReadError → List ℕ → Type 0
RefusesJson (errors.Json place) bytes = json_of bytes ≡ None
RefusesJson (errors.Shape s) bytes = ⊥
RefusesJson errors.Memory bytes = ⊤

abbrev pub ReadsJson : {X : Type 0} → (X → Data) → Result X ReadError → List ℕ → Type 0
ReadsJson view (Ok x) bytes = json_of bytes ≡ Some (view x)
ReadsJson view (Err e) bytes = RefusesJson e bytes

-- no value is refused as no JSON
abbrev pub IsRefusal : ReadError → Type 0
IsRefusal (errors.Json place) = ⊥
IsRefusal (errors.Shape s) = ⊤
IsRefusal errors.Memory = ⊤

-- What a writer of the code answers, beside what writing gives.
abbrev pub RefusesWrite : {Y : Type 0} → WriteError → Option Y → Type 0
RefusesWrite writes.Unwritable answer = answer ≡ None
RefusesWrite writes.Memory answer = ⊤

abbrev pub Writes : {X Y : Type 0} → (X → Y) → Result X WriteError → Option Y → Type 0
Writes view (Ok x) answer = answer ≡ Some (view x)
Writes view (Err e) answer = RefusesWrite e answer
