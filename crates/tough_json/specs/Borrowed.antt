-- JSON that borrows its text, and the value that it stands for: none where a number is out of range.
use Rattle.std.specs.Prelude.{◌≡◌, ℕ, List, [], ◌∷◌, Option, Some, None, Result, Ok, Err, ⊤}
use Rattle.std.specs.Borrow.{Bor}
use Rattle.json.specs.Value.{value_view}
use Rattle.json.specs.declared.value.Value.{Value}
use Rattle.serde_json.specs.Data.{Data, Members, no_members, member}
use Rattle.serde_json.specs.Read.{of_json, read}
use Rattle.serde_json.specs.Find.{get_member}
use Rattle.tough_json.specs.Reading.{◌>>=◌, without}
use Rattle.tough_json.specs.declared.error.ReadError.{ReadError}
use Rattle.tough_json.specs.declared.error.ReadError.TheVariants as errors
use Rattle.tough_json.specs.Results.{json_of, RefusesJson}

-- a part as a value, if it is one; want of memory says nothing
abbrev pub RefusesPart : {Y : Type 0} → ReadError → Option Y → Type 0
RefusesPart (errors.Json place) answer = answer ≡ None
RefusesPart (errors.Shape s) answer = ⊥
RefusesPart errors.Memory answer = ⊤

abbrev pub Converts : {X Y : Type 0} → (X → Y) → Result X ReadError → Option Y → Type 0
Converts view (Ok x) answer = answer ≡ Some (view x)
Converts view (Err e) answer = RefusesPart e answer

-- a text as JSON, where the numbers may be out of range
abbrev pub RefusesDocument : ReadError → List ℕ → Type 0
RefusesDocument (errors.Json place) text = read text ≡ None
RefusesDocument (errors.Shape s) text = ⊥
RefusesDocument errors.Memory text = ⊤

abbrev pub ReadsDocument : {A : Type 0} → Result (Value A) ReadError → List ℕ → Type 0
ReadsDocument (Ok value) text = read text ≡ of_json (value_view value)
ReadsDocument (Err e) text = RefusesDocument e text

-- bytes as JSON, which stands for the value that they are
abbrev pub ReadsBorrowed : {A : Type 0} → Result (Value A) ReadError → List ℕ → Type 0
ReadsBorrowed (Ok value) bytes = (d : Data) × (json_of bytes ≡ Some d) × (of_json (value_view value) ≡ Some d)
ReadsBorrowed (Err e) bytes = RefusesJson e bytes

-- the object of these members, which have each name once and in order
unfoldable pub listed : {A : Type 0} → List (Bor (List ℕ) × Value A) → Option Members
listed [] = Some no_members
listed (e ∷ es) = do
  d ← of_json (value_view e.1)
  rest ← listed es
  Some (member e.0.now d rest)

-- the member of the name as JSON, and the object of the others; there must be one
abbrev pub RefusesMember : List ℕ → Members → ReadError → Type 0
RefusesMember name ms (errors.Json place) = ⊥
RefusesMember name ms (errors.Shape s) = get_member name ms ≡ None
RefusesMember name ms errors.Memory = ⊤

abbrev pub TakesMember : {A X : Type 0} → (X → Members) → List ℕ → Members → Result (Value A × X) ReadError → Type 0
TakesMember view name ms (Ok p) = (d : Data) × (of_json (value_view p.0) ≡ Some d) × (get_member name ms ≡ Some d) × (view p.1 ≡ without name ms)
TakesMember view name ms (Err e) = RefusesMember name ms e
