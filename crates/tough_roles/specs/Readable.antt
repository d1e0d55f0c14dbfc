-- Which JSON values are read again from their compact text (RFC 8259), as those of a program are.
use Rattle.std.specs.Prelude.{◌≡◌, ◌≤◌, ◌<◌, ◌^◌, ℕ, pos, int_lt, true, List, Option, None, Some, IsUtf8}
use lib.Signed.{mag}
use Rattle.serde_json.specs.Data.{Num, unsigned, negative, float, Data, null, boolean, number, string, array, object, Items, no_items, item, Members, no_members, member, depth}
use Rattle.serde_json.specs.Read.{max_depth}
use Rattle.tough_json.specs.Pieces.{IsBelow}
use Rattle.tough_json.specs.Results.{json_of}
use Rattle.tough_roles.specs.Document.{IsSigned}
use Rattle.tough_roles.specs.declared.signed.Signed.{Signed}

-- an integer of 64 bits, held as negative exactly where it is
abbrev pub IsWord : Num → Type 0
IsWord (unsigned n) = n < 2 ^ 64
IsWord (negative z) = (int_lt z (pos 0) ≡ true) × (mag z < 2 ^ 63)
IsWord (float x) = Unit {0}

-- Integers are of 64 bits, texts and names are UTF-8, and the names of an object rise by their bytes: so is each
-- `serde_json::Value`.
abbrev mutual
  pub IsValue : Data → Type 0
  IsValue null = Unit {0}
  IsValue (boolean b) = Unit {0}
  IsValue (number n) = IsWord n
  IsValue (string s) = IsUtf8 s
  IsValue (array ds) = AreValues ds
  IsValue (object ms) = AreMembers ms

  pub AreValues : Items → Type 0
  AreValues no_items = Unit {0}
  AreValues (item d ds) = IsValue d × AreValues ds

  pub AreMembers : Members → Type 0
  AreMembers no_members = Unit {0}
  AreMembers (member k d ms) = IsUtf8 k × IsBelow k ms × IsValue d × AreMembers ms

-- a value that nests no deeper than is read
pub record IsReadable (d : Data) : Type 0 where
  pub value : IsValue d
  pub shallow : depth d ≤ max_depth

-- the JSON nests no deeper than this, where there is one
abbrev pub NestsWithin : ℕ → Option Data → Type 0
NestsWithin n None = Unit {0}
NestsWithin n (Some d) = depth d ≤ n

-- the bytes are JSON that is read as the document
abbrev pub IsTextOf : {T : Type 0} → (Data → T → Type 0) → Signed T → List ℕ → Type 0
IsTextOf is_read s bytes = (d : Data) × (json_of bytes ≡ Some d) × IsSigned is_read d s
