-- What is said of a target file (TUF specification 1.0, section 4.5, TARGETS).
use Rattle.std.specs.Prelude.{◌≡◌, ℕ, Option, Some, None, option_map, codes}
use Rattle.serde_json.specs.Data.{Data, object, Members, no_members, member}
use Rattle.serde_json.specs.Find.{get_member, as_object}
use Rattle.serde_json.specs.View.{members_view}
use Rattle.tough_json.specs.Reading.{◌>>=◌, required, without, whole}
use Rattle.tough_json.specs.Writing.{with, with_optional, length_json}
use Rattle.tough_roles.specs.Timestamp.{HashesDoc, hashes_doc, hashes_at, hashes_json}
use Rattle.tough_schema.specs.declared.target.Target.{Target}

pub record TargetDoc : Type 0 where
  pub length : ℕ
  pub hashes : HashesDoc
  pub custom : Members
  pub extra : Members

abbrev pub target_doc : Target → TargetDoc
target_doc t = record { length = t.length; hashes = hashes_doc t.hashes; custom = members_view t.custom.entries; extra = members_view t._extra.entries }

-- an object that may be absent, which counts as the empty one
abbrev pub object_or_empty : Option Data → Option Members
object_or_empty None = Some no_members
object_or_empty (Some d) = as_object d

-- the member, and what is left
abbrev pub custom_at : Members → Option (Members × Members)
custom_at ms = option_map (λ c. (c, without (codes "custom") ms)) (object_or_empty (get_member (codes "custom") ms))

unfoldable pub target_at : Data → Option TargetDoc
target_at d = do
  members ← as_object d
  length ← required (codes "length") whole members
  hashes ← required (codes "hashes") hashes_at length.1
  custom ← custom_at hashes.1
  Some (record { length = length.0; hashes = hashes.0; custom = custom.0; extra = custom.1 })

-- the empty object isn't written
abbrev pub unless_empty : Members → Option Data
unless_empty no_members = None
unless_empty (member k d ms) = Some (object (member k d ms))

unfoldable pub target_json : TargetDoc → Option Data
target_json t = do
  custom ← with_optional (codes "custom") (unless_empty t.custom) t.extra
  inner ← hashes_json t.hashes
  hashes ← with (codes "hashes") inner custom
  size ← length_json t.length
  members ← with (codes "length") size hashes
  Some (object members)

-- it states a length and its SHA-256 alone
abbrev pub IsPlain : TargetDoc → Type 0
IsPlain t = (t.custom ≡ no_members) × (t.extra ≡ no_members) × (t.hashes.sha512 ≡ None) × (t.hashes.extra ≡ no_members)
