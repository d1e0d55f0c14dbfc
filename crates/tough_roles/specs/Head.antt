-- What each role has: the version of the specification, its own version, and when it expires
-- (TUF specification 1.0, section 4.2.1).
use Rattle.std.specs.Prelude.{ℕ, ℤ, List, Option, Some, codes}
use Rattle.serde_json.specs.Data.{string, Members}
use Rattle.tough_json.specs.Reading.{◌>>=◌, required, without, text, positive, instant}
use Rattle.tough_json.specs.Writing.{with, positive_json}
use Rattle.tough_json.specs.Moment.{moment_text}

-- `expires` in nanoseconds since 1970-01-01T00:00:00Z
pub record Head : Type 0 where
  pub spec_version : List ℕ
  pub version : ℕ
  pub expires : ℤ

-- the head, and the members that are left; what stands under `_type` is dropped
unfoldable pub head_at : Members → Option (Head × Members)
head_at members = do
  spec_version ← required (codes "spec_version") text members
  version ← required (codes "version") positive spec_version.1
  expires ← required (codes "expires") instant version.1
  Some (record { spec_version = spec_version.0; version = version.0; expires = expires.0 }, without (codes "_type") expires.1)

-- one more member that is an instant
abbrev pub with_moment : List ℕ → ℤ → Members → Option Members
with_moment name z members = moment_text z >>= λ text. with name (string text) members

-- the members with those of a head, and the role's name as `_type`
unfoldable pub head_json : List ℕ → Head → Members → Option Members
head_json kind head members = do
  typed ← with (codes "_type") (string kind) members
  expires ← with_moment (codes "expires") head.expires typed
  value ← positive_json head.version
  version ← with (codes "version") value expires
  with (codes "spec_version") (string head.spec_version) version
