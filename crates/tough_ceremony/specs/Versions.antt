-- Versions that follow one another (TUF specification 1.0, sections 4.3 and 4.6).
use Rattle.std.specs.Prelude.{◌≡◌, ℕ, ℤ, ◌+◌, ◌^◌}
use Rattle.tough_roles.specs.Root.{RootDoc}
use Rattle.tough_roles.specs.Timestamp.{TimestampDoc}
use Rattle.tough_ceremony.specs.declared.error.CeremonyError.{CeremonyError}
use Rattle.tough_ceremony.specs.declared.error.CeremonyError.TheVariants as errors

-- the root, with the next version
abbrev pub next_version : RootDoc → RootDoc
next_version r = record r { head = record r.head { version = r.head.version + 1 } }

-- the timestamp, with the next version, which expires then
abbrev pub renewed : ℤ → TimestampDoc → TimestampDoc
renewed expires t = record t { head = record t.head { version = t.head.version + 1; expires = expires } }

-- the version is the last one of 64 bits
abbrev pub IsLast : ℕ → CeremonyError → Type 0
IsLast version error = (error ≡ errors.LastVersion) × (version + 1 ≡ 2 ^ 64)
