-- Objects whose names are ASCII, which are their own NFC.
use Rattle.std.specs.Prelude.{IsAscii}
use Rattle.serde_json.specs.Data.{Members, no_members, member}

-- each of the members has an ASCII name
abbrev pub HaveAsciiNames : Members → Type 0
HaveAsciiNames no_members = Unit {0}
HaveAsciiNames (member k d ms) = IsAscii k × HaveAsciiNames ms
