-- URLs that names of files are joined to (TUF specification 1.0, section 5): the last part of such a URL is to be a folder.
use Rattle.std.specs.Prelude.{◌≡◌, ◌≤◌, ◌⊎◌, ◌+◌, ◌^◌, ◌++◌, ℕ, List, length, nat_eq, codes, string_bytes, None, Some, Ok, Err, if◌then◌else◌, ⊤}
use Rattle.std.specs.List.{ends_with}
use Rattle.url.specs.Parts.{Parts, serialize}
use Rattle.url.specs.Parser.{Parsed, parse_url}
use Rattle.url.specs.declared.error.ParseError.{ParseError}
use Rattle.url.specs.declared.error.ParseError.TheVariants.{Overflow}
use Rattle.tough_net.specs.declared.urls.JoinError.{JoinError}
use Rattle.tough_net.specs.declared.urls.JoinError.TheVariants as join
use Rattle.tough_net.specs.declared.urls.SlashError.{SlashError}
use Rattle.tough_net.specs.declared.urls.SlashError.TheVariants as slash

-- texts of so many bytes aren't made a URL: this is what is wrong with them, or they are so long that their URL may be
abbrev pub Refuses : Parsed Parts → ℕ → ParseError → Type 0
Refuses expected len e = (expected ≡ Err e) ⊎ ((e ≡ Overflow) × (2 ^ 30 ≤ len))

-- the same, as it is told: memory may have been wanting
abbrev pub IsRefused : Parsed Parts → ℕ → JoinError → Type 0
IsRefused expected len (join.Parse e) = Refuses expected len e
IsRefused expected len join.Memory = ⊤

-- the name can't be joined to the base
abbrev pub CannotJoin : Parts → List ℕ → ParseError → Type 0
CannotJoin base name e = Refuses (parse_url (Some base) name) (length (serialize base) + length name) e

abbrev pub IsUnjoined : Parts → List ℕ → JoinError → Type 0
IsUnjoined base name e = IsRefused (parse_url (Some base) name) (length (serialize base) + length name) e

-- the text of the URL, and a slash
abbrev pub slashed : Parts → List ℕ
slashed url = serialize url ++ codes "/"

-- the URL itself where its text ends with a slash, else what its text and a slash are as a URL
abbrev pub with_slash : Parts → Parsed Parts
with_slash url = if ends_with nat_eq (serialize url) (codes "/") then Ok url else parse_url None (slashed url)

-- with a slash at its end it is no URL
abbrev pub CannotEnd : Parts → ParseError → Type 0
CannotEnd url e = Refuses (with_slash url) (length (slashed url)) e

abbrev pub IsUnslashed : Parts → SlashError → Type 0
IsUnslashed url (slash.Parse text e) = (string_bytes text ≡ slashed url) × CannotEnd url e
IsUnslashed url slash.Memory = ⊤
