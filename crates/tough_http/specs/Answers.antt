-- What an answer over HTTP tells a fetch.
use Rattle.std.specs.Prelude.{◌⊎◌, ℕ, List, [], ◌∷◌, codes}
use Rattle.memchr.specs.Find.{OccursAt}
use Rattle.http_header.specs.HeaderMap.{Entries, get_all}
use Rattle.http_header.specs.declared.value.HeaderValue.{HeaderValue}

-- the part stands somewhere in the text
abbrev pub HasPart : List ℕ → List ℕ → Type 0
HasPart text part = (at : ℕ) × OccursAt text part at

-- the part stands in some of these fields' values
abbrev pub IsInSome : List ℕ → List HeaderValue → Type 0
IsInSome part [] = ⊥
IsInSome part (value ∷ values) = HasPart value.bytes part ⊎ IsInSome part values

-- The answerer serves ranges of bytes: some field Accept-Ranges, RFC 9110, section 14.3, has that unit in its value.
abbrev pub AcceptsBytes : Entries HeaderValue → Type 0
AcceptsBytes fields = IsInSome (codes "bytes") (get_all fields (codes "accept-ranges"))
