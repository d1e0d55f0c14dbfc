-- How texts stand before a reader: without control characters, and URLs without their passwords.
use Rattle.std.specs.Prelude.{◌==◌, ℕ, zero, suc, List, [], ◌∷◌, ◌++◌, Option, Some, None, if◌then◌else◌, codes, false, drop, length, option_map, nat_lt, nat_eq, encode_utf8}
use Rattle.std.specs.Char.{is_control}
use Rattle.std.specs.Fmt.{digits}
use Rattle.std.specs.Str.{chars}
use Rattle.std.specs.Option.{option_and_then}
use Rattle.std.specs.List.{before_first, after_first, position_or_len, starts_with}

-- a control character (Unicode, general category Cc) by its number in hexadecimal digits, any other as it is
abbrev pub mark : ℕ → List ℕ
mark c = if is_control c then codes "\\u{" ++ digits 16 false c ++ codes "}" else encode_utf8 c

-- so many of these characters, and dots for the others
unfoldable pub shown_of : ℕ → List ℕ → List ℕ
shown_of n [] = []
shown_of zero (c ∷ cs) = codes "..."
shown_of (suc n) (c ∷ cs) = mark c ++ shown_of n cs

abbrev pub printable : List ℕ → List ℕ
printable text = shown_of 1024 (chars text)

-- ---- the parts of a text

-- up to the first c, or all
abbrev pub until : ℕ → List ℕ → List ℕ
until c text = before_first (λ b. b == c) text

-- up to the first c, and behind it
abbrev pub split : ℕ → List ℕ → Option (List ℕ × List ℕ)
split c text = if nat_lt (position_or_len (λ b. b == c) text) (length text) then Some (until c text, after_first (λ b. b == c) text) else None

abbrev pub ahead_of : ℕ → ℕ → Option (List ℕ) → Option (List ℕ)
ahead_of c b (Some front) = Some (b ∷ front)
ahead_of c b None = if b == c then Some [] else None

-- up to the last c
unfoldable pub ahead : ℕ → List ℕ → Option (List ℕ)
ahead c [] = None
ahead c (b ∷ bs) = ahead_of c b (ahead c bs)

-- behind this beginning
abbrev pub past : List ℕ → List ℕ → Option (List ℕ)
past front text = if starts_with nat_eq text front then Some (drop (length front) text) else None

-- ---- URLs

-- the parts of a URL with a password: its scheme, its user, and all that stands behind the password
pub record Parts : Type 0 where
  pub scheme : List ℕ
  pub user : List ℕ
  pub behind : List ℕ

-- the authority goes up to a slash, a question mark or a number sign (RFC 3986, section 3.2)
abbrev pub authority : List ℕ → List ℕ
authority text = until 35 (until 63 (until 47 text))

-- SCHEME "://" USER ":" PASSWORD "@" and more (RFC 3986, sections 3 and 3.2.1): the user information goes up to the last at sign of the
-- authority, and the user up to the first colon in it
abbrev pub parts : List ℕ → Option Parts
parts text =
    option_and_then (λ first.
    option_and_then (λ rest.
    option_and_then (λ info.
    option_and_then (λ user.
    option_map (λ behind. record { scheme = first.0; user = user.0; behind = behind })
    (past info rest)) (split 58 info)) (ahead 64 (authority rest))) (past (codes "//") first.1)) (split 58 text)

abbrev pub shown_by : List ℕ → Option Parts → List ℕ
shown_by text None = printable text
shown_by text (Some p) = printable p.scheme ++ codes "://" ++ printable p.user ++ codes ":***" ++ printable p.behind

-- a text, with three asterisks in the place of a password
abbrev pub shown : List ℕ → List ℕ
shown text = shown_by text (parts text)
