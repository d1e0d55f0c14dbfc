-- Textual encodings (RFC 7468), in the form of its figure 2.
use Rattle.std.specs.Prelude.{◌≡◌, ℕ, zero, suc, Bool, true, not, ◌&&◌, ◌||◌, nat_lt, nat_le, nat_eq, if◌then◌else◌, List, [], ◌∷◌, ◌++◌, length, take, drop, filter, codes, Option, Some, None, Result, Ok, Err}
use Rattle.std.specs.List.{list_all, position}
use Rattle.base64.specs.Engines.{standard}
use Rattle.base64.specs.GeneralPurpose.{encode_of, decode_of}
use Rattle.tough_der.specs.Reading.{◌>>=◌, after}

-- W (3): tab, line ends, vertical tab, form feed, space
abbrev pub is_space : ℕ → Bool
is_space b = (nat_le 9 b && nat_le b 13) || nat_eq b 32

abbrev pub is_dash : ℕ → Bool
is_dash b = nat_eq b 45

abbrev pub is_symbol : ℕ → Bool
is_symbol b = not (is_space b)

-- without spaces and line ends
abbrev pub squeezed : List ℕ → List ℕ
squeezed text = filter is_symbol text

-- the line that begins so and has this label
abbrev pub line : List ℕ → List ℕ → List ℕ
line kind label = kind ++ (label ++ codes "-----")

-- preeb (3)
abbrev pub begin_line : List ℕ → List ℕ
begin_line label = line (codes "-----BEGIN ") label

-- posteb (3)
abbrev pub end_line : List ℕ → List ℕ
end_line label = line (codes "-----END ") label

-- The text is the two lines with this label, and between them the base64 (RFC 4648, 4) of the bytes, broken by spaces
-- and line ends anywhere; nothing but those follows.
pub record IsPem (label text bytes : List ℕ) : Type 0 where
  pub inner : List ℕ
  pub rest : List ℕ
  pub is : text ≡ begin_line label ++ (inner ++ (end_line label ++ rest))
  pub symbols : squeezed inner ≡ encode_of standard bytes
  pub spaces : list_all is_space rest ≡ true

-- ---- reading

-- what follows the line
unfoldable pub after_line : List ℕ → List ℕ → List ℕ → Option (List ℕ)
after_line kind label text = do
  a ← after kind text
  b ← after label a
  after (codes "-----") b

-- what stands between the lines
unfoldable pub between : List ℕ → List ℕ → Option (List ℕ)
between label text = do
  body ← after_line (codes "-----BEGIN ") label text
  at ← position is_dash body
  rest ← after_line (codes "-----END ") label (drop at body)
  if list_all is_space rest then Some (take at body) else None

-- the symbols, where they are no more than these
abbrev pub at_most : ℕ → List ℕ → Option (List ℕ)
at_most n symbols = if nat_lt n (length symbols) then None else Some symbols

abbrev pub bytes_or_none : {E : Type 0} → Result (List ℕ) E → Option (List ℕ)
bytes_or_none (Ok bytes) = Some bytes
bytes_or_none (Err e) = None

-- the bytes of base64 of no more than 4,096 symbols
unfoldable pub symbols_of : List ℕ → Option (List ℕ)
symbols_of inner = do
  symbols ← at_most 4096 (squeezed inner)
  bytes_or_none (decode_of standard symbols)

unfoldable pub pem_of : List ℕ → List ℕ → Option (List ℕ)
pem_of label text = do
  inner ← between label text
  symbols_of inner

-- ---- writing

-- the symbols with a line end where so many more have come, then after every 64, and at the end
abbrev pub in_lines : ℕ → List ℕ → List ℕ
in_lines room [] = 10 ∷ []
in_lines zero (c ∷ cs) = 10 ∷ c ∷ in_lines 63 cs
in_lines (suc room) (c ∷ cs) = c ∷ in_lines room cs

-- the strict form (3, figure 3)
unfoldable pub pem_text : List ℕ → List ℕ → List ℕ
pem_text label bytes =
    begin_line label ++ ((10 ∷ in_lines 64 (encode_of standard bytes)) ++ (end_line label ++ (10 ∷ [])))
