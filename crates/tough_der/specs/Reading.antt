-- How the encodings are read; contracts and laws say what comes of it.
use Rattle.std.specs.Prelude.{ℕ, ◌+◌, ◌-◌, ◌*◌, Bool, false, not, ◌&&◌, nat_lt, nat_eq, if◌then◌else◌, List, [], ◌∷◌, ◌++◌, length, take, drop, replicate, Option, Some, None, option_map, option_and_then, bytes_eq}
use Rattle.std.specs.Borrow.{Bor}

-- a value and the bytes after it
abbrev pub Read : Type 0 → Type 0
Read A = Option (A × List ℕ)

-- what a function read, with the bytes behind its references
abbrev pub read_view : {A : Type 0} → Option (A × Bor (List ℕ)) → Read A
read_view r = option_map (λ p. (p.0, p.1.now)) r

abbrev pub bytes_view : Option (Bor (List ℕ)) → Option (List ℕ)
bytes_view r = option_map (λ p. p.now) r

abbrev pub pair_view : Option (Bor (List ℕ) × Bor (List ℕ)) → Option (List ℕ × List ℕ)
pair_view r = option_map (λ p. (p.0.now, p.1.now)) r

infixl 10 ◌>>=◌
abbrev pub ◌>>=◌ : {A B : Type 0} → Option A → (A → Option B) → Option B
o >>= f = option_and_then f o

-- ---- lengths

-- a length in one more octet
abbrev pub in_one : List ℕ → Read ℕ
in_one [] = None
in_one (a ∷ bs) = if nat_lt a 128 then None else Some (a, bs)

-- in two
abbrev pub in_two : List ℕ → Read ℕ
in_two [] = None
in_two (a ∷ []) = None
in_two (a ∷ b ∷ bs) = if nat_eq a 0 then None else Some (256 * a + b, bs)

-- in three
abbrev pub in_three : List ℕ → Read ℕ
in_three [] = None
in_three (a ∷ []) = None
in_three (a ∷ b ∷ []) = None
in_three (a ∷ b ∷ c ∷ bs) = if nat_eq a 0 then None else Some (256 * (256 * a + b) + c, bs)

-- in four
abbrev pub in_four : List ℕ → Read ℕ
in_four [] = None
in_four (a ∷ []) = None
in_four (a ∷ b ∷ []) = None
in_four (a ∷ b ∷ c ∷ []) = None
in_four (a ∷ b ∷ c ∷ d ∷ bs) =
    if nat_eq a 0 then None else Some (256 * (256 * (256 * a + b) + c) + d, bs)

-- by what the first octet says
unfoldable pub length_by : ℕ → List ℕ → Read ℕ
length_by first bs =
    if nat_lt first 128 then Some (first, bs)
    else (if nat_eq first 0x81 then in_one bs
    else (if nat_eq first 0x82 then in_two bs
    else (if nat_eq first 0x83 then in_three bs
    else (if nat_eq first 0x84 then in_four bs else None))))

abbrev pub length_at : List ℕ → Read ℕ
length_at [] = None
length_at (first ∷ bs) = length_by first bs

-- ---- elements

-- so many bytes, and what follows them
abbrev pub split : ℕ → List ℕ → Read (List ℕ)
split n bs = if nat_lt (length bs) n then None else Some (take n bs, drop n bs)

-- the contents of the element of this tag in front, and what follows it
unfoldable pub element : ℕ → List ℕ → Read (List ℕ)
element tag [] = None
element tag (t ∷ bs) = if nat_eq t tag then length_at bs >>= (λ p. split p.0 p.1) else None

abbrev pub if_last : List ℕ × List ℕ → Option (List ℕ)
if_last p = if nat_eq (length p.1) 0 then Some p.0 else None

-- the contents of the element of this tag, which nothing follows
unfoldable pub whole : ℕ → List ℕ → Option (List ℕ)
whole tag bs = element tag bs >>= if_last

-- what follows these bytes
unfoldable pub after : List ℕ → List ℕ → Option (List ℕ)
after front bs =
    if bytes_eq (take (length front) bs) front then Some (drop (length front) bs) else None

-- the bytes, where they are so many
abbrev pub of_length : ℕ → List ℕ → Option (List ℕ)
of_length n bs = if nat_eq (length bs) n then Some bs else None

-- ---- integers

-- not negative, and with no more zeros in front than that needs (8.3.2)
unfoldable pub is_shortest : List ℕ → Bool
is_shortest [] = false
is_shortest (b ∷ []) = nat_lt b 128
is_shortest (b ∷ c ∷ cs) = nat_lt b 128 && not (nat_eq b 0 && nat_lt c 128)

abbrev pub without_zero : List ℕ → List ℕ
without_zero [] = []
without_zero (b ∷ bs) = if nat_eq b 0 then bs else b ∷ bs

-- the bytes of the number with these contents, the first of them not zero
unfoldable pub magnitude : List ℕ → Option (List ℕ)
magnitude bs = if is_shortest bs then Some (without_zero bs) else None

-- the same number in so many bytes
unfoldable pub widen : ℕ → List ℕ → Option (List ℕ)
widen n bs = if nat_lt n (length bs) then None else Some (replicate (n - length bs) 0 ++ bs)

-- the number with these contents, in so many bytes
abbrev pub wide : ℕ → List ℕ → Option (List ℕ)
wide n bs = magnitude bs >>= widen n
