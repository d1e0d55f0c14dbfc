-- Compact JSON, laid out byte by byte: what is written for each byte, and where the next one stands.
use Rattle.std.specs.Prelude.{ℕ, ◌+◌, ◌-◌, ◌^◌, ◌==◌, ◌||◌, min, Bool, true, false, if◌then◌else◌, List, [], ◌∷◌, ◌++◌}
use Rattle.json.specs.Layout.{line}
use Rattle.tough_sign.specs.declared.layout.Place.{Place}
use Rattle.tough_sign.specs.declared.layout.Place.TheVariants as places

-- a bracket that opens an object or an array, and one that ends it
abbrev pub is_opening : ℕ → Bool
is_opening b = (b == 123) || (b == 91)

abbrev pub is_closing : ℕ → Bool
is_closing b = (b == 125) || (b == 93)

-- what stands before a byte at that depth; an empty object or array stays on its line
abbrev pub gap_at : Place → Bool → ℕ → List ℕ
gap_at places.Start closes depth = []
gap_at places.Bracket closes depth = if closes then [] else line depth
gap_at places.Name closes depth = 32 ∷ []
gap_at places.Value closes depth = if closes then line depth else []
gap_at places.Text closes depth = []
gap_at places.Escape closes depth = []

-- what is written for a byte outside of a text: a comma ends its line
abbrev pub spaced : Place → ℕ → ℕ → List ℕ
spaced p depth b =
    if b == 44 then 44 ∷ line depth
    else (if b == 58 then 58 ∷ [] else (if is_closing b then gap_at p true (depth - 1) ++ b ∷ [] else gap_at p false depth ++ b ∷ []))

abbrev pub put_at : Place → ℕ → ℕ → List ℕ
put_at places.Start depth b = spaced places.Start depth b
put_at places.Bracket depth b = spaced places.Bracket depth b
put_at places.Name depth b = spaced places.Name depth b
put_at places.Value depth b = spaced places.Value depth b
put_at places.Text depth b = b ∷ []
put_at places.Escape depth b = b ∷ []

-- where the next byte stands
abbrev pub after_byte : ℕ → Place
after_byte b =
    if b == 44 then places.Start
    else (if b == 58 then places.Name else (if is_opening b then places.Bracket else (if b == 34 then places.Text else places.Value)))

abbrev pub in_text : ℕ → Place
in_text b = if b == 34 then places.Value else (if b == 92 then places.Escape else places.Text)

abbrev pub place_at : Place → ℕ → Place
place_at places.Start b = after_byte b
place_at places.Bracket b = after_byte b
place_at places.Name b = after_byte b
place_at places.Value b = after_byte b
place_at places.Text b = in_text b
place_at places.Escape b = places.Text

-- how deep it stands there; a depth is a `usize`
abbrev pub deeper : ℕ → ℕ → ℕ
deeper depth b = if is_opening b then min (depth + 1) (2 ^ 64 - 1) else (if is_closing b then depth - 1 else depth)

abbrev pub depth_at : Place → ℕ → ℕ → ℕ
depth_at places.Start depth b = deeper depth b
depth_at places.Bracket depth b = deeper depth b
depth_at places.Name depth b = deeper depth b
depth_at places.Value depth b = deeper depth b
depth_at places.Text depth b = depth
depth_at places.Escape depth b = depth

unfoldable pub lay : Place → ℕ → List ℕ → List ℕ
lay p depth [] = []
lay p depth (b ∷ bs) = put_at p depth b ++ lay (place_at p b) (depth_at p depth b) bs
