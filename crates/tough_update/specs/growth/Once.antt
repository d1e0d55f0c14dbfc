-- That no role's name carries a document twice (TUF specification 1.0, section 5.6.7).
use Rattle.std.specs.Prelude.{◌≡◌, ℕ, List, [], ◌∷◌, Bool, false, ◌||◌, ⊤}
use Rattle.std.specs.Str.{bytes_eq}
use Rattle.tough_schema.specs.Whole.{HeldDoc}
use Rattle.tough_schema.specs.Fresh.{IsUnloaded}
use Rattle.tough_update.specs.delegations.Growing.{Metas, Progress, wants, grown, taken}

abbrev pub is_among : List ℕ → List (List ℕ) → Bool
is_among n [] = false
is_among n (x ∷ xs) = bytes_eq x n || is_among n xs

-- no name stands twice
abbrev pub Distinct : List (List ℕ) → Type 0
Distinct [] = ⊤
Distinct (x ∷ xs) = (is_among x xs ≡ false) × Distinct xs

-- none of its roles has a document, as in one that was read
abbrev pub IsBare : HeldDoc → Type 0
IsBare h = IsUnloaded h.below

abbrev pub AreBare : List HeldDoc → Type 0
AreBare [] = ⊤
AreBare (h ∷ hs) = IsBare h × AreBare hs

-- what these documents make of a tree, each where one is wanted
abbrev pub runs : Metas → Progress → List HeldDoc → Progress
runs metas p [] = p
runs metas (wants w m) (h ∷ hs) = runs metas (taken metas w h) hs
runs metas (grown t) (h ∷ hs) = grown t
