-- A pattern's text, its forms and its parts.
use Rattle.std.proofs.Common.{◌++◌, ◌≡◌, ℕ, List, [], ◌∷◌, map, Some, None, ◌∙◌, ap, ap₂, refl, subst}
use Rattle.std.specs.List.{AllZip}
use Rattle.tough_names.specs.Items.{item_parts, parts_of}
use Rattle.tough_names.specs.declared.pattern.item.Item.{Item}
use Rattle.tough_names.specs.Glob.{Part, Fits}
use Rattle.tough_names.specs.Grammar.{parts_in}
use Rattle.tough_names.specs.Spelling.{form_part, IsPattern, Matches}
use Rattle.tough_names.proofs.Spelled.{spelled_is_read}
use Rattle.tough_names.proofs.Read.{read_is_spelled}

pub is_pattern : (pattern : List ℕ) (parts : List Part) → parts_in pattern ≡ Some parts → IsPattern pattern
is_pattern pattern parts e = let r = read_is_spelled pattern parts e in (r.forms, r.are, r.whole)

pub no_pattern : (pattern : List ℕ) → parts_in pattern ≡ None → IsPattern pattern → ⊥
no_pattern pattern none (forms, are, whole) =
    let e : parts_in pattern ≡ Some (map form_part forms) = ap parts_in whole ∙ spelled_is_read forms are in cc

pub matches_if : (pattern text : List ℕ) (parts : List Part) → parts_in pattern ≡ Some parts → Fits parts text → Matches pattern text
matches_if pattern text parts e f =
    let r = read_is_spelled pattern parts e in
    let P : List Part → Type 0 = λ p. Fits p text in
    (r.forms, r.are, r.whole, subst P r.same f)

pub fits_if : (pattern text : List ℕ) (parts : List Part) → parts_in pattern ≡ Some parts → Matches pattern text → Fits parts text
fits_if pattern text parts e (forms, are, whole, f) =
    let g : parts_in pattern ≡ Some (map form_part forms) = ap parts_in whole ∙ spelled_is_read forms are in
    let same : map form_part forms ≡ parts = cc in
    let P : List Part → Type 0 = λ p. Fits p text in
    subst P same f

-- items cloned one by one stand for the same parts
pub parts_of-AllZip : (xs ys : List Item) → AllZip (λ x y. item_parts y ≡ item_parts x) xs ys → parts_of ys ≡ parts_of xs
parts_of-AllZip [] [] h = refl
parts_of-AllZip [] (y ∷ ys) h = absurd h
parts_of-AllZip (x ∷ xs) [] h = absurd h
parts_of-AllZip (x ∷ xs) (y ∷ ys) h = ap₂ (λ p ps. p ++ ps) h.0 (parts_of-AllZip xs ys h.1)
