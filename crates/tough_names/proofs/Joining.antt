-- Components joined by slashes, and the mark before them.
use Rattle.std.proofs.Common.{◌≡◌, ℕ, true, false, List, [], ◌∷◌, ◌++◌, refl, ◌∙◌, ap, Bor, codes, append-nil, flat_map, ◌==◌, get_or}
use Rattle.std.specs.List.{join_by, join_with_byte}
use Rattle.tough_names.specs.Clean.{mark, kept_of, resolve}
use Rattle.tough_names.proofs.Keeping.{texts, chosen_first, chosen_second}

joined_rest : (xs : List (Bor (List ℕ))) (x : List ℕ) → x ++ flat_map (λ y. codes "/" ++ y.now) xs ≡ join_with_byte 47 (x ∷ texts xs)
joined_rest [] x = append-nil x
joined_rest (y ∷ ys) x = ap (λ t. x ++ (47 ∷ t)) (joined_rest ys y.now)

pub joined : (xs : List (Bor (List ℕ))) → join_by (λ x. x.now) (codes "/") xs ≡ join_with_byte 47 (texts xs)
joined [] = refl
joined (x ∷ xs) = joined_rest xs x.now

pub mark_none : (text : List ℕ) → (get_or text 0 0 == 47) ≡ false → mark text ≡ []
mark_none [] e = refl
mark_none (b ∷ bs) e = chosen_second _ (b == 47) _ _ e

pub mark_some : (text : List ℕ) → (get_or text 0 0 == 47) ≡ true → mark text ≡ 47 ∷ []
mark_some [] e = cc
mark_some (b ∷ bs) e = chosen_first _ (b == 47) _ _ e

pub resolved : (text path : List ℕ) (kept : List (Bor (List ℕ))) → path ≡ join_by (λ x. x.now) (codes "/") kept → texts kept ≡ kept_of text → mark text ++ path ≡ resolve text
resolved text path kept e f = ap (λ p. mark text ++ p) (e ∙ (joined kept ∙ ap (join_with_byte 47) f))
