-- A pattern matches as its grammar says.
use Rattle.std.proofs.Common.{◌≡◌, ◌↔◌, ℕ, List, [], ◌∷◌, ◌++◌, Bool, true, false, ◌&&◌, ◌||◌, ◌⊎◌, inl, inr, Option, Some, None, chars, IsTrue, refl, sym, ap, subst, ◌∙◌}
use Rattle.tough_names.specs.Glob.{Part, run, one, accepts, Fits}
use Rattle.tough_names.specs.Grammar.{parts_in}
use Rattle.tough_names.specs.Spelling.{Matches}
use Rattle.tough_names.proofs.lemmas.Patterns.{no_pattern, matches_if, fits_if}
use Rattle.tough_schema.specs.Matching.{some_end, fits_in, if_parts, pattern_matches}

or_left : (a b : Bool) → a ≡ true → (a || b) ≡ true
or_left true b h = refl
or_left false b h = cc

or_right : (a b : Bool) → b ≡ true → (a || b) ≡ true
or_right true b h = refl
or_right false b h = h

or_split : (a b : Bool) → (a || b) ≡ true → (a ≡ true) ⊎ (b ≡ true)
or_split true b h = inl refl
or_split false b h = inr h

and_both : (a b : Bool) → a ≡ true → b ≡ true → (a && b) ≡ true
and_both true b h k = k
and_both false b h k = cc

and_split : (a b : Bool) → (a && b) ≡ true → (a ≡ true) × (b ≡ true)
and_split true b h = (refl, h)
and_split false b h = cc

end_itself : (test : List ℕ → Bool) (text : List ℕ) → test text ≡ true → some_end test text ≡ true
end_itself test [] h = h
end_itself test (c ∷ cs) h = or_left (test (c ∷ cs)) (some_end test cs) h

end_to : (test : List ℕ → Bool) (piece rest : List ℕ) → test rest ≡ true → some_end test (piece ++ rest) ≡ true
end_to test [] rest h = end_itself test rest h
end_to test (c ∷ piece) rest h = or_right (test (c ∷ (piece ++ rest))) (some_end test (piece ++ rest)) (end_to test piece rest h)

-- the text is a beginning and an end that passes
pub record Ends (test : List ℕ → Bool) (text : List ℕ) : Type 0 where
  piece : List ℕ
  rest : List ℕ
  whole : text ≡ piece ++ rest
  passes : test rest ≡ true

longer : (test : List ℕ → Bool) (c : ℕ) (cs : List ℕ) → Ends test cs → Ends test (c ∷ cs)
longer test c cs e = record { piece = c ∷ e.piece; rest = e.rest; whole = ap (λ l. c ∷ l) e.whole; passes = e.passes }

end_first : (test : List ℕ → Bool) (c : ℕ) (cs : List ℕ) (t : Bool) → test (c ∷ cs) ≡ t → (t || some_end test cs) ≡ true → (some_end test cs ≡ true → Ends test cs) → Ends test (c ∷ cs)
end_first test c cs true is h later = record { piece = []; rest = c ∷ cs; whole = refl; passes = is }
end_first test c cs false is h later = longer test c cs (later h)

end_from : (test : List ℕ → Bool) (text : List ℕ) → some_end test text ≡ true → Ends test text
end_from test [] h = record { piece = []; rest = []; whole = refl; passes = h }
end_from test (c ∷ cs) h = end_first test c cs (test (c ∷ cs)) refl h (end_from test cs)

fits_to : (parts : List Part) (text : List ℕ) → Fits parts text → fits_in parts text ≡ true
fits_to [] text h = subst (λ t. fits_in [] t ≡ true) (sym h) refl
fits_to (run ∷ parts) text (piece, rest, whole, covers, h) = subst (λ t. some_end (fits_in parts) t ≡ true) (sym whole) (end_to (fits_in parts) piece rest (fits_to parts rest h))
fits_to (one negated spans ∷ parts) text (piece, rest, whole, (c, is, accepted), h) =
    subst (λ t. fits_in (one negated spans ∷ parts) t ≡ true) (sym (whole ∙ ap (λ p. p ++ rest) is)) (and_both (accepts negated spans c) (fits_in parts rest) accepted (fits_to parts rest h))

fits_from : (parts : List Part) (text : List ℕ) → fits_in parts text ≡ true → Fits parts text
fits_from [] [] h = refl
fits_from [] (c ∷ cs) h = cc
fits_from (run ∷ parts) text h = let e = end_from (fits_in parts) text h in (e.piece, e.rest, e.whole, tt, fits_from parts e.rest e.passes)
fits_from (one negated spans ∷ parts) [] h = cc
fits_from (one negated spans ∷ parts) (c ∷ cs) h =
    let both = and_split (accepts negated spans c) (fits_in parts cs) h in (c ∷ [], cs, refl, (c, refl, both.0), fits_from parts cs both.1)

to_at : (pattern text : List ℕ) (o : Option (List Part)) → parts_in pattern ≡ o → Matches pattern text → if_parts o text ≡ true
to_at pattern text None e (forms, are, whole, f) = absurd (no_pattern pattern e (forms, are, whole))
to_at pattern text (Some parts) e m = fits_to parts text (fits_if pattern text parts e m)

from_at : (pattern text : List ℕ) (o : Option (List Part)) → parts_in pattern ≡ o → if_parts o text ≡ true → Matches pattern text
from_at pattern text None e h = cc
from_at pattern text (Some parts) e h = matches_if pattern text parts e (fits_from parts text h)

same_truth : (a b : Bool) → (a ≡ true → b ≡ true) → (b ≡ true → a ≡ true) → a ≡ b
same_truth true b h k = sym (h refl)
same_truth false true h k = k refl
same_truth false false h k = refl

pub match-is : (resolved p : List ℕ) (b : Bool) → IsTrue b ↔ Matches (chars p) (chars resolved) → b ≡ pattern_matches resolved p
match-is resolved p b h =
    same_truth b (pattern_matches resolved p) (λ t. to_at (chars p) (chars resolved) (parts_in (chars p)) refl (h.0 t)) (λ t. h.1 (from_at (chars p) (chars resolved) (parts_in (chars p)) refl t))

-- the test says what the grammar does
pub match-exactly : (resolved p : List ℕ) → (pattern_matches resolved p ≡ true) ↔ Matches (chars p) (chars resolved)
match-exactly resolved p = (from_at (chars p) (chars resolved) (parts_in (chars p)) refl, to_at (chars p) (chars resolved) (parts_in (chars p)) refl)
