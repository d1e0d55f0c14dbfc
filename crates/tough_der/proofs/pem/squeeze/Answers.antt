use Rattle.std.proofs.Common.{◌≡◌, ℕ, ◌+◌, ◌<◌, Bool, true, cond, List, [], ◌∷◌, ◌++◌, length, get_or, take, drop, ap, sym, ◌∙◌, arith, rules, length-append, take-append-drop}
use Rattle.std.proofs.lemmas.List.Elements.{filter_more, filter-append}
use Rattle.tough_der.specs.Pem.{is_symbol, squeezed}
use Rattle.tough_der.proofs.pem.squeeze.Goals as goal

-- a symbol that comes makes one more
one_more : (xs : List ℕ) (i : ℕ) → i < length xs → is_symbol (get_or xs i 0) ≡ true → length (squeezed (take i xs)) < length (squeezed xs)
one_more xs i h s =
    let a : squeezed (take (i + 1) xs) ≡ squeezed (take i xs) ++ cond (is_symbol (get_or xs i 0)) (get_or xs i 0 ∷ []) [] = filter_more is_symbol xs i 0 h in
    let b : squeezed (take (i + 1) xs) ≡ squeezed (take i xs) ++ (get_or xs i 0 ∷ []) = a ∙ ap (λ (t : Bool). squeezed (take i xs) ++ cond t (get_or xs i 0 ∷ []) []) s in
    let c : squeezed xs ≡ squeezed (take (i + 1) xs) ++ squeezed (drop (i + 1) xs) = ap squeezed (sym (take-append-drop (i + 1) xs)) ∙ filter-append is_symbol (take (i + 1) xs) (drop (i + 1) xs) in
    let d = ap length c ∙ length-append (squeezed (take (i + 1) xs)) (squeezed (drop (i + 1) xs)) in
    let e = ap length b ∙ length-append (squeezed (take i xs)) (get_or xs i 0 ∷ []) in
    omega arith

pub returns-then-len-symbols-clause-none : goal.returns-then-len-symbols-clause-none
returns-then-len-symbols-clause-none c = let e = one_more c.args.text.now c.loop-byte.byte-index (omega arith) (search rules) in omega arith
