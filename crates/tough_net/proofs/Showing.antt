-- The characters of a text, shown one after another.
use Rattle.std.proofs.Common.{◌≡◌, ◌<◌, ◌+◌, ◌-◌, ◌++◌, ℕ, suc, List, [], ◌∷◌, arith, sym, ap, ◌∙◌, append_assoc, append-nil, codes, chars, length}
use Rattle.std.proofs.lemmas.Str.{chars-nil}
use Rattle.tough_net.specs.Shown.{mark, shown_of}

-- one more character
pub one-more : (n : ℕ) (done cs : List ℕ) (c : ℕ) → n < 1024 → (done ++ mark c) ++ shown_of (1024 - (n + 1)) cs ≡ done ++ shown_of (1024 - n) (c ∷ cs)
unfolding shown_of
one-more n done cs c low =
    let back : 1024 - n ≡ suc (1024 - (n + 1)) = omega (arith, low) in
    append_assoc done (mark c) (shown_of (1024 - (n + 1)) cs) ∙ ap (λ m. done ++ shown_of m (c ∷ cs)) (sym back)

-- no character is left
pub none-left : (n : ℕ) (done cs whole : List ℕ) → cs ≡ [] → done ++ shown_of n cs ≡ whole → done ≡ whole
unfolding shown_of
none-left n done cs whole none e = sym (append-nil done) ∙ ap (λ l. done ++ shown_of n l) (sym none) ∙ e

-- characters are left
pub some-left : (done cs more whole : List ℕ) (c : ℕ) → cs ≡ c ∷ more → done ++ shown_of 0 cs ≡ whole → done ++ codes "..." ≡ whole
unfolding shown_of
some-left done cs more whole c some e = ap (λ l. done ++ shown_of 0 l) (sym some) ∙ e

pub no-bytes : (text : List ℕ) → length text ≡ 0 → chars text ≡ []
no-bytes [] e = chars-nil
no-bytes (b ∷ bs) e = absurd (omega (arith, e))
