-- The names of the files of roles.
use Rattle.std.proofs.Common.{◌≡◌, ℕ, Bool, true, List, [], ◌∷◌, ◌++◌, cond, refl, ap, ◌∙◌}
use Rattle.std.proofs.lemmas.Bool.{and_parts}
use Rattle.std.specs.List.{list_all}
use Rattle.percent_encoding.specs.Percent.{percent_encode_byte}
use Rattle.tough_names.specs.Filename.{is_unreserved, filename_byte, filename_of}

byte-unreserved : (b : ℕ) → is_unreserved b ≡ true → filename_byte b ≡ b ∷ []
byte-unreserved b h = ap (λ (t : Bool). cond t (b ∷ []) (percent_encode_byte b)) h

-- unreserved text stands as it is
pub filename_of-unreserved : (x : List ℕ) → list_all is_unreserved x ≡ true → filename_of x ≡ x
unfolding filename_of
filename_of-unreserved [] h = refl
filename_of-unreserved (b ∷ bs) h =
    let both = and_parts (is_unreserved b) (list_all is_unreserved bs) h in
    ap (λ l. l ++ filename_of bs) (byte-unreserved b both.0) ∙ ap (λ l. b ∷ l) (filename_of-unreserved bs both.1)
