-- What is escaped in a file's name is each byte that is reserved.
use Rattle.std.proofs.Common.{◌≡◌, ◌<◌, ℕ, zero, suc, Bool, true, false, not, cond, ◌&&◌, List, [], ◌∷◌, ◌++◌, get_or, refl, ap, ap₂, ◌∙◌, arith, inl, inr}
use Rattle.std.proofs.lemmas.Bool.{and_parts, cases_eq}
use Rattle.percent_encoding.specs.AsciiSet.{should_percent_encode}
use Rattle.percent_encoding.specs.Percent.{percent_encode, encode_byte, percent_encode_byte}
use Rattle.tough_names.specs.declared.filename.TheConstants.{FILE_NAME}
use Rattle.tough_names.specs.Filename.{is_unreserved, filename_byte, filename_of}

agree : Bool → Bool → Bool
agree true b = not b
agree false b = b

from_agree : (a b : Bool) → agree a b ≡ true → (x y : List ℕ) → cond a x y ≡ cond b y x
unfolding agree
from_agree true true h x y = cc
from_agree true false h x y = refl
from_agree false true h x y = refl
from_agree false false h x y = cc

agrees : ℕ → Bool
unfolding agree
agrees b = agree (should_percent_encode FILE_NAME b) (is_unreserved b)

all_agree : ℕ → Bool
all_agree zero = true
all_agree (suc n) = agrees n && all_agree n

agrees_below : (n b : ℕ) → all_agree n ≡ true → b < n → agrees b ≡ true
unfolding all_agree
agrees_below zero b h lt = absurd (omega arith)
agrees_below (suc n) b h lt =
    let both = and_parts (agrees n) (all_agree n) h in
    elim (cases_eq b n) [
      | inl same ↦ ap agrees same ∙ both.0
      | inr other ↦ agrees_below n b both.1 (omega (arith, other))
    ]

bytes_agree : all_agree 256 ≡ true
unfolding all_agree agrees agree should_percent_encode
bytes_agree = refl

byte-same : (b : ℕ) → b < 256 → encode_byte FILE_NAME b ≡ filename_byte b
unfolding agrees
byte-same b lt = from_agree (should_percent_encode FILE_NAME b) (is_unreserved b) (agrees_below 256 b bytes_agree lt) (percent_encode_byte b) (b ∷ [])

pub filename_of-bytes : (name : List ℕ) → ((i : ℕ) → get_or name i 0 < 256) → percent_encode FILE_NAME name ≡ filename_of name
unfolding percent_encode filename_of
filename_of-bytes [] h = refl
filename_of-bytes (b ∷ bs) h = ap₂ (λ x y. x ++ y) (byte-same b (h 0)) (filename_of-bytes bs (λ i. h (suc i)))
