-- No name of a file of metadata begins with a slash.
use Rattle.std.proofs.Common.{◌≡◌, ◌≢◌, ℕ, zero, suc, ◌+◌, ◌/◌, ◌%◌, ◌≤◌, ◌==◌, Bool, true, false, cond, List, [], ◌∷◌, ◌++◌, codes, decimal, nat_lt, refl, sym, ap, subst, ◌∙◌, arith, append_assoc}
use Rattle.std.proofs.lemmas.Bool.{false≢true}
use Rattle.std.specs.Fmt.{digits, digits_onto, digit_glyph}
use Rattle.std.specs.Path.{IsRelative}
use Rattle.percent_encoding.specs.Percent.{percent_encode_byte}
use Rattle.tough_names.specs.Filename.{is_unreserved, filename_byte, filename_of}
use Rattle.tough_roles.specs.Names.{versioned, file_name}
use Rattle.tough_schema.specs.Targets.{delegated_file}
use Rattle.tough_round.proofs.Names.{versioned-is}

-- a first byte from 48, the digit 0, on
record Begins (xs : List ℕ) : Type 0 where
  first : ℕ
  rest : List ℕ
  is : xs ≡ first ∷ rest
  high : 48 ≤ first

glyph-high : (d : ℕ) → 48 ≤ digit_glyph false d
glyph-high d = go (nat_lt d 10)
  where
    go : (t : Bool) → 48 ≤ cond t (48 + d) (87 + d)
    go true = omega arith
    go false = omega arith

onto-begins : (k n a : ℕ) (rest : List ℕ) → 48 ≤ a → Begins (digits_onto k 10 false n (a ∷ rest))
onto-begins zero n a rest h = record { first = a; rest = rest; is = refl; high = h }
onto-begins (suc k) n a rest h = go (n / 10 == 0) (onto-begins k (n / 10) (digit_glyph false (n % 10)) (a ∷ rest) (glyph-high (n % 10)))
  where
    go : (t : Bool) → Begins (digits_onto k 10 false (n / 10) (digit_glyph false (n % 10) ∷ a ∷ rest))
        → Begins (cond t (digit_glyph false (n % 10) ∷ a ∷ rest) (digits_onto k 10 false (n / 10) (digit_glyph false (n % 10) ∷ a ∷ rest)))
    go true b = record { first = digit_glyph false (n % 10); rest = a ∷ rest; is = refl; high = glyph-high (n % 10) }
    go false b = b

first-onto : (k n : ℕ) → Begins (digits_onto (suc k) 10 false n [])
first-onto k n = go (n / 10 == 0)
  where
    go : (t : Bool) → Begins (cond t (digit_glyph false (n % 10) ∷ []) (digits_onto k 10 false (n / 10) (digit_glyph false (n % 10) ∷ [])))
    go true = record { first = digit_glyph false (n % 10); rest = []; is = refl; high = glyph-high (n % 10) }
    go false = onto-begins k (n / 10) (digit_glyph false (n % 10)) [] (glyph-high (n % 10))

decimal-begins : (n : ℕ) → Begins (decimal n)
unfolding digits
decimal-begins n = first-onto 63 n

from-begins : (xs ys : List ℕ) → Begins xs → IsRelative (xs ++ ys)
from-begins xs ys b = subst (λ t. IsRelative (t ++ ys)) (sym b.is) (λ (e : b.first ≡ 47). let h = b.high in omega (arith, e, h))

pub versioned-relative : (v : ℕ) (x : List ℕ) → IsRelative (versioned v x)
versioned-relative v x = subst IsRelative (sym (versioned-is v x)) (from-begins (decimal v) (46 ∷ x) (decimal-begins v))

pub file-relative : (consistent : Bool) (v : ℕ) (x : List ℕ) → IsRelative x → IsRelative (file_name consistent v x)
file-relative true v x h = versioned-relative v x
file-relative false v x h = h

-- a byte that stands as it is is no slash
unreserved-other : (b : ℕ) → is_unreserved b ≡ true → b ≢ 47
unreserved-other b h e = false≢true (ap is_unreserved (sym e) ∙ h)

escaped-relative : (b : ℕ) (rest : List ℕ) → IsRelative (percent_encode_byte b ++ rest)
unfolding percent_encode_byte
escaped-relative b rest = λ (e : 37 ≡ 47). omega (arith, e)

byte-relative : (b : ℕ) (rest : List ℕ) → IsRelative (filename_byte b ++ rest)
byte-relative b rest = go (is_unreserved b) refl
  where
    go : (t : Bool) → is_unreserved b ≡ t → IsRelative (cond t (b ∷ []) (percent_encode_byte b) ++ rest)
    go true h = unreserved-other b h
    go false h = escaped-relative b rest

pub delegated-relative : (name : List ℕ) → IsRelative (delegated_file name)
unfolding filename_of
delegated-relative [] = λ (e : 46 ≡ 47). omega (arith, e)
delegated-relative (b ∷ bs) = subst IsRelative (sym (append_assoc (filename_byte b) (filename_of bs) (codes ".json"))) (byte-relative b (filename_of bs ++ codes ".json"))

lettered : (a : ℕ) (rest : List ℕ) → 48 ≤ a → IsRelative (a ∷ rest)
lettered a rest h = λ (e : a ≡ 47). omega (arith, h, e)

pub timestamp-relative : IsRelative (codes "timestamp.json")
timestamp-relative = lettered 116 (codes "imestamp.json") (omega arith)

pub snapshot-relative : IsRelative (codes "snapshot.json")
snapshot-relative = lettered 115 (codes "napshot.json") (omega arith)

pub targets-relative : IsRelative (codes "targets.json")
targets-relative = lettered 116 (codes "argets.json") (omega arith)
