-- The first byte of a canonical text tells the kind of its value.
use Rattle.std.proofs.Common.{◌≡◌, ◌≢◌, ℕ, suc, ◌^◌, ◌<◌, ◌≤◌, Bool, true, false, ℤ, pos, negsuc, List, [], ◌∷◌, length, decimal, refl, arith}
use Rattle.std.proofs.lemmas.Fmt.{decimal_is_IsNumeral_wide}
use Rattle.std.proofs.lemmas.Str.Parse.{digit_from_value}
use Rattle.std.specs.Fmt.{signed_decimal}
use Rattle.std.specs.Str.Parse.{AllDigits}
use lib.Signed.{mag}
use Rattle.serde_json.specs.Data.{Num, Data, null, boolean, number, string, array, object, Items, Members}
use Rattle.tough_cjson.specs.Canon.{Canon}

abbrev pub Opens : Data → ℕ → Type 0
Opens null h = h ≡ 110
Opens (boolean b) h = (102 ≤ h) × (h ≤ 116) × (h ≢ 110)
Opens (number n) h = (45 ≤ h) × (h < 58)
Opens (string s) h = h ≡ 34
Opens (array ds) h = h ≡ 91
Opens (object ms) h = h ≡ 123

pub wide : (n : ℕ) → n < 2 ^ 128 → n < 10 ^ 64
wide n h = omega arith

pub wide-suc : (n : ℕ) → n < 2 ^ 128 → suc n < 10 ^ 64
wide-suc n h = omega arith

pub record Head (d : Data) (s : List ℕ) : Type 0 where
  pub first : ℕ
  pub rest : List ℕ
  pub is : s ≡ first ∷ rest
  pub opens : Opens d first

head-digits : (n : Num) (ds s : List ℕ) → 0 < length ds → AllDigits 10 ds → s ≡ ds → Head (number n) s
head-digits n [] s some all e = absurd (omega arith)
head-digits n (c ∷ cs) s some all e = let r = digit_from_value c all.0 in record { first = c; rest = cs; is = e; opens = (omega arith, omega arith) }

head-number : (n : Num) (z : ℤ) (s : List ℕ) → mag z < 2 ^ 128 → s ≡ signed_decimal z → Head (number n) s
head-number n (pos m) s small e = let d = decimal_is_IsNumeral_wide m (wide m small) in head-digits n (decimal m) s d.0.0 d.0.1 e
head-number n (negsuc m) s small e = record { first = 45; rest = decimal (suc m); is = e; opens = (omega arith, omega arith) }

pub head : (d : Data) (s : List ℕ) → Canon d s → Head d s
head null s h = record { first = 110; rest = _; is = h; opens = refl }
head (boolean true) s h = record { first = 116; rest = _; is = h; opens = (omega arith, omega arith, omega arith) }
head (boolean false) s h = record { first = 102; rest = _; is = h; opens = (omega arith, omega arith, omega arith) }
head (number n) s h = head-number n h.whole s h.small h.text
head (string u) s h = record { first = 34; rest = _; is = h; opens = refl }
head (array ds) s h = record { first = 91; rest = _; is = h.2; opens = refl }
head (object ms) s h = record { first = 123; rest = _; is = h.4; opens = refl }

pub is_null : (e : Data) (h : ℕ) → Opens e h → h ≡ 110 → e ≡ null
is_null null h o i = refl
is_null (boolean b) h o i = absurd (omega arith)
is_null (number n) h o i = absurd (omega arith)
is_null (string s) h o i = absurd (omega arith)
is_null (array ds) h o i = absurd (omega arith)
is_null (object ms) h o i = absurd (omega arith)

pub is_boolean : (e : Data) (h : ℕ) → Opens e h → 102 ≤ h → h ≤ 116 → h ≢ 110 → (b : Bool) × (e ≡ boolean b)
is_boolean null h o i j k = absurd (omega arith)
is_boolean (boolean b) h o i j k = (b, refl)
is_boolean (number n) h o i j k = absurd (omega arith)
is_boolean (string s) h o i j k = absurd (omega arith)
is_boolean (array ds) h o i j k = absurd (omega arith)
is_boolean (object ms) h o i j k = absurd (omega arith)

pub is_number : (e : Data) (h : ℕ) → Opens e h → 45 ≤ h → h < 58 → (n : Num) × (e ≡ number n)
is_number null h o i j = absurd (omega arith)
is_number (boolean b) h o i j = absurd (omega arith)
is_number (number n) h o i j = (n, refl)
is_number (string s) h o i j = absurd (omega arith)
is_number (array ds) h o i j = absurd (omega arith)
is_number (object ms) h o i j = absurd (omega arith)

pub is_string : (e : Data) (h : ℕ) → Opens e h → h ≡ 34 → (s : List ℕ) × (e ≡ string s)
is_string null h o i = absurd (omega arith)
is_string (boolean b) h o i = absurd (omega arith)
is_string (number n) h o i = absurd (omega arith)
is_string (string s) h o i = (s, refl)
is_string (array ds) h o i = absurd (omega arith)
is_string (object ms) h o i = absurd (omega arith)

pub is_array : (e : Data) (h : ℕ) → Opens e h → h ≡ 91 → (ds : Items) × (e ≡ array ds)
is_array null h o i = absurd (omega arith)
is_array (boolean b) h o i = absurd (omega arith)
is_array (number n) h o i = absurd (omega arith)
is_array (string s) h o i = absurd (omega arith)
is_array (array ds) h o i = (ds, refl)
is_array (object ms) h o i = absurd (omega arith)

pub is_object : (e : Data) (h : ℕ) → Opens e h → h ≡ 123 → (ms : Members) × (e ≡ object ms)
is_object null h o i = absurd (omega arith)
is_object (boolean b) h o i = absurd (omega arith)
is_object (number n) h o i = absurd (omega arith)
is_object (string s) h o i = absurd (omega arith)
is_object (array ds) h o i = absurd (omega arith)
is_object (object ms) h o i = (ms, refl)

-- no canonical text begins with a closing bracket or a comma
pub no_closing : (e : Data) (h : ℕ) → Opens e h → (h ≢ 93) × (h ≢ 125) × (h ≢ 44)
no_closing null h o = (omega arith, omega arith, omega arith)
no_closing (boolean b) h o = (omega arith, omega arith, omega arith)
no_closing (number n) h o = (omega arith, omega arith, omega arith)
no_closing (string s) h o = (omega arith, omega arith, omega arith)
no_closing (array ds) h o = (omega arith, omega arith, omega arith)
no_closing (object ms) h o = (omega arith, omega arith, omega arith)
