-- What is written for an instant is read as it, and is written for no other.
use Rattle.std.proofs.Common.{◌≡◌, ◌-ℤ◌, ◌≤ℤ◌, ◌<ℤ◌, ℕ, ℤ, pos, negsuc, ◌-◌, ◌%◌, ◌^◌, ◌<◌, ◌≤◌, ◌==◌, ◌||◌, Bool, true, false, List, [], ◌∷◌, ◌++◌, Option, Some, None, Ok, refl, sym, arith, min}
use Rattle.std.proofs.lemmas.Bool.Decides.{nat_tests}
use Rattle.std.proofs.lemmas.List.{append_assoc}
use Rattle.std.specs.Char.{is_ascii_digit}
use Rattle.std.specs.List.{prefix_len}
use Rattle.jiff_core.specs.declared.civil.time.Time.{Time}
use Rattle.jiff_core.specs.declared.civil.datetime.DateTime.{DateTime}
use Rattle.jiff_core.specs.declared.error.Syntax.TheVariants as Syntax
use Rattle.jiff_core.specs.declared.error.Bound.TheVariants as Bd
use Rattle.jiff_core.specs.DateTime.{civil_nanos}
use Rattle.jiff_core.specs.Timestamp.{IsTimestampNanos, nanos_of_seconds}
use Rattle.jiff_core.proofs.SignedLemmas.{signed_arith}
use Rattle.jiff_fmt.specs.Reader.{temporal_fraction}
use Rattle.jiff_fmt.specs.Text.{pad2, date_text, time_text, datetime_text, fraction_part}
use Rattle.jiff_fmt.specs.Temporal.{date_spec, date_parts, temporal_datetime, time_spec, time_parts, fraction_or_zero, parse_timestamp}
use Rattle.jiff_fmt.specs.Temporal as spec
use Rattle.jiff_fmt.proofs.TemporalLemmas.{instant-ok}
use Rattle.jiff_fmt.proofs.RoundTrip.{Stops, date_spec-text, field-pad2, offset-zulu, annotations-empty}
use Rattle.tough_json.specs.Moment.{decimals, civil_text, IsShown, IsMoment}
use Rattle.tough_json.proofs.Fractions.{nanoseconds-places}

stops-digit : (rest : List ℕ) → Stops rest → prefix_len is_ascii_digit rest ≡ 0
stops-digit [] s = refl
stops-digit (c ∷ rest) s =
    let not_digit : is_ascii_digit c ≡ false = grind (arith, nat_tests, s) in
    rw not_digit

-- the fraction with so many places
places-text : (k n : ℕ) (rest : List ℕ) → 0 < k → k ≤ 9 → n < 1_000_000_000 → n % 10 ^ (9 - k) ≡ 0 → Stops rest
    → temporal_fraction (fraction_part (Some k) n ++ rest) ≡ Ok (Some n, rest)
unfolding temporal_fraction
places-text k n rest some few high multiple s =
    let test : (k == 0) ≡ false = grind (arith, nat_tests) in
    let read = nanoseconds-places k n rest some few high multiple (stops-digit rest s) in
    let len : min k 9 ≡ k = omega arith in
    rw (test, len, read)

no-fraction : (rest : List ℕ) → Stops rest → temporal_fraction rest ≡ Ok (None, rest)
unfolding temporal_fraction
no-fraction [] s = refl
no-fraction (c ∷ rest) s =
    let no_dot : ((c == 46) || (c == 44)) ≡ false = grind (arith, nat_tests, s) in
    rw no_dot

-- what is read of the decimals that are written
abbrev IsReadBack : ℕ → List ℕ → Type 0
IsReadBack n rest = (o : Option ℕ) × (temporal_fraction (fraction_part (decimals n) n ++ rest) ≡ Ok (o, rest)) × (fraction_or_zero o ≡ n)

fraction-at : (n : ℕ) (rest : List ℕ) (a b c : Bool) → (n == 0) ≡ a → (n % 1_000_000 == 0) ≡ b → (n % 1_000 == 0) ≡ c → n < 1_000_000_000 → Stops rest → IsReadBack n rest
fraction-at n rest true b c is0 is3 is6 high s =
    let zero_n : n ≡ 0 = grind (arith, nat_tests, is0) in
    let none : fraction_part (decimals n) n ≡ [] = rw (is0, is0) refl in
    (None, rw none (no-fraction rest s), sym zero_n)
fraction-at n rest false true c is0 is3 is6 high s =
    let multiple : n % 1_000_000 ≡ 0 = grind (arith, nat_tests, is3) in
    let some : decimals n ≡ Some 3 = rw (is0, is3) refl in
    (Some n, rw some (places-text 3 n rest (omega arith) (omega arith) high multiple s), refl)
fraction-at n rest false false true is0 is3 is6 high s =
    let multiple : n % 1_000 ≡ 0 = grind (arith, nat_tests, is6) in
    let some : decimals n ≡ Some 6 = rw (is0, is3, is6) refl in
    (Some n, rw some (places-text 6 n rest (omega arith) (omega arith) high multiple s), refl)
fraction-at n rest false false false is0 is3 is6 high s =
    let some : decimals n ≡ Some 9 = rw (is0, is3, is6) refl in
    (Some n, rw some (places-text 9 n rest (omega arith) (omega arith) high (omega arith) s), refl)

fraction-text : (n : ℕ) (rest : List ℕ) → n < 1_000_000_000 → Stops rest → IsReadBack n rest
fraction-text n rest high s = fraction-at n rest (n == 0) (n % 1_000_000 == 0) (n % 1_000 == 0) refl refl refl high s

time_spec-text : (t : Time) (rest : List ℕ) → Stops rest → time_spec (time_text (decimals t.subsec_nanosecond) t ++ rest) ≡ Ok ((time_parts t, true), rest)
unfolding time_spec
time_spec-text t rest s =
    let fraction_read = fraction-text t.subsec_nanosecond rest t.subsec_in s in
    let fraction_text = fraction_part (decimals t.subsec_nanosecond) t.subsec_nanosecond ++ rest in
    let after_minute = 58 ∷ pad2 t.second ++ fraction_text in
    let after_hour = 58 ∷ pad2 t.minute ++ after_minute in
    let shape : time_text (decimals t.subsec_nanosecond) t ++ rest ≡ pad2 t.hour ++ after_hour = simp append_assoc refl in
    let hour = field-pad2 Syntax.Hour 0 23 Bd.Hour t.hour after_hour (omega arith) (omega (arith, t.hour_in)) (omega (arith, t.hour_in)) in
    let minute = field-pad2 Syntax.Minute 0 59 Bd.Minute t.minute after_minute (omega arith) (omega (arith, t.minute_in)) (omega (arith, t.minute_in)) in
    let second = field-pad2 Syntax.Second 0 60 Bd.LeapSecond t.second fraction_text (omega arith) (omega (arith, t.second_in)) (omega (arith, t.second_in)) in
    let no_leap : (t.second == 60) ≡ false = grind (arith, nat_tests, t.second_in) in
    rw (shape, hour, minute, second, no_leap, fraction_read.1, fraction_read.2)

datetime-text : (dt : DateTime) (p : Option ℕ) (rest : List ℕ)
    → date_spec (datetime_text false 84 p dt ++ rest) ≡ Ok (date_parts dt.date, 84 ∷ time_text p dt.time ++ rest)
datetime-text dt p rest =
    let shape : datetime_text false 84 p dt ++ rest ≡ date_text dt.date ++ (84 ∷ time_text p dt.time ++ rest) = append_assoc (date_text dt.date) (84 ∷ time_text p dt.time) rest in
    rw shape (date_spec-text dt.date (84 ∷ time_text p dt.time ++ rest))

pub parse_timestamp-civil_text : (dt : DateTime) (z : ℤ) → civil_nanos dt ≡ z → IsTimestampNanos z → parse_timestamp (civil_text dt) ≡ Ok z
unfolding temporal_datetime civil_nanos
parse_timestamp-civil_text dt z e range =
    let stop : Stops (90 ∷ []) = refl in
    let read = datetime-text dt (decimals dt.time.subsec_nanosecond) (90 ∷ []) in
    let clock = time_spec-text dt.time (90 ∷ []) stop in
    let value : spec.parts_nanos (date_parts dt.date) (time_parts dt.time) -ℤ nanos_of_seconds (pos 0) ≡ z = omega (arith, signed_arith, e) in
    rw (read, clock, offset-zulu, annotations-empty, value, instant-ok z range)

pub parse_timestamp-moment : (z : ℤ) (text : List ℕ) → IsTimestampNanos z → IsMoment z text → parse_timestamp text ≡ Ok z
parse_timestamp-moment z text range m = rw m.3 (parse_timestamp-civil_text m.0 z m.1 range)

pub is_shown : (y : ℤ) → pos 0 ≤ℤ y → IsShown y
is_shown (pos n) h = tt
is_shown (negsuc n) h = absurd (omega (arith, signed_arith, h))

pub not_shown : (y : ℤ) → y <ℤ pos 0 → IsShown y → ⊥
not_shown (pos n) h s = absurd (omega (arith, signed_arith, h))
not_shown (negsuc n) h s = s

-- the parts of a text
pub civil_text-parts : (old date time a b c d : List ℕ) → old ≡ [] → a ≡ old ++ date → b ≡ a ++ 84 ∷ [] → c ≡ b ++ time → d ≡ c ++ 90 ∷ [] → d ≡ (date ++ 84 ∷ time) ++ 90 ∷ []
civil_text-parts old date time a b c d e f g h i = rw (i, h, g, f, e) (simp append_assoc refl)
