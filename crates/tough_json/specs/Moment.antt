-- The text of an instant: RFC 3339 in UTC, by the proleptic Gregorian calendar, with 0, 3, 6 or 9 decimals
-- (TUF specification 1.0, section 4.2.1, `expires`).
use Rattle.std.specs.Prelude.{◌≡◌, ℕ, zero, suc, ℤ, pos, negsuc, ◌+◌, ◌/◌, ◌%◌, ◌==◌, ◌||◌, ◌-ℤ◌, int_lt, int_le, unsigned_abs, Bool, List, [], ◌∷◌, ◌++◌, Option, Some, None, Result, Ok, Err, if◌then◌else◌, false, ⊤, String, string_bytes}
use Rattle.std.specs.declared.alloc.Global.{Global}
use Rattle.std.specs.Int.{int_div_euclid, int_rem_euclid}
use Rattle.jiff_core.specs.declared.civil.datetime.DateTime.{DateTime}
use Rattle.jiff_core.specs.Calendar.{days_from_civil}
use Rattle.jiff_core.specs.DateTime.{civil_nanos}
use Rattle.jiff_fmt.specs.Text.{pad2, pad4, fraction_part, datetime_text}
use Rattle.tough_json.specs.declared.moment.MomentError.{MomentError}
use Rattle.tough_json.specs.declared.moment.MomentError.TheVariants.{Year, Memory}

-- how many decimals a number of nanoseconds needs, of 3, 6 and 9; none if it is 0
abbrev pub decimals : ℕ → Option ℕ
decimals n = if n == 0 then None else (if n % 1_000_000 == 0 then Some 3 else (if n % 1_000 == 0 then Some 6 else Some 9))

-- ---- computed from the nanoseconds since 1970-01-01T00:00:00Z

-- the greatest number up to the bound that passes; 0 if none from 1 on does
unfoldable pub last_passing : (ℕ → Bool) → ℕ → ℕ
last_passing test zero = 0
last_passing test (suc n) = if test (suc n) then suc n else last_passing test n

-- the last year of 0 to 9999 that has begun by the day, which is counted from 1970-01-01
abbrev pub year_of : ℤ → ℕ
year_of day = last_passing (λ y. int_le (days_from_civil (pos y) 1 1) day) 9999

-- the last month of that year that has begun by the day
abbrev pub month_of : ℕ → ℤ → ℕ
month_of year day = last_passing (λ m. int_le (days_from_civil (pos year) m 1) day) 12

-- the days of that month up to the day, it included
abbrev pub day_of_month : ℕ → ℕ → ℤ → ℕ
day_of_month year month day = unsigned_abs (day -ℤ days_from_civil (pos year) month 1) + 1

-- `2026-07-13`
abbrev pub day_text : ℤ → List ℕ
day_text day =
    pad4 (year_of day) ++ 45 ∷ [] ++ pad2 (month_of (year_of day) day) ++ 45 ∷ []
    ++ pad2 (day_of_month (year_of day) (month_of (year_of day) day) day)

-- `18:08:28.750`, of the nanoseconds since midnight
abbrev pub clock_text : ℕ → List ℕ
clock_text n =
    pad2 (n / 3_600_000_000_000) ++ 58 ∷ pad2 (n / 60_000_000_000 % 60) ++ 58 ∷ pad2 (n / 1_000_000_000 % 60)
    ++ fraction_part (decimals (n % 1_000_000_000)) (n % 1_000_000_000)

-- the days of an instant since 1970-01-01, and the nanoseconds since midnight
abbrev pub days_of : ℤ → ℤ
days_of z = int_div_euclid z (pos 86_400_000_000_000)

abbrev pub clock_of : ℤ → ℕ
clock_of z = unsigned_abs (int_rem_euclid z (pos 86_400_000_000_000))

-- a day before the year 0, or after the year 9999
abbrev pub is_outside : ℤ → Bool
is_outside day = int_lt day (days_from_civil (pos 0) 1 1) || int_le (days_from_civil (pos 10000) 1 1) day

-- `2026-07-13T18:08:28.750Z`; none where four digits don't show the year
unfoldable pub moment_text : ℤ → Option (List ℕ)
moment_text z = if is_outside (days_of z) then None else Some (day_text (days_of z) ++ 84 ∷ (clock_text (clock_of z) ++ 90 ∷ []))

-- what writing an instant answers: its text, or that it has none; want of memory says nothing
abbrev pub RefusesMoment : Option (List ℕ) → MomentError → Type 0
RefusesMoment answer Year = answer ≡ None
RefusesMoment answer Memory = ⊤

abbrev pub WritesMoment : Result (String Global) MomentError → Option (List ℕ) → Type 0
WritesMoment (Ok s) answer = answer ≡ Some (string_bytes s)
WritesMoment (Err e) answer = RefusesMoment answer e

-- ---- as a relation: the date and time that a clock in UTC shows

-- the text of a civil date and time
abbrev pub civil_text : DateTime → List ℕ
civil_text dt = datetime_text false 84 (decimals dt.time.subsec_nanosecond) dt ++ 90 ∷ []

-- a year that four digits show: the calendar has none past 9999
abbrev pub IsShown : ℤ → Type 0
IsShown (pos n) = Unit {0}
IsShown (negsuc n) = ⊥

-- what the instant, in nanoseconds since 1970, is written as
abbrev pub IsMoment : ℤ → List ℕ → Type 0
IsMoment z text = (dt : DateTime) × (civil_nanos dt ≡ z) × IsShown dt.date.year × (text ≡ civil_text dt)

-- an instant before the year 0000
abbrev pub IsBeforeAll : ℤ → Type 0
IsBeforeAll z = (dt : DateTime) × (civil_nanos dt ≡ z) × (IsShown dt.date.year → ⊥)
