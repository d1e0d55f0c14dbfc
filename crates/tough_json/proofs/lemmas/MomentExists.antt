-- Each instant whose year is shown has a date and a time of day: the text that is computed is that of an instant.
use Rattle.std.proofs.Common.{◌≡◌, ℕ, zero, suc, ◌+◌, ◌/◌, ◌%◌, ◌<◌, ◌≤◌, ◌||◌, ℤ, pos, negsuc, ◌-ℤ◌, ◌+ℤ◌, ◌≤ℤ◌, ◌<ℤ◌, int_lt, int_le, Bool, true, false, List, Some, Ok, inl, inr, refl, sym, ap, subst, ◌∙◌, arith}
use Rattle.std.proofs.lemmas.Bool.{cases_order}
use Rattle.jiff_core.specs.declared.civil.date.Date.{Date}
use Rattle.jiff_core.specs.declared.civil.time.Time.{Time}
use Rattle.jiff_core.specs.declared.civil.datetime.DateTime.{DateTime}
use Rattle.jiff_core.specs.Calendar.{days_from_civil, days_in_month}
use Rattle.jiff_core.specs.Date.{epoch_day}
use Rattle.jiff_core.specs.Time.{time_nanos}
use Rattle.jiff_core.specs.DateTime.{civil_nanos}
use Rattle.jiff_core.specs.Timestamp.{IsTimestampNanos}
use Rattle.jiff_core.proofs.SignedLemmas.{signed_arith}
use Rattle.jiff_core.proofs.CalendarLemmas.{days_from_civil-day_count, day_count-day, day_count-next_month}
use Rattle.jiff_core.proofs.DateLemmas.{days_from_civil-next_year}
use Rattle.jiff_core.proofs.DateTimeLemmas.{civil_nanos-parts}
use Rattle.jiff_fmt.specs.Temporal.{parse_timestamp}
use Rattle.tough_json.specs.Moment.{last_passing, year_of, month_of, days_of, clock_of, is_outside, moment_text, civil_text, IsShown, IsMoment}
use Rattle.tough_json.proofs.MomentText.{moment_text-moment}
use Rattle.tough_json.proofs.MomentLemmas.{parse_timestamp-moment}

-- n is the last number up to the bound that passes
pub record IsLast (f : ℕ → Bool) (bound n : ℕ) : Type 0 where
  pub within : n ≤ bound
  pub passes : 0 < n → f n ≡ true
  pub above : (k : ℕ) → n < k → k ≤ bound → f k ≡ false

above_more : (f : ℕ → Bool) (b n k : ℕ) → f (suc b) ≡ false → ((j : ℕ) → n < j → j ≤ b → f j ≡ false) → n < k → k ≤ suc b → f k ≡ false
above_more f b n k e h low high =
    elim (cases_order k (suc b)) [
      | inl same ↦ ap f same ∙ e
      | inr (inl lt) ↦ h k low (omega arith)
      | inr (inr gt) ↦ absurd (omega arith)
    ]

last_at : (f : ℕ → Bool) (b : ℕ) (t : Bool) → f (suc b) ≡ t → IsLast f b (last_passing f b) → IsLast f (suc b) (last_passing f (suc b))
unfolding last_passing
last_at f b true e h = rw e (record { within = omega arith; passes = λ some. e; above = λ k low high. absurd (omega arith) })
last_at f b false e h = rw e (record { within = omega (arith, h.within); passes = h.passes; above = λ k low high. above_more f b (last_passing f b) k e h.above low high })

last : (f : ℕ → Bool) (bound : ℕ) → IsLast f bound (last_passing f bound)
unfolding last_passing
last f zero = record { within = omega arith; passes = λ some. absurd (omega arith); above = λ k low high. absurd (omega arith) }
last f (suc b) = last_at f b (f (suc b)) refl (last f b)

le_from : (a b : ℤ) → int_le a b ≡ true → a ≤ℤ b
le_from a b h = omega (arith, signed_arith, h)

lt_from_le : (a b : ℤ) → int_le a b ≡ false → b <ℤ a
lt_from_le a b h = omega (arith, signed_arith, h)

le_from_lt : (a b : ℤ) → int_lt a b ≡ false → b ≤ℤ a
le_from_lt a b h = omega (arith, signed_arith, h)

or_left : (a b : Bool) → (a || b) ≡ false → a ≡ false
or_left false b h = refl
or_left true b h = cc

or_right : (a b : Bool) → (a || b) ≡ false → b ≡ false
or_right false b h = h
or_right true b h = cc

-- the year has begun, and the next one hasn't
year_begun : (day : ℤ) (y : ℕ) → is_outside day ≡ false → IsLast (λ k. int_le (days_from_civil (pos k) 1 1) day) 9999 y → days_from_civil (pos y) 1 1 ≤ℤ day
year_begun day zero inside l = le_from_lt day (days_from_civil (pos 0) 1 1) (or_left (int_lt day (days_from_civil (pos 0) 1 1)) (int_le (days_from_civil (pos 10000) 1 1) day) inside)
year_begun day (suc n) inside l = le_from (days_from_civil (pos (suc n)) 1 1) day (l.passes (omega arith))

year_ends : (day : ℤ) (y : ℕ) → is_outside day ≡ false → IsLast (λ k. int_le (days_from_civil (pos k) 1 1) day) 9999 y → day <ℤ days_from_civil (pos (suc y)) 1 1
year_ends day y inside l =
    elim (cases_order y 9999) [
      | inl same ↦ subst (λ k. day <ℤ days_from_civil (pos (suc k)) 1 1) (sym same) (lt_from_le (days_from_civil (pos 10000) 1 1) day (or_right (int_lt day (days_from_civil (pos 0) 1 1)) (int_le (days_from_civil (pos 10000) 1 1) day) inside))
      | inr (inl lt) ↦ lt_from_le (days_from_civil (pos (suc y)) 1 1) day (l.above (suc y) (omega arith) (omega arith))
      | inr (inr gt) ↦ absurd (omega (arith, l.within))
    ]

-- so has the month
month_some : (day : ℤ) (y m : ℕ) → days_from_civil (pos y) 1 1 ≤ℤ day → IsLast (λ k. int_le (days_from_civil (pos y) k 1) day) 12 m → 1 ≤ m
month_some day y zero begun l = absurd (omega (arith, signed_arith, begun, lt_from_le (days_from_civil (pos y) 1 1) day (l.above 1 (omega arith) (omega arith))))
month_some day y (suc n) begun l = omega arith

month_ends : (day : ℤ) (y m : ℕ) → 1 ≤ m → day <ℤ days_from_civil (pos (suc y)) 1 1 → IsLast (λ k. int_le (days_from_civil (pos y) k 1) day) 12 m → day <ℤ (days_from_civil (pos y) m 1 +ℤ pos (days_in_month (pos y) m))
month_ends day y m some ends l =
    elim (cases_order m 12) [
      | inl same ↦ rw same (omega (arith, signed_arith, ends, days_from_civil-day_count, days_from_civil-next_year (pos y) (pos (suc y)) (omega (arith, signed_arith)) (omega (arith, signed_arith)), day_count-day (pos y) 12 31 1 (omega arith) (omega arith)))
      | inr (inl lt) ↦ omega (arith, signed_arith, days_from_civil-day_count, lt_from_le (days_from_civil (pos y) (m + 1) 1) day (l.above (m + 1) (omega arith) (omega arith)), day_count-next_month (pos y) m some)
      | inr (inr gt) ↦ absurd (omega (arith, l.within))
    ]

natural : (z : ℤ) → pos 0 ≤ℤ z → (n : ℕ) × (z ≡ pos n)
natural (pos n) h = (n, refl)
natural (negsuc n) h = absurd (omega (arith, signed_arith, h))

gap : (a b : ℤ) → b ≤ℤ a → (n : ℕ) × (a -ℤ b ≡ pos n)
gap a b h = natural (a -ℤ b) (omega (arith, signed_arith, h))

-- the date of a day
date_is : (day : ℤ) (y m n : ℕ) → y ≤ 9999 → 1 ≤ m → m ≤ 12 → day -ℤ days_from_civil (pos y) m 1 ≡ pos n → n < days_in_month (pos y) m → (d : Date) × (epoch_day d ≡ day) × (d.year ≡ pos y)
date_is day y m n few some high is below = (
  record { year = pos y; month = m; day = n + 1; year_in = (omega (arith, signed_arith), omega (arith, signed_arith)); month_in = (omega arith, omega arith); day_in = (omega arith, omega arith) },
  omega (arith, signed_arith, days_from_civil-day_count, day_count-day (pos y) m (n + 1) 1 (omega arith) (omega arith), is),
  refl,
)

date_of : (day : ℤ) → is_outside day ≡ false → (d : Date) × (epoch_day d ≡ day) × (d.year ≡ pos (year_of day))
date_of day inside =
    let y = year_of day in
    let ly = last (λ k. int_le (days_from_civil (pos k) 1 1) day) 9999 in
    let begun = year_begun day y inside ly in
    let ends = year_ends day y inside ly in
    let m = month_of y day in
    let lm = last (λ k. int_le (days_from_civil (pos y) k 1) day) 12 in
    let some = month_some day y m begun lm in
    let first : days_from_civil (pos y) m 1 ≤ℤ day = le_from (days_from_civil (pos y) m 1) day (lm.passes some) in
    let over = month_ends day y m some ends lm in
    let n = gap day (days_from_civil (pos y) m 1) first in
    date_is day y m n.0 ly.within some lm.within n.1 (omega (arith, signed_arith, n.1, over))

-- the time of day of nanoseconds since midnight
time_of : (n : ℕ) → n < 86_400_000_000_000 → (t : Time) × (time_nanos t ≡ n)
time_of n h = (
  record { hour = n / 3_600_000_000_000; minute = n / 60_000_000_000 % 60; second = n / 1_000_000_000 % 60; subsec_nanosecond = n % 1_000_000_000; hour_in = omega arith; minute_in = omega arith; second_in = omega arith; subsec_in = omega arith },
  omega arith,
)

datetime_is : (z : ℤ) (d : Date) (t : Time) → epoch_day d ≡ days_of z → time_nanos t ≡ clock_of z → (dt : DateTime) × (civil_nanos dt ≡ z) × (dt.date ≡ d)
datetime_is z d t e f =
    let dt : DateTime = record { date = d; time = t } in
    (dt, omega (arith, signed_arith, civil_nanos-parts dt, e, f), refl)

-- a text that is computed is that of a date and time
moment_at : (z : ℤ) (text : List ℕ) (outside : Bool) → is_outside (days_of z) ≡ outside → moment_text z ≡ Some text → IsMoment z text
unfolding moment_text
moment_at z text true e h = let none = rw e at h in cc
moment_at z text false e h =
    let d = date_of (days_of z) e in
    let t = time_of (clock_of z) (omega (arith, signed_arith)) in
    let dt = datetime_is z d.0 t.0 d.1 t.1 in
    let shown : IsShown dt.0.date.year = subst IsShown (sym (ap (λ (x : Date). x.year) dt.2 ∙ d.2)) tt in
    let same : moment_text z ≡ Some (civil_text dt.0) = moment_text-moment z (civil_text dt.0) (dt.0, dt.1, shown, refl) in
    (dt.0, dt.1, shown, let both : Some text ≡ Some (civil_text dt.0) = sym h ∙ same in cc)

pub moment-text : (z : ℤ) (text : List ℕ) → moment_text z ≡ Some text → IsMoment z text
moment-text z text h = moment_at z text (is_outside (days_of z)) refl h

-- the text of an instant is read as it
pub parse_timestamp-text : (z : ℤ) (text : List ℕ) → IsTimestampNanos z → moment_text z ≡ Some text → parse_timestamp text ≡ Ok z
parse_timestamp-text z text range h = parse_timestamp-moment z text range (moment-text z text h)
