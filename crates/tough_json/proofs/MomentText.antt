-- The function that gives the text of an instant agrees with the calendar.
use Rattle.std.proofs.Common.{◌≡◌, ℕ, zero, suc, ◌+◌, ◌-◌, ◌/◌, ◌%◌, ◌<◌, ◌≤◌, ◌||◌, ℤ, pos, negsuc, ◌-ℤ◌, ◌≤ℤ◌, ◌<ℤ◌, int_lt, int_le, if◌then◌else◌, unsigned_abs, Bool, true, false, List, [], ◌∷◌, ◌++◌, Some, None, inl, inr, refl, sym, ap, subst, ◌∙◌, arith}
use Rattle.std.proofs.lemmas.Bool.{cases_order}
use Rattle.std.proofs.lemmas.Int.{ints}
use Rattle.std.proofs.lemmas.List.{append_assoc}
use Rattle.jiff_core.specs.declared.civil.date.Date.{Date}
use Rattle.jiff_core.specs.declared.civil.time.Time.{Time}
use Rattle.jiff_core.specs.declared.civil.datetime.DateTime.{DateTime}
use Rattle.jiff_core.specs.Calendar.{days_from_civil}
use Rattle.jiff_core.specs.Date.{epoch_day}
use Rattle.jiff_core.specs.Time.{time_nanos}
use Rattle.jiff_core.specs.DateTime.{civil_nanos}
use Rattle.jiff_core.proofs.SignedLemmas.{signed_arith}
use Rattle.jiff_core.proofs.CalendarLemmas.{days_from_civil-day_count, day_count-lt_year, day_count-lt_month, day_count-day, day_count-later_year}
use Rattle.jiff_core.proofs.DateLemmas.{civil, epoch_day-ordinal}
use Rattle.jiff_core.proofs.DateTimeLemmas.{epoch_day-civil_nanos, civil_nanos-parts, time_nanos_bound}
use Rattle.jiff_fmt.specs.Text.{pad2, pad4, year_text, date_text, time_text, fraction_part}
use Rattle.tough_json.specs.Moment.{last_passing, year_of, month_of, day_of_month, day_text, clock_text, clock_of, is_outside, moment_text, civil_text, decimals, IsShown, IsMoment, IsBeforeAll}

last_at : (f : ℕ → Bool) (b n : ℕ) (t : Bool) → f (suc b) ≡ t → n ≤ suc b → (0 < n → f n ≡ true) → ((k : ℕ) → n < k → k ≤ suc b → f k ≡ false) → (n ≤ b → last_passing f b ≡ n) → last_passing f (suc b) ≡ n
unfolding last_passing
last_at f b n true e h p q r =
    elim (cases_order n (suc b)) [
      | inl same ↦ rw e (sym same)
      | inr (inl lt) ↦ absurd (let clash : true ≡ false = sym e ∙ q (suc b) lt (omega arith) in cc)
      | inr (inr gt) ↦ absurd (omega arith)
    ]
last_at f b n false e h p q r =
    elim (cases_order n (suc b)) [
      | inl same ↦ absurd (let clash : true ≡ false = sym (p (omega arith)) ∙ ap f same ∙ e in cc)
      | inr (inl lt) ↦ rw e (r (omega arith))
      | inr (inr gt) ↦ absurd (omega arith)
    ]

-- the last that passes is n, if n passes and none above it does
pub last_passing-is : (f : ℕ → Bool) (bound n : ℕ) → n ≤ bound → (0 < n → f n ≡ true) → ((k : ℕ) → n < k → k ≤ bound → f k ≡ false) → last_passing f bound ≡ n
unfolding last_passing
last_passing-is f zero n h p q = omega arith
last_passing-is f (suc b) n h p q = last_at f b n (f (suc b)) refl h p q (λ low. last_passing-is f b n low p (λ k above below. q k above (omega arith)))

is_le : (a b : ℤ) → a ≤ℤ b → int_le a b ≡ true
is_le a b h = grind (arith, ints, h)

not_le : (a b : ℤ) → b <ℤ a → int_le a b ≡ false
not_le a b h = grind (arith, ints, h)

is_lt : (a b : ℤ) → a <ℤ b → int_lt a b ≡ true
is_lt a b h = grind (arith, ints, h)

not_lt : (a b : ℤ) → b ≤ℤ a → int_lt a b ≡ false
not_lt a b h = grind (arith, ints, h)

year_begun : (d : Date) → days_from_civil d.year 1 1 ≤ℤ epoch_day d
year_begun d = omega (arith, signed_arith, epoch_day-ordinal d, d.day_in.0)

year_later : (d : Date) (later : ℤ) → d.year <ℤ later → epoch_day d <ℤ days_from_civil later 1 1
year_later d later h = omega (arith, signed_arith, days_from_civil-day_count, day_count-lt_year d.year d.month d.day later 1 1 (civil d) (omega arith) h)

month_begun : (d : Date) → days_from_civil d.year d.month 1 ≤ℤ epoch_day d
month_begun d = omega (arith, signed_arith, days_from_civil-day_count, day_count-day d.year d.month d.day 1 d.day_in.0 (omega arith), d.day_in.0)

month_later : (d : Date) (later : ℕ) → d.month < later → epoch_day d <ℤ days_from_civil d.year later 1
month_later d later h = omega (arith, signed_arith, days_from_civil-day_count, day_count-lt_month d.year d.month d.day later 1 (civil d) (omega arith) h)

year-is : (d : Date) (y : ℕ) → d.year ≡ pos y → year_of (epoch_day d) ≡ y
year-is d y e =
    last_passing-is (λ k. int_le (days_from_civil (pos k) 1 1) (epoch_day d)) 9999 y (omega (arith, signed_arith, d.year_in, e))
    (λ some. is_le (days_from_civil (pos y) 1 1) (epoch_day d) (subst (λ (z : ℤ). days_from_civil z 1 1 ≤ℤ epoch_day d) e (year_begun d)))
    (λ k above below. not_le (days_from_civil (pos k) 1 1) (epoch_day d) (year_later d (pos k) (omega (arith, signed_arith, e, above))))

month-is : (d : Date) (y : ℕ) → d.year ≡ pos y → month_of y (epoch_day d) ≡ d.month
month-is d y e =
    last_passing-is (λ k. int_le (days_from_civil (pos y) k 1) (epoch_day d)) 12 d.month (omega (arith, d.month_in))
    (λ some. is_le (days_from_civil (pos y) d.month 1) (epoch_day d) (subst (λ (z : ℤ). days_from_civil z d.month 1 ≤ℤ epoch_day d) e (month_begun d)))
    (λ k above below. not_le (days_from_civil (pos y) k 1) (epoch_day d) (subst (λ (z : ℤ). epoch_day d <ℤ days_from_civil z k 1) e (month_later d k above)))

day_diff : (d : Date) → epoch_day d -ℤ days_from_civil d.year d.month 1 ≡ pos (d.day - 1)
day_diff d = omega (arith, signed_arith, days_from_civil-day_count, day_count-day d.year d.month d.day 1 d.day_in.0 (omega arith), d.day_in.0)

day-is : (d : Date) (y : ℕ) → d.year ≡ pos y → day_of_month y d.month (epoch_day d) ≡ d.day
day-is d y e =
    ap (λ z. unsigned_abs (epoch_day d -ℤ days_from_civil z d.month 1) + 1) (sym e) ∙ ap (λ z. unsigned_abs z + 1) (day_diff d) ∙ omega (arith, d.day_in.0)

clock-is : (dt : DateTime) → clock_of (civil_nanos dt) ≡ time_nanos dt.time
clock-is dt = omega (arith, signed_arith, civil_nanos-parts dt, time_nanos_bound dt.time)

first_begun : (d : Date) (y : ℕ) → d.year ≡ pos y → days_from_civil (pos 0) 1 1 ≤ℤ epoch_day d
first_begun d zero e = subst (λ (z : ℤ). days_from_civil z 1 1 ≤ℤ epoch_day d) e (year_begun d)
first_begun d (suc n) e =
    let begun : days_from_civil (pos (suc n)) 1 1 ≤ℤ epoch_day d = subst (λ (z : ℤ). days_from_civil z 1 1 ≤ℤ epoch_day d) e (year_begun d) in
    omega (arith, signed_arith, days_from_civil-day_count, day_count-later_year (pos 0) (pos (suc n)) (omega (arith, signed_arith)) (omega (arith, signed_arith)), begun)

or_no : (a b : Bool) → a ≡ false → b ≡ false → (a || b) ≡ false
or_no false false e f = refl
or_no false true e f = f
or_no true b e f = e

or_yes : (a b : Bool) → a ≡ true → (a || b) ≡ true
or_yes true b e = refl
or_yes false b e = cc

inside : (d : Date) (y : ℕ) → d.year ≡ pos y → is_outside (epoch_day d) ≡ false
inside d y e =
    or_no (int_lt (epoch_day d) (days_from_civil (pos 0) 1 1)) (int_le (days_from_civil (pos 10000) 1 1) (epoch_day d))
    (not_lt (epoch_day d) (days_from_civil (pos 0) 1 1) (first_begun d y e))
    (not_le (days_from_civil (pos 10000) 1 1) (epoch_day d) (year_later d (pos 10000) (omega (arith, signed_arith, d.year_in))))

outside : (d : Date) → d.year <ℤ pos 0 → is_outside (epoch_day d) ≡ true
outside d h = or_yes (int_lt (epoch_day d) (days_from_civil (pos 0) 1 1)) (int_le (days_from_civil (pos 10000) 1 1) (epoch_day d)) (is_lt (epoch_day d) (days_from_civil (pos 0) 1 1) (year_later d (pos 0) h))

day_text-is : (d : Date) (y : ℕ) → d.year ≡ pos y → day_text (epoch_day d) ≡ date_text d
day_text-is d y e =
    let day = epoch_day d in
    ap (λ k. pad4 k ++ 45 ∷ [] ++ pad2 (month_of k day) ++ 45 ∷ [] ++ pad2 (day_of_month k (month_of k day) day)) (year-is d y e)
    ∙ ap (λ m. pad4 y ++ 45 ∷ [] ++ pad2 m ++ 45 ∷ [] ++ pad2 (day_of_month y m day)) (month-is d y e)
    ∙ ap (λ k. pad4 y ++ 45 ∷ [] ++ pad2 d.month ++ 45 ∷ [] ++ pad2 k) (day-is d y e)
    ∙ sym (ap (λ z. year_text z ++ 45 ∷ [] ++ pad2 d.month ++ 45 ∷ [] ++ pad2 d.day) e)

clock_parts : (h m s n a b c e : ℕ) → a ≡ h → b ≡ m → c ≡ s → e ≡ n
    → pad2 a ++ 58 ∷ pad2 b ++ 58 ∷ pad2 c ++ fraction_part (decimals e) e ≡ pad2 h ++ 58 ∷ pad2 m ++ 58 ∷ pad2 s ++ fraction_part (decimals n) n
clock_parts h m s n a b c e p q r t = rw (p, q, r, t) refl

clock_text-is : (t : Time) → clock_text (time_nanos t) ≡ time_text (decimals t.subsec_nanosecond) t
clock_text-is t =
    let n = time_nanos t in
    clock_parts t.hour t.minute t.second t.subsec_nanosecond (n / 3_600_000_000_000) (n / 60_000_000_000 % 60) (n / 1_000_000_000 % 60) (n % 1_000_000_000)
    (omega (arith, t.hour_in, t.minute_in, t.second_in, t.subsec_in))
    (omega (arith, t.hour_in, t.minute_in, t.second_in, t.subsec_in))
    (omega (arith, t.hour_in, t.minute_in, t.second_in, t.subsec_in))
    (omega (arith, t.hour_in, t.minute_in, t.second_in, t.subsec_in))

-- a year from 0 on is shown
pub moment_text-shown : (dt : DateTime) (y : ℕ) → dt.date.year ≡ pos y → moment_text (civil_nanos dt) ≡ Some (civil_text dt)
unfolding moment_text
moment_text-shown dt y e =
    let z = civil_nanos dt in
    ap (λ day. if is_outside day then None else Some (day_text day ++ 84 ∷ (clock_text (clock_of z) ++ 90 ∷ []))) (sym (epoch_day-civil_nanos dt))
    ∙ ap (λ b. if b then None else Some (day_text (epoch_day dt.date) ++ 84 ∷ (clock_text (clock_of z) ++ 90 ∷ []))) (inside dt.date y e)
    ∙ ap (λ day. Some (day ++ 84 ∷ (clock_text (clock_of z) ++ 90 ∷ []))) (day_text-is dt.date y e)
    ∙ ap (λ n. Some (date_text dt.date ++ 84 ∷ (clock_text n ++ 90 ∷ []))) (clock-is dt)
    ∙ ap (λ c. Some (date_text dt.date ++ 84 ∷ (c ++ 90 ∷ []))) (clock_text-is dt.time)
    ∙ ap Some (sym (append_assoc (date_text dt.date) (84 ∷ time_text (decimals dt.time.subsec_nanosecond) dt.time) (90 ∷ [])))

-- one before it isn't
pub moment_text-hidden : (dt : DateTime) → dt.date.year <ℤ pos 0 → moment_text (civil_nanos dt) ≡ None
unfolding moment_text
moment_text-hidden dt h =
    let z = civil_nanos dt in
    ap (λ day. if is_outside day then None else Some (day_text day ++ 84 ∷ (clock_text (clock_of z) ++ 90 ∷ []))) (sym (epoch_day-civil_nanos dt))
    ∙ ap (λ b. if b then None else Some (day_text (epoch_day dt.date) ++ 84 ∷ (clock_text (clock_of z) ++ 90 ∷ []))) (outside dt.date h)

at_year : (dt : DateTime) (y : ℤ) → dt.date.year ≡ y → IsShown y → moment_text (civil_nanos dt) ≡ Some (civil_text dt)
at_year dt (pos n) e s = moment_text-shown dt n e
at_year dt (negsuc n) e s = absurd s

before_year : (dt : DateTime) (y : ℤ) → dt.date.year ≡ y → (IsShown y → ⊥) → moment_text (civil_nanos dt) ≡ None
before_year dt (pos n) e s = absurd (s tt)
before_year dt (negsuc n) e s = moment_text-hidden dt (omega (arith, signed_arith, e))

-- the function gives what the relation says
pub moment_text-moment : (z : ℤ) (text : List ℕ) → IsMoment z text → moment_text z ≡ Some text
moment_text-moment z text m = ap moment_text (sym m.1) ∙ at_year m.0 m.0.date.year refl m.2 ∙ ap Some (sym m.3)

pub moment_text-before : (z : ℤ) → IsBeforeAll z → moment_text z ≡ None
moment_text-before z b = ap moment_text (sym b.1) ∙ before_year b.0 b.0.date.year refl b.2
