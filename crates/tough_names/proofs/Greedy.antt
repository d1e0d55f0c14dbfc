-- The search for a fit that only ever goes back to the last run: what it keeps true, and each of its steps.
use Rattle.std.proofs.Common.{◌≡◌, ℕ, Bool, true, List, [], ◌∷◌, ◌++◌, ◌⊎◌, inl, inr, Option, Some, None, refl, sym, ◌∙◌, ap, subst, append_assoc}
use Rattle.tough_names.specs.declared.pattern.item.Span.{Span}
use Rattle.tough_names.specs.Glob.{Part, run, one, Fits, accepts}
use Rattle.tough_names.specs.Steps.{IsEnd, CoverEach}

pub end_same : (text : List ℕ) → IsEnd text text
end_same text = record { before = []; whole = refl }

end_more : (c : ℕ) (tail text : List ℕ) → IsEnd tail text → IsEnd tail (c ∷ text)
end_more c tail text e = record { before = c ∷ e.before; whole = ap (λ t. c ∷ t) e.whole }

end_of_end : (a b c : List ℕ) → IsEnd a b → IsEnd b c → IsEnd a c
end_of_end a b c x y = record { before = y.before ++ x.before; whole = y.whole ∙ (ap (λ t. y.before ++ t) x.whole ∙ sym (append_assoc y.before x.before a)) }

-- an end is the whole text, or an end of what follows the first character
end_cases_at : (before tail : List ℕ) (c : ℕ) (text : List ℕ) → c ∷ text ≡ before ++ tail → (tail ≡ c ∷ text) ⊎ IsEnd tail text
end_cases_at [] tail c text e = inl (sym e)
end_cases_at (d ∷ before) tail c text e = inr (record { before = before; whole = (cc) })

end_cases : (tail : List ℕ) (c : ℕ) (text : List ℕ) → IsEnd tail (c ∷ text) → (tail ≡ c ∷ text) ⊎ IsEnd tail text
end_cases tail c text e = end_cases_at e.before tail c text e.whole

-- what follows the first character of an end is an end of what follows the first character
end_tails : (d : ℕ) (tail : List ℕ) (c : ℕ) (text : List ℕ) → IsEnd (d ∷ tail) (c ∷ text) → IsEnd tail text
end_tails d tail c text e =
    elim (end_cases (d ∷ tail) c text e) [
      | inl same ↦ let P : List ℕ → Type 0 = λ t. IsEnd t text in subst P (let q : text ≡ tail = cc in q) (end_same text)
      | inr inside ↦ end_of_end tail (d ∷ tail) text (record { before = d ∷ []; whole = refl }) inside
    ]

-- the parts fit a shorter end of the text
abbrev pub FitsLater : List Part → List ℕ → Type 0
FitsLater parts [] = ⊥
FitsLater parts (c ∷ text) = (tail : List ℕ) × IsEnd tail text × Fits parts tail

-- the last run could still take more
abbrev pub Retries : Option (List Part × List ℕ) → Type 0
Retries None = ⊥
Retries (Some (after, from)) = FitsLater after from

-- whatever fits behind the last run leaves an end of the rest that fits what is left
abbrev pub Leads : Option (List Part × List ℕ) → List Part → List ℕ → Type 0
Leads None left rest = Unit {0}
Leads (Some (after, from)) left rest =
    (tail : List ℕ) → IsEnd tail from → Fits after tail → (end : List ℕ) × IsEnd end rest × Fits left end

-- the parts fit the text just where what is left fits the rest, or the last run can take more
pub record Searches (parts : List Part) (text : List ℕ) (left : List Part) (rest : List ℕ) (retry : Option (List Part × List ℕ)) : Type 0 where
  pub now : Fits left rest → Fits parts text
  pub later : Retries retry → Fits parts text
  pub either : Fits parts text → Fits left rest ⊎ Retries retry
  pub leads : Leads retry left rest

pub begins : (parts : List Part) (text : List ℕ) → Searches parts text parts text None
begins parts text = record { now = λ f. f; later = λ h. absurd h; either = λ f. inl f; leads = tt }

fits_run : (left : List Part) (rest tail : List ℕ) → IsEnd tail rest → Fits left tail → Fits (run ∷ left) rest
fits_run left rest tail e f = (e.before, tail, e.whole, tt, f)

fits_run_later : (left : List Part) (rest : List ℕ) → FitsLater left rest → Fits (run ∷ left) rest
fits_run_later left [] h = absurd h
fits_run_later left (c ∷ text) (tail, e, f) = fits_run left (c ∷ text) tail (end_more c tail text e) f

now_or_later_at : (left : List Part) (tail before rest : List ℕ) → rest ≡ before ++ tail → Fits left tail → Fits left rest ⊎ FitsLater left rest
now_or_later_at left tail [] rest e f = inl (let P : List ℕ → Type 0 = λ t. Fits left t in subst P (sym e) f)
now_or_later_at left tail (c ∷ before) rest e f =
    inr (let P : List ℕ → Type 0 = λ t. FitsLater left t in subst P (sym e) (tail, record { before = before; whole = refl }, f))

now_or_later : (left : List Part) (rest tail : List ℕ) → IsEnd tail rest → Fits left tail → Fits left rest ⊎ FitsLater left rest
now_or_later left rest tail e f = now_or_later_at left tail e.before rest e.whole f

later_is_end : (after : List Part) (from : List ℕ) → FitsLater after from → (tail : List ℕ) × IsEnd tail from × Fits after tail
later_is_end after [] h = absurd h
later_is_end after (c ∷ text) (tail, e, f) = (tail, end_more c tail text e, f)

widen_fit : (left : List Part) (rest end : List ℕ) → IsEnd end rest → Fits (run ∷ left) end → Fits (run ∷ left) rest
widen_fit left rest end e (piece, tail, whole, covers, f) =
    fits_run left rest tail (end_of_end tail end rest (record { before = piece; whole = whole }) e) f

split_run : (left : List Part) (rest : List ℕ) → Fits (run ∷ left) rest → Fits left rest ⊎ FitsLater left rest
split_run left rest (piece, tail, whole, covers, f) = now_or_later left rest tail (record { before = piece; whole = whole }) f

-- a run at the front: whatever fits behind an earlier one fits behind this one too
forget : (retry : Option (List Part × List ℕ)) (left : List Part) (rest : List ℕ) → Leads retry (run ∷ left) rest → Retries retry → Fits (run ∷ left) rest
forget None left rest leads h = absurd h
forget (Some (after, from)) left rest leads h =
    let l : (tail : List ℕ) × IsEnd tail from × Fits after tail = later_is_end after from h in
    let m : (end : List ℕ) × IsEnd end rest × Fits (run ∷ left) end = leads l.0 l.1 l.2 in
    widen_fit left rest m.0 m.1 m.2

pub widens : (parts : List Part) (text : List ℕ) (left : List Part) (rest : List ℕ) (retry : Option (List Part × List ℕ)) → Searches parts text (run ∷ left) rest retry → Searches parts text left rest (Some (left, rest))
widens parts text left rest retry s = record {
  now = λ f. s.now (fits_run left rest rest (end_same rest) f);
  later = λ h. s.now (fits_run_later left rest h);
  either = λ f. split_run left rest (elim (s.either f) [ inl fits ↦ fits | inr more ↦ forget retry left rest s.leads more ]);
  leads = λ tail e f. (tail, e, f);
}

fits_one : (negated : Bool) (spans : List Span) (c : ℕ) (left : List Part) (rest : List ℕ) → accepts negated spans c ≡ true → Fits left rest → Fits (one negated spans ∷ left) (c ∷ rest)
fits_one negated spans c left rest taken f = (c ∷ [], rest, refl, (c, refl, taken), f)

-- one character at the front
unfoldable pub FirstOf : Bool → List Span → List Part → List ℕ → Type 0
FirstOf negated spans left text = (c : ℕ) × (rest : List ℕ) × (text ≡ c ∷ rest) × (accepts negated spans c ≡ true) × Fits left rest

pub first_of_one : (negated : Bool) (spans : List Span) (left : List Part) (text : List ℕ) → Fits (one negated spans ∷ left) text → FirstOf negated spans left text
unfolding FirstOf
first_of_one negated spans left text (piece, tail, whole, (c, single, taken), f) =
    (c, tail, whole ∙ ap (λ p. p ++ tail) single, taken, f)

fits_tail : (negated : Bool) (spans : List Span) (c : ℕ) (left : List Part) (rest : List ℕ) → Fits (one negated spans ∷ left) (c ∷ rest) → Fits left rest
unfolding FirstOf
fits_tail negated spans c left rest f =
    let found : FirstOf negated spans left (c ∷ rest) = first_of_one negated spans left (c ∷ rest) f in
    let same : found.1 ≡ rest = cc in
    let P : List ℕ → Type 0 = λ t. Fits left t in subst P same found.4

leads_one_at : (negated : Bool) (spans : List Span) (c : ℕ) (left : List Part) (rest : List ℕ) → ((end : List ℕ) × IsEnd end (c ∷ rest) × Fits (one negated spans ∷ left) end) → (end : List ℕ) × IsEnd end rest × Fits left end
unfolding FirstOf
leads_one_at negated spans c left rest (end, e, f) =
    let found : FirstOf negated spans left end = first_of_one negated spans left end f in
    (found.1, end_tails found.0 found.1 c rest (let P : List ℕ → Type 0 = λ t. IsEnd t (c ∷ rest) in subst P found.2 e), found.4)

leads_one : (retry : Option (List Part × List ℕ)) (negated : Bool) (spans : List Span) (c : ℕ) (left : List Part) (rest : List ℕ) → Leads retry (one negated spans ∷ left) (c ∷ rest) → Leads retry left rest
leads_one None negated spans c left rest leads = tt
leads_one (Some (after, from)) negated spans c left rest leads = λ tail e f.
    leads_one_at negated spans c left rest (leads tail e f)

pub advances : (parts : List Part) (text : List ℕ) (negated : Bool) (spans : List Span) (c : ℕ) (left : List Part) (rest : List ℕ) (retry : Option (List Part × List ℕ)) → accepts negated spans c ≡ true → Searches parts text (one negated spans ∷ left) (c ∷ rest) retry → Searches parts text left rest retry
advances parts text negated spans c left rest retry taken s = record {
  now = λ f. s.now (fits_one negated spans c left rest taken f);
  later = s.later;
  either = λ f. elim (s.either f) [ inl fits ↦ inl (fits_tail negated spans c left rest fits) | inr more ↦ inr more ];
  leads = leads_one retry negated spans c left rest s.leads;
}

-- the last run takes one more character
pub retries : (parts : List Part) (text : List ℕ) (left : List Part) (rest : List ℕ) (after : List Part) (c : ℕ) (from : List ℕ) → (Fits left rest → ⊥) → Searches parts text left rest (Some (after, c ∷ from)) → Searches parts text after from (Some (after, from))
retries parts text left rest after c from stuck s = record {
  now = λ f. s.later (from, end_same from, f);
  later = λ h. s.later (later_is_end after from h);
  either = λ f. elim (s.either f) [
    | inl fits ↦ absurd (stuck fits)
    | inr more ↦ now_or_later after from more.0 more.1 more.2
  ];
  leads = λ tail e f. (tail, e, f);
}

pub no_fit : (parts : List Part) (text : List ℕ) (left : List Part) (rest : List ℕ) (retry : Option (List Part × List ℕ)) → (Fits left rest → ⊥) → (Retries retry → ⊥) → Searches parts text left rest retry → Fits parts text → ⊥
no_fit parts text left rest retry stuck none s f = elim (s.either f) [ inl fits ↦ stuck fits | inr more ↦ none more ]

-- the parts that are covered by the characters before the rest
pub advances_all : (parts : List Part) (text : List ℕ) (covering : List Part) (covered : List ℕ) (left : List Part) (rest : List ℕ) (retry : Option (List Part × List ℕ)) → CoverEach covering covered
    → Searches parts text (covering ++ left) (covered ++ rest) retry → Searches parts text left rest retry
advances_all parts text [] [] left rest retry each s = s
advances_all parts text [] (c ∷ cs) left rest retry each s = absurd each
advances_all parts text (p ∷ ps) [] left rest retry each s = absurd each
advances_all parts text (p ∷ ps) (c ∷ cs) left rest retry (negated, spans, is, taken, each) s =
    let P : Part → Type 0 = λ q. Searches parts text (q ∷ (ps ++ left)) (c ∷ (cs ++ rest)) retry in
    advances_all parts text ps cs left rest retry each (advances parts text negated spans c (ps ++ left) (cs ++ rest) retry taken (subst P is s))

fits_some : (after : List Part) (rest : List ℕ) → Fits after rest ⊎ FitsLater after rest → (tail : List ℕ) × IsEnd tail rest × Fits after tail
fits_some after rest (inl f) = (rest, end_same rest, f)
fits_some after rest (inr l) = later_is_end after rest l

-- the last run takes what comes before the place that was sought
pub seeks : (parts : List Part) (text : List ℕ) (after : List Part) (rest from : List ℕ) → IsEnd from rest → ((tail : List ℕ) → IsEnd tail rest → Fits after tail → IsEnd tail from)
    → Searches parts text after rest (Some (after, rest)) → Searches parts text after from (Some (after, from))
seeks parts text after rest from end all s =
    let whole : (tail : List ℕ) → IsEnd tail from → Fits after tail → Fits parts text =
    λ tail e f. elim (now_or_later after rest tail (end_of_end tail from rest e end) f) [ inl now ↦ s.now now | inr later ↦ s.later later ] in
    record {
      now = λ f. whole from (end_same from) f;
      later = λ h. let l = later_is_end after from h in whole l.0 l.1 l.2;
      either = λ f. let l = fits_some after rest (s.either f) in now_or_later after from l.0 (all l.0 l.1 l.2) l.2;
      leads = λ tail e f. (tail, e, f);
    }

-- where nothing was found, nothing fits
pub none_sought : (parts : List Part) (text : List ℕ) (after : List Part) (rest : List ℕ) → ((tail : List ℕ) → IsEnd tail rest → Fits after tail → ⊥)
    → Searches parts text after rest (Some (after, rest)) → Fits parts text → ⊥
none_sought parts text after rest none s f = let l = fits_some after rest (s.either f) in none l.0 l.1 l.2
