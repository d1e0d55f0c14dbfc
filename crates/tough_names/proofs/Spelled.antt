-- What is spelled so is read so.
use Rattle.std.proofs.Common.{◌≡◌, ◌≢◌, ℕ, ◌≤◌, Bool, true, false, List, [], ◌∷◌, ◌++◌, map, flat_map, Option, Some, refl, sym, ◌∙◌, ap, subst, cond, ◌==◌, nat_le, append_assoc, append-nil, arith, option_and_then}
use Rattle.std.specs.List.{AllByRecursion}
use Rattle.std.proofs.lemmas.Bool.Decides.{nat_tests}
use Rattle.tough_names.specs.declared.pattern.item.Span.{Span}
use Rattle.tough_names.specs.declared.pattern.reading.Place.{Place}
use Rattle.tough_names.specs.declared.pattern.reading.Place.TheVariants.{Outside, AfterRun, Opened, Negated, Between, Single, Range}
use Rattle.tough_names.specs.declared.pattern.reading.Action.{Action}
use Rattle.tough_names.specs.declared.pattern.reading.Action.TheVariants.{AddLiteral, Go, AddSpan}
use Rattle.tough_names.specs.Glob.{Part, one}
use Rattle.tough_names.specs.Items.{just}
use Rattle.tough_names.specs.Grammar.{State, with_part, act, decide, read_on, finish, parts_in, outside, first_member}
use Rattle.tough_names.specs.Spelling.{Member, single, range, IsSingle, IsMember, member_text, member_span, Class, dash_text, dash_span, bang_text, class_spans, class_text, first_char, OpensWell, IsClass, Form, star, question, class, escaped, plain, IsForm, form_text, form_part, IsApart, is_star, AreForms, pattern_text}

second : {A : Type 0} (b : Bool) (x y : A) → b ≡ false → cond b x y ≡ y
second true x y e = cc
second false x y e = refl

first : {A : Type 0} (b : Bool) (x y : A) → b ≡ true → cond b x y ≡ x
first true x y e = refl
first false x y e = cc

other : (c n : ℕ) → c ≢ n → (c == n) ≡ false
other c n h = grind (arith, nat_tests)

below : (a b : ℕ) → a ≤ b → nat_le a b ≡ true
below a b h = grind (arith, nat_tests)

-- a character inside a class, where it isn't the first
between_single : (c : ℕ) → IsSingle c → decide Between c ≡ Go (Single c)
between_single c h = second (c == 45) _ _ (other c 45 h.0) ∙ (second (c == 93) _ _ (other c 93 h.1) ∙ second (c == 92) _ _ (other c 92 h.2))

single_single : (low c : ℕ) → IsSingle c → decide (Single low) c ≡ AddSpan (just low) (Single c)
single_single low c h = second (c == 45) _ _ (other c 45 h.0) ∙ (second (c == 93) _ _ (other c 93 h.1) ∙ second (c == 92) _ _ (other c 92 h.2))

range_single : (low c : ℕ) → IsSingle c → low ≤ c → decide (Range low) c ≡ AddSpan (record { first = low; last = c }) Between
range_single low c h le = second (c == 45) _ _ (other c 45 h.0) ∙ (second (c == 93) _ _ (other c 93 h.1) ∙ (second (c == 92) _ _ (other c 92 h.2) ∙ first (nat_le low c) _ _ (below low c le)))

first_single : (c : ℕ) → IsSingle c → first_member c ≡ Go (Single c)
first_single c h = second (c == 45) _ _ (other c 45 h.0) ∙ (second (c == 93) _ _ (other c 93 h.1) ∙ second (c == 92) _ _ (other c 92 h.2))

abbrev pub at : List Part → List Span → Bool → Place → State
at parts spans negated place = record { parts = parts; spans = spans; negated = negated; place = place }

abbrev go_on : State → List ℕ → Action → Option State
go_on s cs action = option_and_then (λ t. read_on t cs) (act s action)

abbrev pub rest_of : List Member → Bool → List ℕ → List ℕ
rest_of ms trails rest = flat_map member_text ms ++ (dash_text trails ++ 93 ∷ rest)

-- a pending character counts as a member, whatever follows in the class
pending : (parts : List Part) (spans : List Span) (negated : Bool) (c : ℕ) (ms : List Member) (trails : Bool) (rest : List ℕ) → AllByRecursion IsMember ms
    → read_on (at parts spans negated (Single c)) (rest_of ms trails rest) ≡ read_on (at parts (spans ++ just c ∷ []) negated Between) (rest_of ms trails rest)
pending parts spans negated c [] false rest h = refl
pending parts spans negated c [] true rest h = refl
pending parts spans negated c (single d ∷ ms) trails rest (h, hs) =
    ap (go_on (at parts spans negated (Single c)) (rest_of ms trails rest)) (single_single c d h) ∙ sym (ap (go_on (at parts (spans ++ just c ∷ []) negated Between) (rest_of ms trails rest)) (between_single d h))
pending parts spans negated c (range a b ∷ ms) trails rest (h, hs) =
    ap (go_on (at parts spans negated (Single c)) (45 ∷ b ∷ rest_of ms trails rest)) (single_single c a h.0) ∙ sym (ap (go_on (at parts (spans ++ just c ∷ []) negated Between) (45 ∷ b ∷ rest_of ms trails rest)) (between_single a h.0))

ends : (parts : List Part) (spans : List Span) (negated : Bool) (trails : Bool) (rest : List ℕ)
    → read_on (at parts spans negated Between) (dash_text trails ++ 93 ∷ rest) ≡ read_on (with_part (at parts spans negated Between) (one negated (spans ++ dash_span trails)) Outside) rest
ends parts spans negated false rest = ap (λ sp. read_on (with_part (at parts spans negated Between) (one negated sp) Outside) rest) (sym (append-nil spans))
ends parts spans negated true rest = refl

-- the members of a class, and its end
members : (parts : List Part) (spans : List Span) (negated : Bool) (ms : List Member) (trails : Bool) (rest : List ℕ) → AllByRecursion IsMember ms
    → read_on (at parts spans negated Between) (rest_of ms trails rest) ≡ read_on (with_part (at parts [] negated Between) (one negated (spans ++ map member_span ms ++ dash_span trails)) Outside) rest
members parts spans negated [] trails rest h =
    ends parts spans negated trails rest ∙ ap (λ sp. read_on (with_part (at parts [] negated Between) (one negated (sp ++ dash_span trails)) Outside) rest) (sym (append-nil spans))
members parts spans negated (single c ∷ ms) trails rest (h, hs) =
    ap (go_on (at parts spans negated Between) (rest_of ms trails rest)) (between_single c h)
    ∙ (pending parts spans negated c ms trails rest hs
    ∙ (members parts (spans ++ just c ∷ []) negated ms trails rest hs
    ∙ ap (λ sp. read_on (with_part (at parts [] negated Between) (one negated (sp ++ dash_span trails)) Outside) rest) (append_assoc spans (just c ∷ []) (map member_span ms))))
members parts spans negated (range a b ∷ ms) trails rest (h, hs) =
    ap (go_on (at parts spans negated Between) (45 ∷ b ∷ rest_of ms trails rest)) (between_single a h.0)
    ∙ (ap (go_on (at parts spans negated (Range a)) (rest_of ms trails rest)) (range_single a b h.1 h.2)
    ∙ (members parts (spans ++ member_span (range a b) ∷ []) negated ms trails rest hs
    ∙ ap (λ sp. read_on (with_part (at parts [] negated Between) (one negated (sp ++ dash_span trails)) Outside) rest) (append_assoc spans (member_span (range a b) ∷ []) (map member_span ms))))

-- where the class has just been opened, a first member is read as any other
opened_single : (c : ℕ) → IsSingle c → c ≢ 33 → c ≢ 94 → decide Opened c ≡ Go (Single c)
opened_single c h f g = second (c == 33) _ _ (other c 33 f) ∙ (second (c == 94) _ _ (other c 94 g) ∙ first_single c h)

pub first_is_single : (m : Member) → IsMember m → IsSingle (first_char m)
first_is_single (single c) h = h
first_is_single (range a b) h = h.0

starts : (parts : List Part) (negated : Bool) (place : Place) (m : Member) (ms : List Member) (trails : Bool) (rest : List ℕ) → IsMember m → decide place (first_char m) ≡ Go (Single (first_char m))
    → read_on (at parts [] negated place) (rest_of (m ∷ ms) trails rest) ≡ read_on (at parts [] negated Between) (rest_of (m ∷ ms) trails rest)
starts parts negated place (single c) ms trails rest h e =
    ap (go_on (at parts [] negated place) (rest_of ms trails rest)) e ∙ sym (ap (go_on (at parts [] negated Between) (rest_of ms trails rest)) (between_single c h))
starts parts negated place (range a b) ms trails rest h e =
    ap (go_on (at parts [] negated place) (45 ∷ b ∷ rest_of ms trails rest)) e ∙ sym (ap (go_on (at parts [] negated Between) (45 ∷ b ∷ rest_of ms trails rest)) (between_single a h.0))

abbrev closed : List Part → Bool → List Span → List ℕ → Option State
closed parts negated spans rest = read_on (with_part (at parts [] negated Between) (one negated spans) Outside) rest

-- the class behind `[` or `[!`
body_at : (parts : List Part) (negated : Bool) (place : Place) (leads : Bool) (ms : List Member) (trails : Bool) (rest : List ℕ) → AllByRecursion IsMember ms
    → (dash_span leads ++ map member_span ms ++ dash_span trails ≢ []) → decide place 45 ≡ AddSpan (just 45) Between
    → ((m : Member) (others : List Member) → leads ≡ false → ms ≡ m ∷ others → decide place (first_char m) ≡ Go (Single (first_char m)))
    → read_on (at parts [] negated place) (dash_text leads ++ rest_of ms trails rest) ≡ closed parts negated (dash_span leads ++ map member_span ms ++ dash_span trails) rest
body_at parts negated place true ms trails rest h some dash opens =
    ap (go_on (at parts [] negated place) (rest_of ms trails rest)) dash ∙ members parts (just 45 ∷ []) negated ms trails rest h
body_at parts negated place false [] false rest h some dash opens = absurd (some refl)
body_at parts negated place false [] true rest h some dash opens =
    ap (go_on (at parts [] negated place) (93 ∷ rest)) dash
body_at parts negated place false (m ∷ ms) trails rest (h, hs) some dash opens =
    starts parts negated place m ms trails rest h (opens m ms refl refl) ∙ members parts [] negated (m ∷ ms) trails rest (h, hs)

opens_at : (m : Member) (others : List Member) (leads : Bool) (ms : List Member) → AllByRecursion IsMember ms → OpensWell false leads ms → leads ≡ false → ms ≡ m ∷ others → decide Opened (first_char m) ≡ Go (Single (first_char m))
opens_at m others true ms h w e f = cc
opens_at m others false [] h w e f = cc
opens_at m others false (n ∷ ns) (h, hs) w e f =
    let same : n ≡ m = cc in
    let P : Member → Type 0 = λ x. decide Opened (first_char x) ≡ Go (Single (first_char x)) in
    subst P same (opened_single (first_char n) (first_is_single n h) w.0 w.1)

negates_at : (m : Member) (others : List Member) (ms : List Member) → AllByRecursion IsMember ms → ms ≡ m ∷ others → decide Negated (first_char m) ≡ Go (Single (first_char m))
negates_at m others [] h f = cc
negates_at m others (n ∷ ns) (h, hs) f =
    let same : n ≡ m = cc in
    let P : Member → Type 0 = λ x. decide Negated (first_char x) ≡ Go (Single (first_char x)) in
    subst P same (first_single (first_char n) (first_is_single n h))

opened_body : (parts : List Part) (negated leads : Bool) (ms : List Member) (trails : Bool) (rest : List ℕ) → AllByRecursion IsMember ms
    → (dash_span leads ++ map member_span ms ++ dash_span trails ≢ []) → OpensWell negated leads ms
    → read_on (at parts [] false Opened) (bang_text negated ++ (dash_text leads ++ rest_of ms trails rest)) ≡ closed parts negated (dash_span leads ++ map member_span ms ++ dash_span trails) rest
opened_body parts true leads ms trails rest h some w = body_at parts true Negated leads ms trails rest h some refl (λ m others e f. negates_at m others ms h f)
opened_body parts false leads ms trails rest h some w = body_at parts false Opened leads ms trails rest h some refl (λ m others e f. opens_at m others leads ms h w e f)

abbrev pub place_of : Bool → Place
place_of true = AfterRun
place_of false = Outside

pub class_rest : (c : Class) (rest : List ℕ) → class_text c ++ rest ≡ 91 ∷ (bang_text c.negated ++ (dash_text c.leads ++ rest_of c.members c.trails rest))
class_rest c rest = simp append_assoc

reads_class : (parts : List Part) (after : Bool) (c : Class) (rest : List ℕ) → IsClass c
    → read_on (at parts [] false (place_of after)) (91 ∷ (bang_text c.negated ++ (dash_text c.leads ++ rest_of c.members c.trails rest))) ≡ closed parts c.negated (class_spans c) rest
reads_class parts true c rest h = opened_body parts c.negated c.leads c.members c.trails rest h.members h.some h.opens
reads_class parts false c rest h = opened_body parts c.negated c.leads c.members c.trails rest h.members h.some h.opens

plain_outside : (after : Bool) (c : ℕ) → IsForm (plain c) → outside after c ≡ AddLiteral c
plain_outside after c h =
    second (c == 42) _ _ (other c 42 h.0) ∙ (second (c == 63) _ _ (other c 63 h.1) ∙ (second (c == 91) _ _ (other c 91 h.2) ∙ (second (c == 92) _ _ (other c 92 h.3) ∙ (second (c == 123) _ _ (other c 123 h.4) ∙ second (c == 125) _ _ (other c 125 h.5)))))

reads_form : (parts : List Part) (after : Bool) (f : Form) (rest : List ℕ) → IsForm f → IsApart after f
    → read_on (at parts [] false (place_of after)) (form_text f ++ rest) ≡ read_on (at (parts ++ form_part f ∷ []) [] false (place_of (is_star f))) rest
reads_form parts true star rest h a = absurd a
reads_form parts false star rest h a = refl
reads_form parts true question rest h a = refl
reads_form parts false question rest h a = refl
reads_form parts after (class c) rest h a = ap (read_on (at parts [] false (place_of after))) (class_rest c rest) ∙ reads_class parts after c rest h
reads_form parts true (escaped c) rest h a = refl
reads_form parts false (escaped c) rest h a = refl
reads_form parts true (plain c) rest h a = ap (go_on (at parts [] false AfterRun) rest) (plain_outside true c h)
reads_form parts false (plain c) rest h a = ap (go_on (at parts [] false Outside) rest) (plain_outside false c h)

reads_forms : (parts : List Part) (after : Bool) (forms : List Form) → AreForms after forms
    → option_and_then finish (read_on (at parts [] false (place_of after)) (pattern_text forms)) ≡ Some (parts ++ map form_part forms)
reads_forms parts true [] h = ap Some (sym (append-nil parts))
reads_forms parts false [] h = ap Some (sym (append-nil parts))
reads_forms parts after (f ∷ fs) (h, a, hs) =
    ap (option_and_then finish) (reads_form parts after f (pattern_text fs) h a)
    ∙ (reads_forms (parts ++ form_part f ∷ []) (is_star f) fs hs
    ∙ ap Some (append_assoc parts (form_part f ∷ []) (map form_part fs)))

pub spelled_is_read : (forms : List Form) → AreForms false forms → parts_in (pattern_text forms) ≡ Some (map form_part forms)
spelled_is_read forms h = reads_forms [] false forms h
