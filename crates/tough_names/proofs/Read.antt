-- What is read is spelled so.
use Rattle.std.proofs.Common.{◌≡◌, ◌≢◌, ℕ, ◌≤◌, Bool, true, false, List, [], ◌∷◌, ◌++◌, ◌⊎◌, inl, inr, map, flat_map, Some, refl, sym, ◌∙◌, ap, subst, cond, ◌==◌, nat_le, append_assoc, append-nil, arith, option_and_then}
use Rattle.std.specs.List.{AllByRecursion}
use Rattle.std.proofs.lemmas.Bool.Decides.{nat_tests}
use Rattle.tough_names.specs.declared.pattern.item.Span.{Span}
use Rattle.tough_names.specs.declared.pattern.reading.Place.{Place}
use Rattle.tough_names.specs.declared.pattern.reading.Place.TheVariants.{Outside, AfterRun, Escaped, Opened, Negated, Between, Single, Range, Ended}
use Rattle.tough_names.specs.declared.pattern.reading.Action.{Action}
use Rattle.tough_names.specs.declared.pattern.reading.Action.TheVariants.{Refuse, AddRun, AddAny, AddLiteral, Open, Negate, Go, AddSpan, Close, CloseWith, CloseWithDash}
use Rattle.tough_names.specs.Glob.{Part, run, one}
use Rattle.tough_names.specs.Items.{just}
use Rattle.tough_names.specs.Grammar.{State, start, with_part, act, decide, read_on, finish, finish_at, parts_in, first_member}
use Rattle.tough_names.specs.Spelling.{Member, single, range, IsSingle, IsMember, member_text, member_span, Class, dash_text, dash_span, bang_text, first_char, OpensWell, Form, star, question, class, escaped, plain, IsForm, form_text, form_part, IsApart, is_star, AreForms, pattern_text}
use Rattle.tough_names.proofs.Spelled.{at, rest_of, class_rest}

is_it : (c n : ℕ) → (c == n) ≡ true → c ≡ n
is_it c n h = grind (arith, nat_tests)

is_not : (c n : ℕ) → (c == n) ≡ false → c ≢ n
is_not c n h e = grind (arith, nat_tests)

is_below : (a b : ℕ) → nat_le a b ≡ true → a ≤ b
is_below a b h = grind (arith, nat_tests)

-- forms follow
pub record Follows (after : Bool) (before : List Part) (text : List ℕ) (parts : List Part) : Type 0 where
  pub forms : List Form
  pub are : AreForms after forms
  pub whole : text ≡ pattern_text forms
  pub same : parts ≡ before ++ map form_part forms

-- members, the end of their class, and forms follow
pub record Inside (before : List Part) (spans : List Span) (negated : Bool) (text : List ℕ) (parts : List Part) : Type 0 where
  pub ms : List Member
  pub trails : Bool
  pub forms : List Form
  pub members : AllByRecursion IsMember ms
  pub are : AreForms false forms
  pub whole : text ≡ rest_of ms trails (pattern_text forms)
  pub same : parts ≡ before ++ one negated (spans ++ map member_span ms ++ dash_span trails) ∷ map form_part forms

-- the same behind `[` and perhaps `!`
pub record Body (negated : Bool) (before : List Part) (text : List ℕ) (parts : List Part) : Type 0 where
  pub leads : Bool
  pub ms : List Member
  pub trails : Bool
  pub forms : List Form
  pub members : AllByRecursion IsMember ms
  pub some : dash_span leads ++ map member_span ms ++ dash_span trails ≢ []
  pub opens : OpensWell negated leads ms
  pub are : AreForms false forms
  pub whole : text ≡ dash_text leads ++ rest_of ms trails (pattern_text forms)
  pub same : parts ≡ before ++ one negated (dash_span leads ++ map member_span ms ++ dash_span trails) ∷ map form_part forms

pub record Next (c : ℕ) (after : Bool) (before : List Part) (text : List ℕ) (parts : List Part) : Type 0 where
  pub tail : List ℕ
  pub begins : text ≡ c ∷ tail
  pub rest : Follows after before tail parts

pub record Bang (before : List Part) (text : List ℕ) (parts : List Part) : Type 0 where
  pub tail : List ℕ
  pub begins : text ≡ 33 ∷ tail
  pub body : Body true before tail parts

abbrev literal : ℕ → Part
literal c = one false (just c ∷ [])

-- what follows where the reader stands
abbrev pub Remains : Place → List Part → List Span → Bool → List ℕ → List Part → Type 0
Remains Outside before spans negated text parts = Follows false before text parts
Remains AfterRun before spans negated text parts = Follows true before text parts
Remains Escaped before spans negated text parts = (c : ℕ) × Next c false (before ++ literal c ∷ []) text parts
Remains Opened before spans negated text parts = Body false before text parts ⊎ Bang before text parts
Remains Negated before spans negated text parts = Body true before text parts
Remains Between before spans negated text parts = Inside before spans negated text parts
Remains (Single low) before spans negated text parts = IsSingle low → Inside before spans negated (low ∷ text) parts
Remains (Range low) before spans negated text parts = IsSingle low → Inside before spans negated (low ∷ 45 ∷ text) parts
Remains Ended before spans negated text parts = Next 93 false (before ++ one negated spans ∷ []) text parts

-- where the reader stands as `[` and `[!` leave it
abbrev pub IsFresh : Place → List Span → Bool → Type 0
IsFresh Opened spans negated = (spans ≡ []) × (negated ≡ false)
IsFresh Negated spans negated = (spans ≡ []) × (negated ≡ true)
IsFresh _ spans negated = Unit {0}

abbrev Gives : State → List ℕ → List Part → Type 0
Gives s text parts = option_and_then finish (read_on s text) ≡ Some parts

-- the fact for the text after the next character
abbrev Later : List ℕ → List Part → Type 0
Later cs parts = (t : State) → IsFresh t.place t.spans t.negated → Gives t cs parts → Remains t.place t.parts t.spans t.negated cs parts

abbrev Acts : State → List ℕ → Action → List Part → Type 0
Acts s cs action parts = option_and_then finish (option_and_then (λ t. read_on t cs) (act s action)) ≡ Some parts

-- one more form in front
onto : (after : Bool) (f : Form) (before : List Part) (text : List ℕ) (parts : List Part) (whole_text : List ℕ) → IsForm f → IsApart after f → whole_text ≡ form_text f ++ text → Follows (is_star f) (before ++ form_part f ∷ []) text parts → Follows after before whole_text parts
onto after f before text parts whole_text h a e r = record {
  forms = f ∷ r.forms;
  are = (h, a, r.are);
  whole = e ∙ ap (λ t. form_text f ++ t) r.whole;
  same = r.same ∙ append_assoc before (form_part f ∷ []) (map form_part r.forms);
}

-- a class ends here
ends_class : (before : List Part) (spans all : List Span) (negated : Bool) (ms : List Member) (trails : Bool) (text cs : List ℕ) (parts : List Part) → AllByRecursion IsMember ms
    → text ≡ flat_map member_text ms ++ (dash_text trails ++ 93 ∷ cs) → all ≡ spans ++ map member_span ms ++ dash_span trails
    → Follows false (before ++ one negated all ∷ []) cs parts → Inside before spans negated text parts
ends_class before spans all negated ms trails text cs parts h e same_spans r = record {
  ms = ms;
  trails = trails;
  forms = r.forms;
  members = h;
  are = r.are;
  whole = e ∙ ap (λ t. flat_map member_text ms ++ (dash_text trails ++ 93 ∷ t)) r.whole;
  same = r.same ∙ (append_assoc before (one negated all ∷ []) (map form_part r.forms) ∙ ap (λ sp. before ++ one negated sp ∷ map form_part r.forms) same_spans);
}

one_more : (m : Member) (before : List Part) (spans : List Span) (negated : Bool) (text : List ℕ) (parts : List Part) (whole_text : List ℕ) → IsMember m → whole_text ≡ member_text m ++ text → Inside before (spans ++ member_span m ∷ []) negated text parts → Inside before spans negated whole_text parts
one_more m before spans negated text parts whole_text h e r = record {
  ms = m ∷ r.ms;
  trails = r.trails;
  forms = r.forms;
  members = (h, r.members);
  are = r.are;
  whole = e ∙ (ap (λ t. member_text m ++ t) r.whole ∙ sym (append_assoc (member_text m) (flat_map member_text r.ms) (dash_text r.trails ++ 93 ∷ pattern_text r.forms)));
  same = r.same ∙ ap (λ sp. before ++ one negated (sp ++ dash_span r.trails) ∷ map form_part r.forms) (append_assoc spans (member_span m ∷ []) (map member_span r.ms));
}

at_front : (c d : ℕ) (cs : List ℕ) → c ≡ d → c ∷ cs ≡ d ∷ cs
at_front c d cs e = ap (λ x. x ∷ cs) e

between_step : (before : List Part) (spans : List Span) (negated : Bool) (c : ℕ) (cs : List ℕ) (parts : List Part) (x y z : Bool) → (c == 45) ≡ x → (c == 93) ≡ y → (c == 92) ≡ z
    → Acts (at before spans negated Between) cs (cond x (AddSpan (just 45) Ended) (cond y Close (cond z Refuse (Go (Single c))))) parts → Later cs parts → Inside before spans negated (c ∷ cs) parts
between_step before spans negated c cs parts true y z e f g h later =
    let r = later (at before (spans ++ just 45 ∷ []) negated Ended) tt h in
    ends_class before spans (spans ++ just 45 ∷ []) negated [] true (c ∷ cs) r.tail parts tt (at_front c 45 cs (is_it c 45 e) ∙ ap (λ t. 45 ∷ t) r.begins) (ap (λ sp. sp ++ just 45 ∷ []) (sym (append-nil spans))) r.rest
between_step before spans negated c cs parts false true z e f g h later =
    ends_class before spans spans negated [] false (c ∷ cs) cs parts tt (at_front c 93 cs (is_it c 93 f)) (sym (append-nil spans) ∙ sym (append-nil (spans ++ []))) (later (with_part (at before spans negated Between) (one negated spans) Outside) tt h)
between_step before spans negated c cs parts false false true e f g h later = cc
between_step before spans negated c cs parts false false false e f g h later =
    later (at before spans negated (Single c)) tt h (is_not c 45 e, is_not c 93 f, is_not c 92 g)

single_step : (before : List Part) (spans : List Span) (negated : Bool) (low c : ℕ) (cs : List ℕ) (parts : List Part) (x y z : Bool) → IsSingle low → (c == 45) ≡ x → (c == 93) ≡ y → (c == 92) ≡ z
    → Acts (at before spans negated (Single low)) cs (cond x (Go (Range low)) (cond y (CloseWith (just low)) (cond z Refuse (AddSpan (just low) (Single c))))) parts → Later cs parts → Inside before spans negated (low ∷ c ∷ cs) parts
single_step before spans negated low c cs parts true y z s e f g h later =
    let P : ℕ → Type 0 = λ d. Inside before spans negated (low ∷ d ∷ cs) parts in
    subst P (sym (is_it c 45 e)) (later (at before spans negated (Range low)) tt h s)
single_step before spans negated low c cs parts false true z s e f g h later =
    ends_class before spans (spans ++ just low ∷ []) negated (single low ∷ []) false (low ∷ c ∷ cs) cs parts (s, tt) (ap (λ t. low ∷ t) (at_front c 93 cs (is_it c 93 f))) (sym (append-nil (spans ++ just low ∷ []))) (later (with_part (at before spans negated Between) (one negated (spans ++ just low ∷ [])) Outside) tt h)
single_step before spans negated low c cs parts false false true s e f g h later = cc
single_step before spans negated low c cs parts false false false s e f g h later =
    one_more (single low) before spans negated (c ∷ cs) parts (low ∷ c ∷ cs) s refl (later (at before (spans ++ just low ∷ []) negated (Single c)) tt h (is_not c 45 e, is_not c 93 f, is_not c 92 g))

range_step : (before : List Part) (spans : List Span) (negated : Bool) (low c : ℕ) (cs : List ℕ) (parts : List Part) (x y z w : Bool) → IsSingle low → (c == 45) ≡ x → (c == 93) ≡ y → (c == 92) ≡ z → nat_le low c ≡ w
    → Acts (at before spans negated (Range low)) cs (cond x Refuse (cond y (CloseWithDash (just low)) (cond z Refuse (cond w (AddSpan (record { first = low; last = c }) Between) Refuse)))) parts → Later cs parts → Inside before spans negated (low ∷ 45 ∷ c ∷ cs) parts
range_step before spans negated low c cs parts true y z w s e f g l h later = cc
range_step before spans negated low c cs parts false true z w s e f g l h later =
    ends_class before spans ((spans ++ just low ∷ []) ++ just 45 ∷ []) negated (single low ∷ []) true (low ∷ 45 ∷ c ∷ cs) cs parts (s, tt) (ap (λ t. low ∷ 45 ∷ t) (at_front c 93 cs (is_it c 93 f))) refl (later (with_part (at before spans negated Between) (one negated ((spans ++ just low ∷ []) ++ just 45 ∷ [])) Outside) tt h)
range_step before spans negated low c cs parts false false true w s e f g l h later = cc
range_step before spans negated low c cs parts false false false false s e f g l h later = cc
range_step before spans negated low c cs parts false false false true s e f g l h later =
    one_more (range low c) before spans negated cs parts (low ∷ 45 ∷ c ∷ cs) (s, (is_not c 45 e, is_not c 93 f, is_not c 92 g), is_below low c l) refl (later (at before (spans ++ record { first = low; last = c } ∷ []) negated Between) tt h)

ended_step : (before : List Part) (spans : List Span) (negated : Bool) (c : ℕ) (cs : List ℕ) (parts : List Part) (x : Bool) → (c == 93) ≡ x
    → Acts (at before spans negated Ended) cs (cond x Close Refuse) parts → Later cs parts → Next 93 false (before ++ one negated spans ∷ []) (c ∷ cs) parts
ended_step before spans negated c cs parts true e h later =
    record { tail = cs; begins = at_front c 93 cs (is_it c 93 e); rest = later (with_part (at before spans negated Between) (one negated spans) Outside) tt h }
ended_step before spans negated c cs parts false e h later = cc

opens_lead : (negated : Bool) (ms : List Member) → OpensWell negated true ms
opens_lead true ms = tt
opens_lead false ms = tt

abbrev MayOpen : Bool → ℕ → Type 0
MayOpen true c = Unit {0}
MayOpen false c = (c ≢ 33) × (c ≢ 94)

opens_with : (negated : Bool) (m : Member) (ms : List Member) (c : ℕ) → first_char m ≡ c → MayOpen negated c → OpensWell negated false (m ∷ ms)
opens_with true m ms c e h = tt
opens_with false m ms c e h = (λ f. h.0 (sym e ∙ f), λ f. h.1 (sym e ∙ f))

front_char : (m : Member) (ms : List Member) (trails : Bool) (rest : List ℕ) (c : ℕ) (cs : List ℕ) → c ∷ cs ≡ rest_of (m ∷ ms) trails rest → first_char m ≡ c
front_char (single d) ms trails rest c cs e = cc
front_char (range a b) ms trails rest c cs e = cc

-- members that begin with a character that may stand first
body_of : (before : List Part) (negated : Bool) (c : ℕ) (cs : List ℕ) (parts : List Part) (ms : List Member) (trails : Bool) (forms : List Form) → IsSingle c → MayOpen negated c → AllByRecursion IsMember ms → AreForms false forms
    → c ∷ cs ≡ rest_of ms trails (pattern_text forms) → parts ≡ before ++ one negated ([] ++ map member_span ms ++ dash_span trails) ∷ map form_part forms → Body negated before (c ∷ cs) parts
body_of before negated c cs parts [] false forms s o h are whole same = absurd (s.1 (cc))
body_of before negated c cs parts [] true forms s o h are whole same = absurd (s.0 (cc))
body_of before negated c cs parts (m ∷ ms) trails forms s o h are whole same = record {
  leads = false;
  ms = m ∷ ms;
  trails = trails;
  forms = forms;
  members = h;
  some = λ e. (cc);
  opens = opens_with negated m ms c (front_char m ms trails (pattern_text forms) c cs whole) o;
  are = are;
  whole = whole;
  same = same;
}

first_step : (before : List Part) (place : Place) (negated : Bool) (c : ℕ) (cs : List ℕ) (parts : List Part) (x y z : Bool) → (c == 45) ≡ x → (c == 93) ≡ y → (c == 92) ≡ z → MayOpen negated c
    → Acts (at before [] negated place) cs (cond x (AddSpan (just 45) Between) (cond y Refuse (cond z Refuse (Go (Single c))))) parts → Later cs parts → Body negated before (c ∷ cs) parts
first_step before place negated c cs parts true y z e f g o h later =
    let r = later (at before (just 45 ∷ []) negated Between) tt h in record {
      leads = true;
      ms = r.ms;
      trails = r.trails;
      forms = r.forms;
      members = r.members;
      some = λ e. (cc);
      opens = opens_lead negated r.ms;
      are = r.are;
      whole = at_front c 45 cs (is_it c 45 e) ∙ ap (λ t. 45 ∷ t) r.whole;
      same = r.same;
    }
first_step before place negated c cs parts false true z e f g o h later = cc
first_step before place negated c cs parts false false true e f g o h later = cc
first_step before place negated c cs parts false false false e f g o h later =
    let s : IsSingle c = (is_not c 45 e, is_not c 93 f, is_not c 92 g) in
    let r = later (at before [] negated (Single c)) tt h s in
    body_of before negated c cs parts r.ms r.trails r.forms s o r.members r.are r.whole r.same

opened_step : (before : List Part) (c : ℕ) (cs : List ℕ) (parts : List Part) (x y : Bool) → (c == 33) ≡ x → (c == 94) ≡ y
    → Acts (at before [] false Opened) cs (cond x Negate (cond y Refuse (first_member c))) parts → Later cs parts → Body false before (c ∷ cs) parts ⊎ Bang before (c ∷ cs) parts
opened_step before c cs parts true y e f h later =
    inr (record { tail = cs; begins = at_front c 33 cs (is_it c 33 e); body = later (at before [] true Negated) (refl, refl) h })
opened_step before c cs parts false true e f h later = cc
opened_step before c cs parts false false e f h later =
    inl (first_step before Opened false c cs parts (c == 45) (c == 93) (c == 92) refl refl refl (is_not c 33 e, is_not c 94 f) h later)

apart_class : (after : Bool) (c : Class) → IsApart after (class c)
apart_class true c = tt
apart_class false c = tt

apart_question : (after : Bool) → IsApart after question
apart_question true = tt
apart_question false = tt

apart_escaped : (after : Bool) (c : ℕ) → IsApart after (escaped c)
apart_escaped true c = tt
apart_escaped false c = tt

apart_plain : (after : Bool) (c : ℕ) → IsApart after (plain c)
apart_plain true c = tt
apart_plain false c = tt

from_body : (after negated : Bool) (before : List Part) (text cs : List ℕ) (parts : List Part) → text ≡ 91 ∷ (bang_text negated ++ cs) → Body negated before cs parts → Follows after before text parts
from_body after negated before text cs parts e r =
    let c : Class = record { negated = negated; leads = r.leads; members = r.ms; trails = r.trails } in record {
      forms = class c ∷ r.forms;
      are = (record { members = r.members; some = r.some; opens = r.opens }, apart_class after c, r.are);
      whole = e ∙ (ap (λ t. 91 ∷ (bang_text negated ++ t)) r.whole ∙ sym (class_rest c (pattern_text r.forms)));
      same = r.same;
    }

from_opened : (after : Bool) (before : List Part) (text cs : List ℕ) (parts : List Part) → text ≡ 91 ∷ cs → Body false before cs parts ⊎ Bang before cs parts → Follows after before text parts
from_opened after before text cs parts e (inl r) = from_body after false before text cs parts e r
from_opened after before text cs parts e (inr r) = from_body after true before text r.tail parts (e ∙ ap (λ t. 91 ∷ t) r.begins) r.body

outside_step : (after : Bool) (place : Place) (before : List Part) (spans : List Span) (negated : Bool) (c : ℕ) (cs : List ℕ) (parts : List Part) (t1 t2 t3 t4 t5 t6 : Bool)
    → (c == 42) ≡ t1 → (c == 63) ≡ t2 → (c == 91) ≡ t3 → (c == 92) ≡ t4 → (c == 123) ≡ t5 → (c == 125) ≡ t6
    → Acts (at before spans negated place) cs (cond t1 (cond after Refuse AddRun) (cond t2 AddAny (cond t3 Open (cond t4 (Go Escaped) (cond t5 Refuse (cond t6 Refuse (AddLiteral c))))))) parts → Later cs parts → Follows after before (c ∷ cs) parts
outside_step true place before spans negated c cs parts true t2 t3 t4 t5 t6 e1 e2 e3 e4 e5 e6 h later = cc
outside_step false place before spans negated c cs parts true t2 t3 t4 t5 t6 e1 e2 e3 e4 e5 e6 h later =
    onto false star before cs parts (c ∷ cs) tt tt (at_front c 42 cs (is_it c 42 e1)) (later (at (before ++ run ∷ []) [] false AfterRun) tt h)
outside_step after place before spans negated c cs parts false true t3 t4 t5 t6 e1 e2 e3 e4 e5 e6 h later =
    onto after question before cs parts (c ∷ cs) tt (apart_question after) (at_front c 63 cs (is_it c 63 e2)) (later (at (before ++ one true [] ∷ []) [] false Outside) tt h)
outside_step after place before spans negated c cs parts false false true t4 t5 t6 e1 e2 e3 e4 e5 e6 h later =
    from_opened after before (c ∷ cs) cs parts (at_front c 91 cs (is_it c 91 e3)) (later (at before [] false Opened) (refl, refl) h)
outside_step after place before spans negated c cs parts false false false true t5 t6 e1 e2 e3 e4 e5 e6 h later =
    let r = later (at before spans negated Escaped) tt h in
    onto after (escaped r.0) before r.1.tail parts (c ∷ cs) tt (apart_escaped after r.0) (at_front c 92 cs (is_it c 92 e4) ∙ ap (λ t. 92 ∷ t) r.1.begins) r.1.rest
outside_step after place before spans negated c cs parts false false false false true t6 e1 e2 e3 e4 e5 e6 h later = cc
outside_step after place before spans negated c cs parts false false false false false true e1 e2 e3 e4 e5 e6 h later = cc
outside_step after place before spans negated c cs parts false false false false false false e1 e2 e3 e4 e5 e6 h later =
    onto after (plain c) before cs parts (c ∷ cs) (is_not c 42 e1, is_not c 63 e2, is_not c 91 e3, is_not c 92 e4, is_not c 123 e5, is_not c 125 e6) (apart_plain after c) refl (later (at (before ++ literal c ∷ []) [] false Outside) tt h)

step : (place : Place) (before : List Part) (spans : List Span) (negated : Bool) (c : ℕ) (cs : List ℕ) (parts : List Part) → IsFresh place spans negated → Acts (at before spans negated place) cs (decide place c) parts → Later cs parts → Remains place before spans negated (c ∷ cs) parts
step Outside before spans negated c cs parts f h later = outside_step false Outside before spans negated c cs parts (c == 42) (c == 63) (c == 91) (c == 92) (c == 123) (c == 125) refl refl refl refl refl refl h later
step AfterRun before spans negated c cs parts f h later = outside_step true AfterRun before spans negated c cs parts (c == 42) (c == 63) (c == 91) (c == 92) (c == 123) (c == 125) refl refl refl refl refl refl h later
step Escaped before spans negated c cs parts f h later = (c, record { tail = cs; begins = refl; rest = later (at (before ++ literal c ∷ []) [] false Outside) tt h })
step Opened before spans negated c cs parts f h later =
    let P : List Span → Type 0 = λ sp. Acts (at before sp negated Opened) cs (decide Opened c) parts in
    let Q : Bool → Type 0 = λ n. Acts (at before [] n Opened) cs (decide Opened c) parts in
    opened_step before c cs parts (c == 33) (c == 94) refl refl (subst Q f.1 (subst P f.0 h)) later
step Negated before spans negated c cs parts f h later =
    let P : List Span → Type 0 = λ sp. Acts (at before sp negated Negated) cs (decide Negated c) parts in
    let Q : Bool → Type 0 = λ n. Acts (at before [] n Negated) cs (decide Negated c) parts in
    first_step before Negated true c cs parts (c == 45) (c == 93) (c == 92) refl refl refl tt (subst Q f.1 (subst P f.0 h)) later
step Between before spans negated c cs parts f h later = between_step before spans negated c cs parts (c == 45) (c == 93) (c == 92) refl refl refl h later
step (Single low) before spans negated c cs parts f h later = λ s. single_step before spans negated low c cs parts (c == 45) (c == 93) (c == 92) s refl refl refl h later
step (Range low) before spans negated c cs parts f h later = λ s. range_step before spans negated low c cs parts (c == 45) (c == 93) (c == 92) (nat_le low c) s refl refl refl refl h later
step Ended before spans negated c cs parts f h later = ended_step before spans negated c cs parts (c == 93) refl h later

nothing : (place : Place) (before : List Part) (spans : List Span) (negated : Bool) (parts : List Part) → finish_at place before ≡ Some parts → Remains place before spans negated [] parts
nothing Outside before spans negated parts h = record { forms = []; are = tt; whole = refl; same = (let e : parts ≡ before = cc in e) ∙ sym (append-nil before) }
nothing AfterRun before spans negated parts h = record { forms = []; are = tt; whole = refl; same = (let e : parts ≡ before = cc in e) ∙ sym (append-nil before) }
nothing Escaped before spans negated parts h = cc
nothing Opened before spans negated parts h = cc
nothing Negated before spans negated parts h = cc
nothing Between before spans negated parts h = cc
nothing (Single low) before spans negated parts h = cc
nothing (Range low) before spans negated parts h = cc
nothing Ended before spans negated parts h = cc

remains : (text : List ℕ) (parts : List Part) → Later text parts
remains [] parts t f h = nothing t.place t.parts t.spans t.negated parts h
remains (c ∷ cs) parts t f h = step t.place t.parts t.spans t.negated c cs parts f h (remains cs parts)

pub read_is_spelled : (text : List ℕ) (parts : List Part) → parts_in text ≡ Some parts → Follows false [] text parts
read_is_spelled text parts h = remains text parts start tt h
