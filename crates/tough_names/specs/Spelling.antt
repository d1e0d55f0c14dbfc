-- The grammar of patterns (POSIX.1-2017, Shell and Utilities, section 2.13.1, less `[^..]` and named classes): what
-- stands in them, and how it is spelled.
use Rattle.std.specs.Prelude.{◌≡◌, ◌≢◌, ℕ, ◌≤◌, Bool, true, false, List, [], ◌∷◌, ◌++◌, map, flat_map, codes}
use Rattle.std.specs.List.{AllByRecursion}
use Rattle.tough_names.specs.declared.pattern.item.Span.{Span}
use Rattle.tough_names.specs.Glob.{Part, run, one, Fits}
use Rattle.tough_names.specs.Items.{just}

-- a member of a class: a character, or a range
pub data Member : Type 0 where
  single : ℕ → Member
  range : ℕ → ℕ → Member

abbrev pub IsSingle : ℕ → Type 0
IsSingle c = (c ≢ 45) × (c ≢ 93) × (c ≢ 92)

abbrev pub IsMember : Member → Type 0
IsMember (single c) = IsSingle c
IsMember (range a b) = IsSingle a × IsSingle b × (a ≤ b)

abbrev pub member_text : Member → List ℕ
member_text (single c) = c ∷ []
member_text (range a b) = a ∷ 45 ∷ b ∷ []

abbrev pub member_span : Member → Span
member_span (single c) = just c
member_span (range a b) = record { first = a; last = b }

-- a class: a `-` may stand first and last, for itself
pub record Class : Type 0 where
  pub negated : Bool
  pub leads : Bool
  pub members : List Member
  pub trails : Bool

abbrev pub dash_text : Bool → List ℕ
dash_text false = []
dash_text true = codes "-"

abbrev pub dash_span : Bool → List Span
dash_span false = []
dash_span true = just 45 ∷ []

abbrev pub bang_text : Bool → List ℕ
bang_text false = []
bang_text true = codes "!"

abbrev pub class_spans : Class → List Span
class_spans c = dash_span c.leads ++ map member_span c.members ++ dash_span c.trails

abbrev pub class_text : Class → List ℕ
class_text c = codes "[" ++ (bang_text c.negated ++ (dash_text c.leads ++ (flat_map member_text c.members ++ (dash_text c.trails ++ codes "]"))))

-- neither `!` nor `^` stands directly behind the opening bracket for itself
abbrev pub first_char : Member → ℕ
first_char (single c) = c
first_char (range a b) = a

abbrev pub OpensWell : Bool → Bool → List Member → Type 0
OpensWell false false (m ∷ ms) = (first_char m ≢ 33) × (first_char m ≢ 94)
OpensWell _ _ _ = Unit {0}

pub record IsClass (c : Class) : Type 0 where
  pub members : AllByRecursion IsMember c.members
  pub some : class_spans c ≢ []
  pub opens : OpensWell c.negated c.leads c.members

-- what a pattern is made of
pub data Form : Type 0 where
  star : Form
  question : Form
  class : Class → Form
  escaped : ℕ → Form
  plain : ℕ → Form

abbrev pub IsForm : Form → Type 0
IsForm star = Unit {0}
IsForm question = Unit {0}
IsForm (class c) = IsClass c
IsForm (escaped c) = Unit {0}
IsForm (plain c) = (c ≢ 42) × (c ≢ 63) × (c ≢ 91) × (c ≢ 92) × (c ≢ 123) × (c ≢ 125)

abbrev pub form_text : Form → List ℕ
form_text star = codes "*"
form_text question = codes "?"
form_text (class c) = class_text c
form_text (escaped c) = 92 ∷ c ∷ []
form_text (plain c) = c ∷ []

abbrev pub form_part : Form → Part
form_part star = run
form_part question = one true []
form_part (class c) = one c.negated (class_spans c)
form_part (escaped c) = one false (just c ∷ [])
form_part (plain c) = one false (just c ∷ [])

-- whether no `*` follows another
abbrev pub IsApart : Bool → Form → Type 0
IsApart true star = ⊥
IsApart _ _ = Unit {0}

abbrev pub is_star : Form → Bool
is_star star = true
is_star _ = false

abbrev pub AreForms : Bool → List Form → Type 0
AreForms after_star [] = Unit {0}
AreForms after_star (f ∷ fs) = IsForm f × IsApart after_star f × AreForms (is_star f) fs

abbrev pub pattern_text : List Form → List ℕ
pattern_text forms = flat_map form_text forms

-- the characters spell a pattern
abbrev pub IsPattern : List ℕ → Type 0
IsPattern pattern = (forms : List Form) × AreForms false forms × (pattern ≡ pattern_text forms)

-- the characters spell a pattern whose forms fit the text, each a piece of it
abbrev pub Matches : List ℕ → List ℕ → Type 0
Matches pattern text = (forms : List Form) × AreForms false forms × (pattern ≡ pattern_text forms) × Fits (map form_part forms) text
