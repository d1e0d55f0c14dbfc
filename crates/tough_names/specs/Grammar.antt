-- How a pattern is read, a character at a time.
use Rattle.std.specs.Prelude.{ℕ, Bool, true, false, List, [], ◌∷◌, ◌++◌, Option, Some, None, ◌==◌, nat_le, if◌then◌else◌, option_and_then}
use Rattle.tough_names.specs.declared.pattern.item.Span.{Span}
use Rattle.tough_names.specs.declared.pattern.reading.Place.{Place}
use Rattle.tough_names.specs.declared.pattern.reading.Place.TheVariants.{Outside, AfterRun, Escaped, Opened, Negated, Between, Single, Range, Ended}
use Rattle.tough_names.specs.declared.pattern.reading.Action.{Action}
use Rattle.tough_names.specs.declared.pattern.reading.Action.TheVariants.{Refuse, AddRun, AddAny, AddLiteral, Open, Negate, Go, AddSpan, Close, CloseWith, CloseWithDash}
use Rattle.tough_names.specs.Glob.{Part, run, one}
use Rattle.tough_names.specs.Items.{just, literal}

-- outside a class
abbrev pub outside : Bool → ℕ → Action
outside after_run c =
    if c == 42 then (if after_run then Refuse else AddRun)
    else if c == 63 then AddAny
    else if c == 91 then Open
    else if c == 92 then Go Escaped
    else if c == 123 then Refuse
    else if c == 125 then Refuse
    else AddLiteral c

-- the first member of a class
abbrev pub first_member : ℕ → Action
first_member c =
    if c == 45 then AddSpan (just 45) Between
    else if c == 93 then Refuse
    else if c == 92 then Refuse
    else Go (Single c)

-- what the next character does there
abbrev pub decide : Place → ℕ → Action
decide Outside c = outside false c
decide AfterRun c = outside true c
decide Escaped c = AddLiteral c
decide Opened c = if c == 33 then Negate else if c == 94 then Refuse else first_member c
decide Negated c = first_member c
decide Between c =
    if c == 45 then AddSpan (just 45) Ended
    else if c == 93 then Close
    else if c == 92 then Refuse
    else Go (Single c)
decide (Single low) c =
    if c == 45 then Go (Range low)
    else if c == 93 then CloseWith (just low)
    else if c == 92 then Refuse
    else AddSpan (just low) (Single c)
decide (Range low) c =
    if c == 45 then Refuse
    else if c == 93 then CloseWithDash (just low)
    else if c == 92 then Refuse
    else if nat_le low c then AddSpan (record { first = low; last = c }) Between
    else Refuse
decide Ended c = if c == 93 then Close else Refuse

-- the parts so far, the open class's members, and the place
pub record State : Type 0 where
  pub parts : List Part
  pub spans : List Span
  pub negated : Bool
  pub place : Place

abbrev pub start : State
start = record { parts = []; spans = []; negated = false; place = Outside }

abbrev pub with_part : State → Part → Place → State
with_part s part place = record { parts = s.parts ++ part ∷ []; spans = []; negated = false; place = place }

abbrev pub act : State → Action → Option State
act s Refuse = None
act s AddRun = Some (with_part s run AfterRun)
act s AddAny = Some (with_part s (one true []) Outside)
act s (AddLiteral c) = Some (with_part s (literal c) Outside)
act s Open = Some (record s { spans = []; negated = false; place = Opened })
act s Negate = Some (record s { negated = true; place = Negated })
act s (Go place) = Some (record s { place = place })
act s (AddSpan span place) = Some (record s { spans = s.spans ++ span ∷ []; place = place })
act s Close = Some (with_part s (one s.negated s.spans) Outside)
act s (CloseWith span) = Some (with_part s (one s.negated (s.spans ++ span ∷ [])) Outside)
act s (CloseWithDash span) = Some (with_part s (one s.negated ((s.spans ++ span ∷ []) ++ just 45 ∷ [])) Outside)

abbrev pub read_on : State → List ℕ → Option State
read_on s [] = Some s
read_on s (c ∷ cs) = option_and_then (λ t. read_on t cs) (act s (decide s.place c))

-- a pattern ends outside a class, and behind no backslash
abbrev pub finish_at : Place → List Part → Option (List Part)
finish_at Outside parts = Some parts
finish_at AfterRun parts = Some parts
finish_at _ parts = None

abbrev pub finish : State → Option (List Part)
finish s = finish_at s.place s.parts

-- the parts that a text spells
abbrev pub parts_in : List ℕ → Option (List Part)
parts_in text = option_and_then finish (read_on start text)
