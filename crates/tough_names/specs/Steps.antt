-- One step of the match of items against characters.
use Rattle.std.specs.Prelude.{◌≡◌, ℕ, ◌+◌, ◌≤◌, ◌<◌, Bool, true, false, List, [], ◌∷◌, ◌++◌, Option, Some, None, length, chars, IsUtf8}
use Rattle.tough_names.specs.declared.pattern.item.Item.{Item}
use Rattle.tough_names.specs.declared.pattern.item.Span.{Span}
use Rattle.tough_names.specs.declared.pattern.matching.Step.{Step}
use Rattle.tough_names.specs.declared.pattern.matching.Step.TheVariants.{Done, Widen, Advance, Stuck}
use Rattle.tough_names.specs.Glob.{Part, run, one, accepts, Fits}
use Rattle.tough_names.specs.Items.{parts_of}
use denote.Ref.{Bor}

-- a text less its first character
pub record IsTail (text tail : List ℕ) (c : ℕ) : Type 0 where
  pub chars : chars text ≡ c ∷ chars tail
  pub shorter : length tail < length text
  pub valid : IsUtf8 tail

-- tail is an end of text
pub record IsEnd (tail text : List ℕ) : Type 0 where
  pub before : List ℕ
  pub whole : text ≡ before ++ tail

-- each part covers one of the characters, in their order
abbrev pub CoverEach : List Part → List ℕ → Type 0
CoverEach [] [] = Unit {0}
CoverEach (part ∷ parts) (c ∷ cs) = (negated : Bool) × (spans : List Span) × (part ≡ one negated spans) × (accepts negated spans c ≡ true) × CoverEach parts cs
CoverEach _ _ = ⊥

-- the first item covers what comes before the tail
pub record Advances (items : List Item) (text : List ℕ) (after : List Item) (tail : List ℕ) : Type 0 where
  pub covering : List Part
  pub covered : List ℕ
  pub parts : parts_of items ≡ covering ++ parts_of after
  pub each : CoverEach covering covered
  pub chars : chars text ≡ covered ++ chars tail
  pub within : length tail ≤ length text
  pub valid : IsUtf8 tail
  pub fewer : length items ≡ length after + 1

-- what a step says of the items and the text before it
abbrev pub Steps : List Item → List ℕ → Step → Type 0
Steps items text Done = Fits (parts_of items) (chars text)
Steps items text (Widen after) = (parts_of items ≡ run ∷ parts_of after.now) × (length items ≡ length after.now + 1)
Steps items text (Advance after tail) = Advances items text after.now tail.now
Steps items text Stuck = Fits (parts_of items) (chars text) → ⊥

-- every end of the text that the parts fit is an end of what was sought
pub record IsSought (parts : List Part) (text from : List ℕ) : Type 0 where
  pub end : IsEnd (chars from) (chars text)
  pub all : (tail : List ℕ) → IsEnd tail (chars text) → Fits parts tail → IsEnd tail (chars from)
  pub within : length from ≤ length text
  pub valid : IsUtf8 from

-- where the parts may begin to fit behind a run; none where they fit no end of the text
abbrev pub Seeks : List Part → List ℕ → Option (Bor (List ℕ)) → Type 0
Seeks parts text None = (tail : List ℕ) → IsEnd tail (chars text) → Fits parts tail → ⊥
Seeks parts text (Some from) = IsSought parts text from.now
