-- Targets of which nothing but a length and a SHA-256 is written.
use Rattle.std.specs.Prelude.{ℕ, ◌<◌, ◌^◌, List, [], ◌∷◌}
use Rattle.tough_names.specs.Named.{Named}
use Rattle.tough_schema.specs.Target.{TargetDoc, IsPlain}

-- it states these alone, and the length has 64 bits
abbrev pub IsFit : TargetDoc → Type 0
IsFit t = IsPlain t × (t.length < 2 ^ 64)

abbrev pub AreFit : List (Named × TargetDoc) → Type 0
AreFit [] = Unit {0}
AreFit (e ∷ es) = IsFit e.1 × AreFit es
