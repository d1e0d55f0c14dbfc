-- The number that sums of products stand for, and how large they are.
use Rattle.std.specs.Prelude.{ℕ, ◌<◌}
use Rattle.tough_ed25519.specs.declared.field.sums.Sums.{Sums}
use Rattle.tough_ed25519.specs.Limbs.{number}

abbrev pub sums_number : Sums → ℕ
sums_number s = number s.first s.second s.third s.fourth s.fifth

pub record AreSumsBelow (n : ℕ) (s : Sums) : Type 0 where
  pub first : s.first < n
  pub second : s.second < n
  pub third : s.third < n
  pub fourth : s.fourth < n
  pub fifth : s.fifth < n
