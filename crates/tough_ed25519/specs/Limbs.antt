-- The number that limbs stand for, and how large they are.
use Rattle.std.specs.Prelude.{ℕ, ◌+◌, ◌*◌, ◌^◌, ◌<◌}
use Rattle.tough_ed25519.specs.declared.field.limbs.Limbs.{Limbs}

-- the number of five digits to the base 2 ^ 51, the lowest first
abbrev pub number : ℕ → ℕ → ℕ → ℕ → ℕ → ℕ
number a b c d e = a + 2 ^ 51 * (b + 2 ^ 51 * (c + 2 ^ 51 * (d + 2 ^ 51 * e)))

abbrev pub limbs_number : Limbs → ℕ
limbs_number l = number l.first l.second l.third l.fourth l.fifth

pub record AreBelow (n : ℕ) (l : Limbs) : Type 0 where
  pub first : l.first < n
  pub second : l.second < n
  pub third : l.third < n
  pub fourth : l.fourth < n
  pub fifth : l.fifth < n

-- all is carried, but for little beyond 255 bits
pub record AreTight (l : Limbs) : Type 0 where
  pub first : l.first < 2 ^ 51
  pub second : l.second < 2 ^ 51
  pub third : l.third < 2 ^ 51
  pub fourth : l.fourth < 2 ^ 51
  pub fifth : l.fifth < 2 ^ 51 + 2 ^ 6
