-- The curve edwards25519 and the sums of its points (RFC 8032, 5.1 and 5.1.4).
use Rattle.std.specs.Prelude.{ℕ, zero, suc, ◌/◌, ◌%◌, Bool, true, false, nat_eq}
use Rattle.tough_ed25519.specs.Field.{plus, minus, times, square}

-- d, which is -121665 / 121666
abbrev pub curve_d : ℕ
curve_d = 37095705934669439343138083508754565189542113879843219016388785533085940283555

-- a point in extended coordinates: x / z and y / z are its own, and x * y is z * t
pub record Coordinates : Type 0 where
  pub x : ℕ
  pub y : ℕ
  pub z : ℕ
  pub t : ℕ

-- the point of these coordinates of its own
abbrev pub affine : ℕ → ℕ → Coordinates
affine x y = record { x = x; y = y; z = 1; t = times x y }

-- B
abbrev pub base : Coordinates
base =
    affine 15112221349535400772501151409588531511454012693041857206046113283949847762202
    46316835694926478169428394003475163141307993866256225615783033603165251855960

abbrev pub neutral : Coordinates
neutral = record { x = 0; y = 1; z = 1; t = 0 }

abbrev pub opposite : Coordinates → Coordinates
opposite p = record { x = minus 0 p.x; y = p.y; z = p.z; t = minus 0 p.t }

unfoldable pub add : Coordinates → Coordinates → Coordinates
add p q =
    let a = times (minus p.y p.x) (minus q.y q.x) in
    let b = times (plus p.y p.x) (plus q.y q.x) in
    let c = times (times (times p.t 2) curve_d) q.t in
    let d = times (times p.z 2) q.z in
    let e = minus b a in
    let f = minus d c in
    let g = plus d c in
    let h = plus b a in
    record { x = times e f; y = times g h; z = times f g; t = times e h }

unfoldable pub double : Coordinates → Coordinates
double p =
    let a = square p.x in
    let b = square p.y in
    let c = times 2 (square p.z) in
    let h = plus a b in
    let e = minus h (square (plus p.x p.y)) in
    let g = minus a b in
    let f = plus c g in
    record { x = times e f; y = times g h; z = times f g; t = times e h }

abbrev pub add_if : Bool → Coordinates → Coordinates → Coordinates
add_if false p q = q
add_if true p q = add q p

-- [n]P, where the lowest k bits of n count: twice [n / 2]P, and P where n is odd
unfoldable pub multiple : ℕ → ℕ → Coordinates → Coordinates
multiple zero n p = neutral
multiple (suc k) n p = add_if (nat_eq (n % 2) 1) p (double (multiple k (n / 2) p))
