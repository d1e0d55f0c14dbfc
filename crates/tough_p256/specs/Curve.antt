-- The curve P-256, y² = x³ - 3x + b, and the sums of its points (SP 800-186, 3.2.1.3).
use Rattle.std.specs.Prelude.{ℕ, zero, suc, ◌/◌, ◌%◌, Bool, true, false, nat_eq}
use Rattle.tough_p256.specs.Field.{plus, minus, times, inverse}

-- a point: x / z and y / z are its coordinates, and z is 0 at infinity
pub record Coordinates : Type 0 where
  pub x : ℕ
  pub y : ℕ
  pub z : ℕ

abbrev pub curve_b : ℕ
curve_b = 0x5ac635d8aa3a93e7_b3ebbd55769886bc_651d06b0cc53b0f6_3bce3c3e27d2604b

-- the point of these coordinates
abbrev pub affine : ℕ → ℕ → Coordinates
affine x y = record { x = x; y = y; z = 1 }

-- G
abbrev pub base : Coordinates
base =
    affine 0x6b17d1f2e12c4247_f8bce6e563a440f2_77037d812deb33a0_f4a13945d898c296
    0x4fe342e2fe1a7f9b_8ee7eb4a7c0f9e16_2bce33576b315ece_cbb6406837bf51f5

-- the point at infinity
abbrev pub neutral : Coordinates
neutral = record { x = 0; y = 1; z = 0 }

abbrev pub double_of : ℕ → ℕ
double_of x = plus x x

abbrev pub triple_of : ℕ → ℕ
triple_of x = plus (plus x x) x

-- x³ - 3x + b
abbrev pub right_side : ℕ → ℕ
right_side x = plus (times x (minus (times x x) 3)) curve_b

unfoldable pub is_on_curve : ℕ → ℕ → Bool
is_on_curve x y = nat_eq (times y y) (right_side x)

-- a * d + b * c, of a, b, c, d and of a * c and b * d
abbrev pub cross : ℕ → ℕ → ℕ → ℕ → ℕ → ℕ → ℕ
cross a b c d ac bd = minus (times (plus a b) (plus c d)) (plus ac bd)

-- the complete sum for a = -3 (Renes, Costello, Batina 2015, algorithm 4)
unfoldable pub add : Coordinates → Coordinates → Coordinates
add p q =
    let xx = times p.x q.x in
    let yy = times p.y q.y in
    let zz = times p.z q.z in
    let xy = cross p.x p.y q.x q.y xx yy in
    let yz = cross p.y p.z q.y q.z yy zz in
    let xz = cross p.x p.z q.x q.z xx zz in
    let s = triple_of (minus xz (times curve_b zz)) in
    let f = plus yy s in
    let g = minus yy s in
    let w = triple_of zz in
    let h = triple_of (minus (minus (times curve_b xz) w) xx) in
    let k = minus (triple_of xx) w in
    record {
      x = minus (times xy f) (times yz h);
      y = plus (times f g) (times k h);
      z = plus (times yz g) (times xy k);
    }

-- the sum with itself (algorithm 6)
unfoldable pub double : Coordinates → Coordinates
double p =
    let xx = times p.x p.x in
    let yy = times p.y p.y in
    let zz = times p.z p.z in
    let xy = double_of (times p.x p.y) in
    let xz = double_of (times p.x p.z) in
    let s = triple_of (minus (times curve_b zz) xz) in
    let f = minus yy s in
    let g = plus yy s in
    let w = triple_of zz in
    let h = triple_of (minus (minus (times curve_b xz) w) xx) in
    let k = minus (triple_of xx) w in
    let yz = double_of (times p.y p.z) in
    record {
      x = minus (times f xy) (times yz h);
      y = plus (times f g) (times k h);
      z = double_of (double_of (times yz yy));
    }

abbrev pub add_if : Bool → Coordinates → Coordinates → Coordinates
add_if false p q = q
add_if true p q = add q p

-- [n]P, where the lowest k bits of n count: twice [n / 2]P, and P where n is odd
unfoldable pub multiple : ℕ → ℕ → Coordinates → Coordinates
multiple zero n p = neutral
multiple (suc k) n p = add_if (nat_eq (n % 2) 1) p (double (multiple k (n / 2) p))

-- the coordinates of its own, for a point that isn't at infinity
abbrev pub affine_x : Coordinates → ℕ
affine_x p = times p.x (inverse p.z)

abbrev pub affine_y : Coordinates → ℕ
affine_y p = times p.y (inverse p.z)
