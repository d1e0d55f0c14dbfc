-- Points as numbers, whose 32 bytes, the lowest first, are the encoding (RFC 8032, 5.1.2 and 5.1.3).
use Rattle.std.specs.Prelude.{ℕ, ◌+◌, ◌-◌, ◌/◌, ◌%◌, ◌^◌, Bool, true, false, ◌&&◌, nat_eq, nat_lt, if◌then◌else◌, Option, Some, None}
use Rattle.tough_ed25519.specs.Field.{prime, plus, minus, times, square, power, inverse}
use Rattle.tough_ed25519.specs.Curve.{Coordinates, affine, curve_d}

abbrev pub is_odd : ℕ → Bool
is_odd x = nat_eq (x % 2) 1

-- y, with bit 255 set where x is odd (5.1.2)
abbrev pub encode_affine : ℕ → ℕ → ℕ
encode_affine x y = if is_odd x then y + 2 ^ 255 else y

unfoldable pub encode : Coordinates → ℕ
encode p = encode_affine (times p.x (inverse p.z)) (times p.y (inverse p.z))

-- ---- decoding (5.1.3), by its steps

-- 2 ^ ((p - 1) / 4), whose square is -1
abbrev pub root_of_minus_one : ℕ
root_of_minus_one = 19681161376707505956807079304988542015446066515923890162744021073123829784752

-- 2: (u / v) ^ ((p + 3) / 8), as u * v ^ 3 * (u * v ^ 7) ^ ((p - 5) / 8)
abbrev pub candidate : ℕ → ℕ → ℕ
candidate u v =
    let v3 = times (square v) v in
    let v7 = times (square v3) v in
    times (times u v3) (power 252 ((prime - 5) / 8) (times u v7))

-- 3: the square root of u / v, if there is one, from the candidate x
abbrev pub root_from : ℕ → ℕ → ℕ → Option ℕ
root_from u v x =
    if nat_eq (times v (square x)) u then Some x
    else (if nat_eq (times v (square x)) (minus 0 u) then Some (times x root_of_minus_one) else None)

unfoldable pub root : ℕ → ℕ → Option ℕ
root u v = root_from u v (candidate u v)

-- x or -x, the one that is odd, or the one that isn't
abbrev pub of_parity : Bool → ℕ → ℕ
of_parity true x = if is_odd x then x else minus 0 x
of_parity false x = if is_odd x then minus 0 x else x

-- 4: the point with this root; 0 isn't odd
abbrev pub point_with : Bool → ℕ → ℕ → Option Coordinates
point_with odd y x = if odd && nat_eq x 0 then None else Some (affine (of_parity odd x) y)

abbrev pub point_from : Bool → ℕ → Option ℕ → Option Coordinates
point_from odd y None = None
point_from odd y (Some x) = point_with odd y x

-- 1: y is below p
abbrev pub decode_affine : Bool → ℕ → Option Coordinates
decode_affine odd y =
    if nat_lt y prime then point_from odd y (root (minus (square y) 1) (plus (times curve_d (square y)) 1))
    else None

unfoldable pub decode : ℕ → Option Coordinates
decode n = decode_affine (nat_eq (n / 2 ^ 255) 1) (n % 2 ^ 255)
