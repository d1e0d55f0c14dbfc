-- The first coordinate of a point, which leaves v modulo the order: v, or v and the order.
use Rattle.std.proofs.Common.{◌≡◌, ℕ, ◌+◌, ◌-◌, ◌<◌, ◌≤◌, Bool, true, false, nat_eq, nat_lt, sym, ap, ◌∙◌, arith, ⊎_elim}
use Rattle.std.proofs.lemmas.Bool.{cases_lt, lt-ltb, le-ltb}
use Rattle.std.proofs.lemmas.Nat.{mul-mod_first}
use Rattle.tough_p256.specs.Field.{prime, plus, times}
use Rattle.tough_p256.specs.Order.{order}
use Rattle.tough_p256.specs.Curve.{Coordinates}
use Rattle.tough_p256.specs.Ecdsa.{has_x}

times_plus : (v w z : ℕ) → times (plus v w) z ≡ times (v + w) z
unfolding times plus
times_plus v w z = mul-mod_first (v + w) z prime

room_left : (v : ℕ) → nat_lt v (prime - order) ≡ nat_lt (v + order) prime
room_left v =
    ⊎_elim
    (let k : v < prime - order → nat_lt v (prime - order) ≡ nat_lt (v + order) prime = λ l. lt-ltb v (prime - order) l ∙ sym (lt-ltb (v + order) prime (omega arith)) in k)
    (let k : prime - order ≤ v → nat_lt v (prime - order) ≡ nat_lt (v + order) prime = λ l. le-ltb v (prime - order) l ∙ sym (le-ltb (v + order) prime (omega arith)) in k)
    (cases_lt v (prime - order))

pub has_more : (p : Coordinates) (v : ℕ) (b : Bool) → nat_eq p.z 0 ≡ false → nat_eq (times v p.z) p.x ≡ false → nat_lt v (prime - order) ≡ true → b ≡ nat_eq (times (plus v order) p.z) p.x → b ≡ has_x p v
unfolding has_x
has_more p v b e f g h =
    let l : nat_lt (v + order) prime ≡ true = sym (room_left v) ∙ g in
    rw (e, f, l) (h ∙ ap (λ (m : ℕ). nat_eq m p.x) (times_plus v order p.z))
