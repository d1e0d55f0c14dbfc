use Rattle.std.proofs.Common.{◌≡◌, false, true, nat_eq, nat_lt, ◌-◌}
use Rattle.tough_modular.specs.Number.{number}
use Rattle.tough_p256.specs.Field.{prime, times, plus}
use Rattle.tough_p256.specs.Order.{order}
use Rattle.tough_p256.proofs.Coordinate.{has_more}
use Rattle.tough_p256.proofs.point.Point.has_x.Goals as goal

pub returns-then-is_below : goal.returns-then-is_below
returns-then-is_below c =
    let z : nat_eq c.args.self.now.z 0 ≡ false = cc in
    let x : nat_eq (times (number c.args.words.now) c.args.self.now.z) c.args.self.now.x ≡ false = cc in
    let l : nat_lt (number c.args.words.now) (prime - order) ≡ true = cc in
    let e : c.is_x-then-is_below.result ≡ nat_eq (times (plus (number c.args.words.now) order) c.args.self.now.z) c.args.self.now.x = cc in
    has_more c.args.self.now (number c.args.words.now) _ z x l e
