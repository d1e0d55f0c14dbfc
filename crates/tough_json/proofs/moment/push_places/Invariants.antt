use Rattle.std.proofs.Common.{◌≡◌, ◌-◌, ◌^◌, ◌<◌, ◌++◌, string_bytes}
use Rattle.jiff_fmt.specs.Text.{places}
use Rattle.tough_json.proofs.moment.push_places.Given as goal

abbrev pub invariant-loop : goal.invariant-loop
invariant-loop l =
    (l.place ≡ 10 ^ (9 - l.counter)) × (l.left < l.place)
    × (string_bytes l.out ++ places (l.count - l.counter) l.place l.left ≡ string_bytes l.fn.out ++ places l.count 1_000_000_000 l.fn.nanoseconds)
