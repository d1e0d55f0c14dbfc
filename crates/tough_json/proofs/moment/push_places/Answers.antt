use Rattle.std.proofs.Common.{◌≡◌, ◌+◌, ◌-◌, ◌*◌, ◌/◌, ◌%◌, ◌^◌, ◌<◌, ◌++◌, ◌∷◌, [], suc, arith, rules, ap, sym, ◌∙◌, append-nil, string_bytes}
use Rattle.std.proofs.lemmas.List.{append_assoc}
use Rattle.std.proofs.lemmas.Nat.{div_below}
use Rattle.std.proofs.Math.Nat.{mod-lt}
use Rattle.jiff_fmt.specs.Text.{places}
use Rattle.jiff_fmt.proofs.ReaderLemmas.{ten_pow-pos, tenth}
use Rattle.jiff_fmt.proofs.TextLemmas.{tenth_place, places-step, places-end}
use Rattle.tough_json.proofs.moment.push_places.Goals as goal

pub nonzero_div-left : goal.nonzero_div-left
nonzero_div-left c =
    let j = 9 - (c.loop.counter + 1) in
    let next : 9 - c.loop.counter ≡ suc j = omega (arith, c.requires.few, c.loop-test.true) in
    omega (arith, tenth_place _ j next, ten_pow-pos j, c.loop.invariant.0)

pub nonzero_rem-left : goal.nonzero_rem-left
nonzero_rem-left c =
    let j = 9 - (c.loop.counter + 1) in
    let next : 9 - c.loop.counter ≡ suc j = omega (arith, c.requires.few, c.loop-test.true) in
    omega (arith, tenth_place _ j next, ten_pow-pos j, c.loop.invariant.0)

pub loop-preserved : goal.loop-preserved
loop-preserved c =
    let j = 9 - (c.loop.counter + 1) in
    let next : 9 - c.loop.counter ≡ suc j = omega (arith, c.requires.few, c.loop-test.true) in
    let place = tenth_place _ j next in
    let tens : c.loop.place / 10 ≡ 10 ^ j = rw (c.loop.invariant.0) place in
    let whole : c.loop.place ≡ 10 * 10 ^ j = rw (c.loop.invariant.0) (tenth _ j next) in
    let positive : 0 < c.loop.place / 10 = rw tens (ten_pow-pos j) in
    let digit : c.loop.left / (c.loop.place / 10) < 10 = div_below _ _ _ positive (omega (arith, c.loop.invariant.1)) in
    let left = c.args.count - (c.loop.counter + 1) in
    let step = places-step (c.args.count - c.loop.counter) left c.loop.place c.loop.left (omega (arith, c.loop-test.true)) in
    let pushed : string_bytes c.push.new.self ≡ string_bytes c.loop.out ++ (48 + c.loop.left / (c.loop.place / 10)) ∷ [] = search rules in
    let bytes = ap (λ xs. xs ++ places left (c.loop.place / 10) (c.loop.left % (c.loop.place / 10))) pushed
    ∙ append_assoc (string_bytes c.loop.out) ((48 + c.loop.left / (c.loop.place / 10)) ∷ []) (places left (c.loop.place / 10) (c.loop.left % (c.loop.place / 10))) ∙ ap (λ xs. string_bytes c.loop.out ++ xs) (sym step) ∙ c.loop.invariant.2 in
    (rw (c.loop.invariant.0) place, mod-lt _ positive, bytes)

pub returns : goal.returns
returns c =
    let end = places-end (c.args.count - c.loop.counter) c.loop.place c.loop.left (omega (arith, c.loop-test.false)) in
    sym (append-nil (string_bytes c.loop.out)) ∙ ap (λ xs. string_bytes c.loop.out ++ xs) (sym end) ∙ c.loop.invariant.2
