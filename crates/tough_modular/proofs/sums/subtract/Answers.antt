use Rattle.std.proofs.Common.{◌≡◌, length, refl, arith}
use Rattle.tough_modular.proofs.Numbers.{number_none, number_all, rest_more}
use Rattle.tough_modular.proofs.WordLoops.{sub_more}
use Rattle.tough_modular.proofs.sums.subtract.Goals as goal

pub loop-i-init : goal.loop-i-init
loop-i-init c = record { difference = rw number_none (omega arith); borrow = omega arith; rest = refl }

pub loop-i-preserved : goal.loop-i-preserved
loop-i-preserved c = record {
  difference = sub_more c.loop-i.total c.args.total.now c.args.words.now c.loop-i.i c.loop-i.borrow c.sub_with_borrow-word.result.1 c.sub_with_borrow-word.result.0 (omega arith) (omega arith) (omega arith) c.loop-i.invariant.rest c.loop-i.invariant.difference c.sub_with_borrow-word.ensures.difference;
  borrow = c.sub_with_borrow-word.ensures.borrow;
  rest = rest_more c.loop-i.total c.args.total.now c.loop-i.i c.sub_with_borrow-word.result.0 c.loop-i.invariant.rest;
}

pub returns-clause-difference : goal.returns-clause-difference
returns-clause-difference c =
    let e : c.loop-i.i ≡ length c.args.total.now = omega arith in
    let t = number_all c.loop-i.total c.loop-i.i (omega arith) in
    let o = number_all c.args.total.now c.loop-i.i (omega arith) in
    let w = number_all c.args.words.now c.loop-i.i (omega arith) in
    cc c.loop-i.invariant.difference
