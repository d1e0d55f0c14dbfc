use Rattle.std.proofs.Common.{◌≡◌, length, refl, arith}
use Rattle.tough_modular.proofs.Numbers.{number_none, number_all, rest_more}
use Rattle.tough_modular.proofs.WordLoops.{double_more}
use Rattle.tough_modular.proofs.sums.double.Goals as goal

pub loop-i-init : goal.loop-i-init
loop-i-init c = record { double = rw number_none (omega arith); carry = omega arith; rest = refl }

pub loop-i-preserved : goal.loop-i-preserved
loop-i-preserved c = record {
  double = double_more c.loop-i.total c.args.total.now c.loop-i.i c.loop-i.carry c.double_word-word.result.1 c.double_word-word.result.0 (omega arith) (omega arith) c.loop-i.invariant.rest c.loop-i.invariant.double c.double_word-word.ensures.double;
  carry = c.double_word-word.ensures.carry;
  rest = rest_more c.loop-i.total c.args.total.now c.loop-i.i c.double_word-word.result.0 c.loop-i.invariant.rest;
}

pub returns-clause-double : goal.returns-clause-double
returns-clause-double c =
    let e : c.loop-i.i ≡ length c.args.total.now = omega arith in
    let t = number_all c.loop-i.total c.loop-i.i (omega arith) in
    let o = number_all c.args.total.now c.loop-i.i (omega arith) in
    cc c.loop-i.invariant.double
