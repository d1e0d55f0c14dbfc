use Rattle.std.proofs.Common.{arith}
use Rattle.tough_modular.specs.Number.{number}
use Rattle.tough_modular.proofs.Products.{twice_none, twice_more, twice_all, reduced}
use Rattle.tough_modular.proofs.montgomery.double_times.Goals as goal

pub loop-done-init : goal.loop-done-init
loop-done-init c = record { double = twice_none (number c.args.total.now) (number c.args.modulus.now) c.requires.below; below = c.requires.below }

pub loop-done-preserved : goal.loop-done-preserved
loop-done-preserved c = record {
  double = twice_more c.loop-done._done _ (number c.args.total.now) _ (number c.args.modulus.now) c.loop-done.invariant.double c.double_once.ensures;
  below = reduced _ _ (number c.args.modulus.now) (omega arith) c.double_once.ensures;
}

pub double_once-requires-clause-below : goal.double_once-requires-clause-below
double_once-requires-clause-below c = c.loop-done.invariant.below

pub returns-clause-double : goal.returns-clause-double
returns-clause-double c = twice_all c.loop-done._done c.args.times (number c.args.total.now) _ (number c.args.modulus.now) (omega arith) c.loop-done.invariant.double

pub returns-clause-below : goal.returns-clause-below
returns-clause-below c = c.loop-done.invariant.below
