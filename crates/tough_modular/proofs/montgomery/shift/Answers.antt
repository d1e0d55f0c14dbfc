use Rattle.std.proofs.Common.{◌+◌, refl, get_or, arith}
use Rattle.tough_modular.proofs.Products.{moved_none, moved_more, moved_rest, moved_all}
use Rattle.tough_modular.proofs.montgomery.shift.Goals as goal

pub loop-i-init : goal.loop-i-init
loop-i-init c = record { moved = moved_none c.args.total.now c.requires; rest = refl }

pub loop-i-preserved : goal.loop-i-preserved
loop-i-preserved c = record {
  moved = moved_more c.loop-i.total c.args.total.now c.loop-i.i (get_or c.args.total.now 0 0) (omega arith) (omega arith) c.loop-i.invariant.rest c.loop-i.invariant.moved;
  rest = moved_rest c.loop-i.total c.args.total.now c.loop-i.i (get_or c.loop-i.total (c.loop-i.i + 1) 0) c.loop-i.invariant.rest;
}

pub returns-clause-moved : goal.returns-clause-moved
returns-clause-moved c = moved_all c.loop-i.total c.args.total.now c.loop-i.i _ (get_or c.args.total.now 0 0) c.args.top (omega arith) (omega arith) c.loop-i.auto.total c.loop-i.invariant.moved
