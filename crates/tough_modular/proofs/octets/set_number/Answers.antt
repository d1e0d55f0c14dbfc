use Rattle.std.proofs.Common.{arith}
use Rattle.tough_modular.proofs.OctetNumbers.{set_none, set_more, set_all}
use Rattle.tough_modular.proofs.octets.set_number.Goals as goal

pub loop-i-init : goal.loop-i-init
loop-i-init c = set_none c.args.bytes.now

pub loop-i-preserved : goal.loop-i-preserved
loop-i-preserved c = set_more c.loop-i.words c.args.bytes.now c.loop-i.i c.word_from_end.result (omega arith) c.loop-i.invariant c.word_from_end.ensures

pub returns : goal.returns
returns c = set_all c.loop-i.words c.args.bytes.now c.loop-i.i (omega arith) (omega arith) c.loop-i.invariant
