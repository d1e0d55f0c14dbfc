use Rattle.std.proofs.Common.{◌≢◌, ◌<◌, length, arith, below_more, get_or-set_other, get_or-set_same}
use Rattle.tough_modular.specs.Number.{number}
use Rattle.tough_modular.proofs.OctetNumbers.{bytes_all}
use Rattle.tough_modular.proofs.octets.set_bytes.Goals as goal

pub loop-i-preserved : goal.loop-i-preserved
loop-i-preserved c =
    below_more _ _
    (λ k h. let ne : k ≢ c.loop-i.i = omega arith in rw get_or-set_other (c.loop-i.invariant k h))
    (let lt : c.loop-i.i < length c.loop-i.bytes = omega arith in rw get_or-set_same c.byte_of.ensures)

pub returns : goal.returns
returns c = bytes_all c.loop-i.bytes (number c.args.words.now) c.loop-i.i (length c.args.bytes.now) (omega arith) (omega arith) c.loop-i.invariant
