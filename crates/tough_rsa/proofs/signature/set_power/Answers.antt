use Rattle.std.proofs.Common.{length, arith}
use Rattle.tough_modular.specs.Octets.{octets_number}
use Rattle.tough_rsa.proofs.Keys.{top_below}
use Rattle.tough_rsa.proofs.signature.set_power.Goals as goal

pub power-requires-clause-top : goal.power-requires-clause-top
power-requires-clause-top c =
    rw c.set_number.ensures (top_below (length c.args.n.now) (octets_number c.args.n.now) (length c.args.modulus.now) (length c.set_number.new.words) c.requires.modulus_length (omega arith) c.requires.least c.requires.odd c.requires.top)
