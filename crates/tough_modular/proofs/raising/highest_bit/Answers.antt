use Rattle.std.proofs.Common.{arith}
use Rattle.tough_modular.proofs.Forms.{highest}
use Rattle.tough_modular.proofs.raising.highest_bit.Goals as goal

pub returns-clause-bit : goal.returns-clause-bit
returns-clause-bit c = highest c.args.word c.requires (omega arith)
