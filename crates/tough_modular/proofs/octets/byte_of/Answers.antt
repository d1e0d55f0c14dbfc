use Rattle.std.proofs.Common.{arith}
use Rattle.tough_modular.proofs.OctetNumbers.{byte_at, byte_past}
use Rattle.tough_modular.proofs.octets.byte_of.Goals as goal

pub returns-then-place-words : goal.returns-then-place-words
returns-then-place-words c = rw c.to_le_bytes.ensures (byte_at c.args.words.now c.args.place c.type_inv.words c.if-place-words.true)

pub returns-else-place-words : goal.returns-else-place-words
returns-else-place-words c = byte_past c.args.words.now c.args.place c.type_inv.words (omega arith)
