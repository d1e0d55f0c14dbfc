use Rattle.tough_ed25519.proofs.LittleEndian.{in_words}
use Rattle.tough_ed25519.proofs.field.words.Words.from_bytes.Goals as goal

pub returns : goal.returns
returns c = cc (in_words c.args.bytes.now c.requires)
