use Rattle.tough_p256.proofs.BigEndian.{in_words}
use Rattle.tough_p256.proofs.octets.words_of.Goals as goal

pub returns : goal.returns
returns c = cc (in_words c.args.bytes.now c.requires)
