use Rattle.std.proofs.Common.{ap, ◌∙◌}
use Rattle.tough_der.specs.Keys.{p256_key_of}
use Rattle.tough_der.proofs.Fixed.{p256_some, p256_complete}
use Rattle.tough_der.proofs.public.read_p256.Goals as goal

pub returns-clause-some : goal.returns-clause-some
returns-clause-some c = p256_some c.args.bytes.now c.p256.result c.p256.ensures

pub returns-clause-all : goal.returns-clause-all
returns-clause-all c = λ p h e. c.p256.ensures ∙ (ap p256_key_of e ∙ p256_complete p h)
