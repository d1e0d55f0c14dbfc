use Rattle.std.proofs.Common.{ap, ◌∙◌}
use Rattle.tough_der.specs.Keys.{p256_secret_of}
use Rattle.tough_der.proofs.Fixed.{pair_some, pair_complete}
use Rattle.tough_der.proofs.secret.read_p256_secret.Goals as goal

pub returns-clause-some : goal.returns-clause-some
returns-clause-some c = pair_some c.args.bytes.now c.p256.result c.p256.ensures

pub returns-clause-all : goal.returns-clause-all
returns-clause-all c = λ s p h k e. c.p256.ensures ∙ (ap p256_secret_of e ∙ pair_complete s p h k)
