use Rattle.std.proofs.Common.{ap, ◌∙◌}
use Rattle.tough_der.specs.Keys.{ed25519_secret_of}
use Rattle.tough_der.proofs.Fixed.{secret_some, secret_complete}
use Rattle.tough_der.proofs.secret.read_ed25519_secret.Goals as goal

pub returns-clause-some : goal.returns-clause-some
returns-clause-some c = secret_some c.args.bytes.now c.ed25519.result c.ed25519.ensures

pub returns-clause-all : goal.returns-clause-all
returns-clause-all c = λ s h e. c.ed25519.ensures ∙ (ap ed25519_secret_of e ∙ secret_complete s h)
