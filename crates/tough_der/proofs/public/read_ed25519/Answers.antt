use Rattle.std.proofs.Common.{ap, ◌∙◌}
use Rattle.tough_der.specs.Keys.{ed25519_key_of}
use Rattle.tough_der.proofs.Fixed.{ed25519_some, ed25519_complete}
use Rattle.tough_der.proofs.public.read_ed25519.Goals as goal

pub returns-clause-some : goal.returns-clause-some
returns-clause-some c = ed25519_some c.args.bytes.now c.ed25519.result c.ed25519.ensures

pub returns-clause-all : goal.returns-clause-all
returns-clause-all c = λ k h e. c.ed25519.ensures ∙ (ap ed25519_key_of e ∙ ed25519_complete k h)
