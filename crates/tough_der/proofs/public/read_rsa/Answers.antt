use Rattle.std.proofs.Common.{ap, ◌∙◌, arith}
use Rattle.tough_der.specs.Keys.{rsa_key_of}
use Rattle.tough_der.proofs.Elements.{bytes_from}
use Rattle.tough_der.proofs.Read.{rsa_some, rsa_complete}
use Rattle.tough_der.proofs.public.read_rsa.Goals as goal

pub returns-clause-some : goal.returns-clause-some
returns-clause-some c =
    rsa_some c.args.bytes.now c.rsa.result (bytes_from c.args.bytes.now (λ i. let f = c.type_inv.bytes i in omega arith)) c.rsa.ensures

pub returns-clause-all : goal.returns-clause-all
returns-clause-all c = λ n e h k l q. c.rsa.ensures ∙ (ap rsa_key_of q ∙ rsa_complete n e h k l)
