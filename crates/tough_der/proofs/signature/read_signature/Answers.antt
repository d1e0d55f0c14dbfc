use Rattle.std.proofs.Common.{ap, ◌∙◌, arith}
use Rattle.tough_der.specs.Keys.{signature_of}
use Rattle.tough_der.proofs.Elements.{bytes_from}
use Rattle.tough_der.proofs.Read.{signature_some, signature_complete}
use Rattle.tough_der.proofs.signature.read_signature.Goals as goal

pub returns-clause-some : goal.returns-clause-some
returns-clause-some c =
    signature_some c.args.bytes.now c.read.result (bytes_from c.args.bytes.now (λ i. let f = c.type_inv.bytes i in omega arith)) c.read.ensures

pub returns-clause-all : goal.returns-clause-all
returns-clause-all c = λ r s h k e. c.read.ensures ∙ (ap signature_of e ∙ signature_complete r s h k)
