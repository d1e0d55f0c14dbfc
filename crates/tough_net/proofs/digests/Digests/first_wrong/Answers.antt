use Rattle.std.specs.Prelude.{[]}
use Rattle.tough_net.specs.Digests.{digests_of}
use Rattle.tough_net.proofs.lemmas.Digests.{told-first}
use Rattle.tough_net.proofs.digests.Digests.first_wrong.Goals as goal

pub returns-clause-right : goal.returns-clause-right
returns-clause-right c = λ none. c.first_wrong.ensures.right none c.args.bytes.now (c.update.ensures (digests_of c.args.self.now) [] c.new-hashers.ensures)

pub returns-clause-wrong : goal.returns-clause-wrong
returns-clause-wrong c =
    told-first c.first_wrong.result (digests_of c.args.self.now) c.update.new.self c.args.bytes.now c.first_wrong.ensures.wrong (c.update.ensures (digests_of c.args.self.now) [] c.new-hashers.ensures)
