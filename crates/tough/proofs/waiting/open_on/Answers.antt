use Rattle.tough_load.specs.Words as part
use Rattle.tough.proofs.waiting.open_on.Goals as goal

pub returns-in-Ok-clause-done : goal.returns-in-Ok-clause-done
returns-in-Ok-clause-done g c = c.from_outcome.ensures.opens c.args.load c.in-Ok.ensures.done

pub returns-in-Ok-clause-trusted : goal.returns-in-Ok-clause-trusted
returns-in-Ok-clause-trusted g c from begun = c.from_outcome.ensures.trusted from (part.base_of c.args.load) (c.in-Ok.ensures.trusted from begun)
