use Rattle.tough_client.proofs.driving.drive.Goals as goal

pub returns-in-Ok-clause-done : goal.returns-in-Ok-clause-done
returns-in-Ok-clause-done g c = c.from_outcome.ensures.opens c.args.load c.in-Ok.ensures.done

pub returns-in-Ok-clause-trusted : goal.returns-in-Ok-clause-trusted
returns-in-Ok-clause-trusted g c from begun = c.from_outcome.ensures.trusted from c.args.load.base (c.in-Ok.ensures.trusted from begun)
