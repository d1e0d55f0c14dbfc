use Rattle.tough_client.proofs.save.poll_saving.Goals as goal

pub returns-in-Pending-clause-follows : goal.returns-in-Pending-clause-follows
returns-in-Pending-clause-follows g c = c.in-Pending.ensures.follows
