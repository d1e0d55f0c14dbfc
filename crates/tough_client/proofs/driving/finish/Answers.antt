use Rattle.tough_client.proofs.driving.finish.Goals as goal

pub loop-init : goal.loop-init
loop-init g c = (c.requires, λ x h. h)

pub loop-preserved : goal.loop-preserved
loop-preserved g c = (c.in-Pending.ensures.again, λ x h. c.loop.invariant.1 x (c.in-Pending.ensures.same x h))

pub returns-in-Ready : goal.returns-in-Ready
returns-in-Ready g c = c.loop.invariant.1 c.in-Ready.output c.in-Ready.ensures.value
