use Rattle.tough_http.proofs.default.DefaultStreamStream.poll_next.Goals as goal

pub returns-in-File-clause-rest : goal.returns-in-File-clause-rest
returns-in-File-clause-rest g c = rw c.in-File.is c.poll_next.ensures.rest

pub returns-in-File-clause-same : goal.returns-in-File-clause-same
returns-in-File-clause-same g c = rw c.in-File.is c.poll_next.ensures.same

pub returns-in-Http-clause-rest : goal.returns-in-Http-clause-rest
returns-in-Http-clause-rest g c = rw c.in-Http.is c.poll_next-in-Http.ensures.rest
