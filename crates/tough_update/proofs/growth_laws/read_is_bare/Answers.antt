use Rattle.tough_update.proofs.growth_laws.read_is_bare.Goals as goal

pub returns-clause-top : goal.returns-clause-top
returns-clause-top c = λ s h. h

pub returns-clause-document : goal.returns-clause-document
returns-clause-document c = λ s h. h.0
