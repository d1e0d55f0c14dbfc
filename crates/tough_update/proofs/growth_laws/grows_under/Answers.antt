use Rattle.std.specs.Prelude.{IsTrue}
use Rattle.tough_update.proofs.growth.Laws.{stands-under}
use Rattle.tough_update.proofs.growth_laws.grows_under.Goals as goal

pub returns-clause-under : goal.returns-clause-under
returns-clause-under c = λ fits metas top hs t bare all is. (stands-under (λ g name page. IsTrue (fits g name page)) metas top hs t bare all is).0

pub returns-clause-top : goal.returns-clause-top
returns-clause-top c = λ fits metas top hs t bare all is. (stands-under (λ g name page. IsTrue (fits g name page)) metas top hs t bare all is).1
