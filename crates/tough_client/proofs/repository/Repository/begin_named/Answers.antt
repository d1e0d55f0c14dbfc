use Rattle.std.proofs.Common.{refl, Err}
use Rattle.tough_client.proofs.repository.Repository.begin_named.Goals as goal

pub returns-in-Err-clause-begins : goal.returns-in-Err-clause-begins
returns-in-Err-clause-begins g c = (Err c.in-Err.error, c.in-Err.ensures.err, (λ t. refl, refl, c.from.ensures))
