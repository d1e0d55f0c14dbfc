use Rattle.std.proofs.Common.{rules, ◌≡◌, ◌-◌, suc, refl, arith}
use Rattle.tough_lazy.proofs.fetch.FetchRoles.advance.Goals as goal

pub returns-in-Ok-Some-clause-goes : goal.returns-in-Ok-Some-clause-goes
returns-in-Ok-Some-clause-goes g c = λ _. record {
  same = record { documents = refl; keeping = refl };
  none = search rules;
  fetch = c.in-Ok-Some.fetch;
  begun = refl;
  asked = search rules;
  fewer = search rules;
}
