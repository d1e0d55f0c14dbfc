use Rattle.std.proofs.Common.{sym, ap, ◌∙◌}
use Rattle.tough_schema.specs.Search.{matches}
use Rattle.tough_schema.proofs.lemmas.Wholes.{role-out}
use Rattle.tough_schema.proofs.delegations.DelegatedRole.matches.Goals as goal

pub returns : goal.returns
returns c = c.matches_hashed.ensures ∙ ap (λ r. matches c.args.name.now.name.now r.0) (sym (role-out c.args.self.now))
