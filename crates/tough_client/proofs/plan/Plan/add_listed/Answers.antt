use Rattle.std.proofs.Common.{sym, ap, ◌∙◌, ◌++◌, map}
use Rattle.std.specs.Map.{keys_of}
use Rattle.tough_client.specs.Plans.{turns_in}
use Rattle.tough_client.specs.declared.plan.Turn.TheVariants as turn
use Rattle.tough_client.proofs.Planned.{listed_keys}
use Rattle.tough_client.proofs.plan.Plan.add_listed.Goals as goal

pub returns-clause-turns : goal.returns-clause-turns
returns-clause-turns c =
    c.in_ok-add_all.ensures.turns ∙ ap (λ names. turns_in c.args.self.now ++ map turn.Target names) (sym (listed_keys c.in_ok-listed.listed.entries) ∙ ap keys_of c.in_ok-listed.ensures)
