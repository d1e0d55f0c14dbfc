use Rattle.std.proofs.Common.{rules, ap, map, option_map}
use Rattle.tough_schema.specs.Whole.{tree_doc}
use Rattle.tough_client.specs.Repositories.{documents_of}
use Rattle.tough_client.proofs.Planned.{all_planned}
use Rattle.tough_client.proofs.repository.Repository.plan_all.Goals as goal

pub returns : goal.returns
returns g c = all_planned (documents_of c.args.self.now) (option_map (λ names. map g.S.AsStr.text names.now) c.args.subset) c.args.root_chain c.new-plan.result c.add_targets.new.self c.add_metadata.new.self
    (search rules) (search rules) (tree_doc c.targets.result.now.signed) (ap (λ x. tree_doc x.signed) c.targets.ensures)
    c.in_ok-add_targets.ensures.turns c.in_ok-add_targets.ensures.roots c.in_ok-add_metadata.ensures.turns c.in_ok-add_metadata.ensures.roots
