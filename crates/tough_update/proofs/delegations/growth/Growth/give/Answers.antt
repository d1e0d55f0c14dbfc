use Rattle.std.proofs.Common.{rules, ◌≡◌, ◌∷◌, map, ap, ◌∙◌}
use Rattle.tough_update.specs.delegations.Growing.{TaskDoc, give, settle}
use Rattle.tough_update.specs.delegations.Placed.{placed_doc}
use Rattle.tough_update.specs.delegations.View.{metas_of, task_doc, fetched_doc, work_doc, progress_doc}
use Rattle.tough_trust.specs.View.{index_doc}
use Rattle.tough_update.specs.declared.delegations.turns.Task.{Task}
use Rattle.tough_update.proofs.tree.Turning.{if_ok-to}
use Rattle.tough_update.proofs.delegations.growth.Growth.give.Goals as goal

pub returns : goal.returns
returns c =
    let metas = metas_of c.args.snapshot.now in
    let g = c.args.self in
    let x = index_doc g.index in
    let ns = placed_doc g.nodes in
    let task : Task = record { node = c.last_number-node.result; at = 0; fetched = g.fetched } in
    let pushed : c.push_front.new.self.items ≡ task ∷ g.outer.items = search rules in
    if_ok-to c.settle.result (λ p. progress_doc p ≡ settle metas x ns (map task_doc c.push_front.new.self.items)) (λ p. progress_doc p ≡ give metas (work_doc g))
    (λ p is. is ∙ ap (λ ts. settle metas x ns (map task_doc ts)) pushed
    ∙ ap (λ n. let first : TaskDoc = record { node = n; at = 0; fetched = fetched_doc g.fetched.entries } in settle metas x ns (first ∷ map task_doc g.outer.items)) c.last_number-node.ensures) c.settle.ensures
