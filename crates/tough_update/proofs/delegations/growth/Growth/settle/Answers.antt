use Rattle.std.proofs.Common.{rules, ◌≡◌, [], ◌∷◌, map, ap, sym, ◌∙◌}
use Rattle.tough_roles.specs.Signature.{SignedDoc}
use Rattle.tough_roles.specs.Timestamp.{metafile_doc}
use Rattle.tough_schema.specs.Whole.{TreeDoc}
use Rattle.tough_update.specs.delegations.Growing.{Progress, wants, grown, all_past, stopped_at, resumed, settle}
use Rattle.tough_update.specs.delegations.Placed.{placed_doc}
use Rattle.tough_update.specs.delegations.View.{metas_of, waiting_in, task_doc, progress_doc}
use Rattle.tough_trust.specs.View.{index_doc}
use Rattle.tough_update.proofs.tree.Turning.{if_ok-to, settle-past, settle-stopped}
use Rattle.tough_update.proofs.delegations.growth.Growth.settle.Goals as goal

pub returns-in-Some-2 : goal.returns-in-Some-2
returns-in-Some-2 c =
    let metas = metas_of c.args.snapshot.now in
    let x = index_doc c.loop-task.index in
    let more = index_doc c.take_turns.new.index in
    let ns = placed_doc c.loop-task.nodes in
    let ms = placed_doc c.take_turns.new.nodes in
    let outer = c.pop_front.new.self.items in
    let task = c.in-Some.task in
    let stop = c.in-Some-2.stop in
    let waiting = waiting_in ms stop.at in
    let m = metafile_doc stop.entry.now in
    let popped : c.loop-task.outer.items ≡ task ∷ outer = search rules in
    let went : stopped_at ms (task_doc stop.task) waiting m more ≡ resumed metas x ns (task_doc task) = search rules in
    let next : Progress = wants (record { nodes = ms; outer = task_doc stop.task ∷ map task_doc outer; index = more; fetched = []; waiting = waiting }) m in
    if_ok-to c.stop_at.result (λ p. progress_doc p ≡ next)
    (λ p. progress_doc p ≡ settle metas (index_doc c.args.index) (placed_doc c.args.nodes) (map task_doc c.args.outer.items))
    (λ p is. is
    ∙ settle-stopped metas x more ns ms (task_doc task) (task_doc stop.task) (map task_doc outer) waiting m went
    ∙ ap (λ ts. settle metas x ns (map task_doc ts)) (sym popped) ∙ c.loop-task.invariant) c.stop_at.ensures

pub loop-task-preserved : goal.loop-task-preserved
loop-task-preserved c =
    let metas = metas_of c.args.snapshot.now in
    let x = index_doc c.loop-task.index in
    let more = index_doc c.take_turns.new.index in
    let ns = placed_doc c.loop-task.nodes in
    let ms = placed_doc c.take_turns.new.nodes in
    let outer = c.pop_front.new.self.items in
    let task = c.in-Some.task in
    let popped : c.loop-task.outer.items ≡ task ∷ outer = search rules in
    let went : all_past ms more ≡ resumed metas x ns (task_doc task) = search rules in
    settle-past metas x more ns ms (task_doc task) (map task_doc outer) went
    ∙ ap (λ ts. settle metas x ns (map task_doc ts)) (sym popped) ∙ c.loop-task.invariant

pub returns : goal.returns
returns c =
    let metas = metas_of c.args.snapshot.now in
    let x = index_doc c.loop-task.index in
    let ns = placed_doc c.loop-task.nodes in
    let ended : c.loop-task.outer.items ≡ [] = search rules in
    ap (λ (s : SignedDoc TreeDoc). grown s) c.into_tree.ensures ∙ ap (λ ts. settle metas x ns (map task_doc ts)) (sym ended) ∙ c.loop-task.invariant
