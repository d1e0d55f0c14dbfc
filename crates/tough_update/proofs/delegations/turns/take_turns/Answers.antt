use Rattle.std.proofs.Common.{rules, ◌≡◌, ◌<◌, ◌^◌, Some, None, length, string_bytes, refl, ap, sym, ◌∙◌, arith}
use Rattle.tough_roles.specs.Timestamp.{metafile_doc}
use Rattle.tough_schema.specs.declared.delegations.DelegatedRole.{out-DelegatedRole}
use Rattle.tough_schema.specs.Update.{listed_roles}
use Rattle.tough_schema.specs.Whole.{role_tree}
use Rattle.tough_update.specs.delegations.Numbered.{also, last_number, roles_at}
use Rattle.tough_trust.specs.delegations.Indexed.{names_of, put}
use Rattle.tough_update.specs.delegations.Growing.{past, stopped, stopped_at, look, offer_for, fetched_for, place_node, TaskDoc, resumed}
use Rattle.tough_update.specs.delegations.Documents.{node_doc}
use Rattle.tough_update.specs.delegations.Placed.{placed_doc}
use Rattle.tough_update.specs.delegations.View.{metas_of, waiting_in, task_doc}
use Rattle.tough_trust.specs.View.{index_doc}
use Rattle.tough_update.proofs.tree.Listing.{role-name}
use Rattle.tough_update.proofs.tree.Sizing.{small-roles}
use Rattle.tough_update.proofs.tree.Turning.{some-within, turn_by_look-nodes, next-is, turn-none, turn-some, resumed-past, resumed-stopped, still-there}
use Rattle.tough_update.proofs.delegations.turns.take_turns.Goals as goal

pub overflow_add-task : goal.overflow_add-task
overflow_add-task c =
    let t = task_doc c.loop-role.task in
    let es = roles_at t.node (placed_doc c.loop-role.nodes) in
    let within : t.at < length es = some-within es t.at (role_tree c.in-Some.role.now).0 c.in-Some.ensures in
    let small : length es < 2 ^ 63 = small-roles c.loop-role.nodes.nodes t.node in
    let same : c.take_offer-offer.new.task.at ≡ t.at = c.take_offer-offer.ensures.place.1 in
    omega arith

pub returns-in-Some-2 : goal.returns-in-Some-2
returns-in-Some-2 c =
    let metas = metas_of c.args.snapshot.now in
    let x = index_doc c.loop-role.index in
    let more = index_doc c.enter.new.index in
    let ns = placed_doc c.loop-role.nodes in
    let ms = placed_doc c.enter.new.nodes in
    let t = task_doc c.loop-role.task in
    let r = c.in-Some.role.now in
    let e = (role_tree r).0 in
    let n = node_doc c.in-Some-offer.node in
    let name = string_bytes c.in_ok-name.name in
    let waiting = waiting_in ms c.in-Some-2.at in
    let m = metafile_doc c.in-Some-2.entry.now in
    let key : name ≡ string_bytes (out-DelegatedRole r).name = search rules in
    let offer : Some n ≡ offer_for (names_of x) t.node t.at e (fetched_for e t.fetched) = c.in-Some-offer.ensures.offer in
    let went : stopped ms waiting m more ≡ place_node metas ns x name n = search rules in
    ap (λ (u : TaskDoc). stopped_at ms u waiting m more)
    (next-is t e c.take_offer-offer.new.task.node c.take_offer-offer.new.task.at (task_doc c.take_offer-offer.new.task).fetched c.take_offer-offer.ensures.place.0 c.take_offer-offer.ensures.place.1 c.take_offer-offer.ensures.fetched)
    ∙ resumed-stopped metas x ns t e c.in-Some.ensures ms more waiting m (turn-some metas x ns t e c.in-Some.ensures n name (stopped ms waiting m more) offer (key ∙ sym (role-name r)) went)
    ∙ c.loop-role.invariant

pub loop-role-smaller-in_default-2 : goal.loop-role-smaller-in_default-2
loop-role-smaller-in_default-2 c =
    let metas = metas_of c.args.snapshot.now in
    let x = index_doc c.loop-role.index in
    let more = index_doc c.enter.new.index in
    let ns = placed_doc c.loop-role.nodes in
    let ms = placed_doc c.enter.new.nodes in
    let t = task_doc c.loop-role.task in
    let e = (role_tree c.in-Some.role.now).0 in
    let n = node_doc c.in-Some-offer.node in
    let name = string_bytes c.in_ok-name.name in
    let es = roles_at t.node ns in
    let went : past ms more ≡ place_node metas ns x name n = search rules in
    let y = put name (Some (last_number (also ns n))) x in
    let kept : roles_at t.node ms ≡ es =
    ap (roles_at t.node) (turn_by_look-nodes ms (also ns n) more y (look metas (names_of y) (listed_roles n.document.below)) went) ∙ still-there metas x ns t e c.in-Some.ensures n in
    let within : t.at < length es = some-within es t.at e c.in-Some.ensures in
    let left : length (roles_at c.take_offer-offer.new.task.node ms) ≡ length es = ap (λ k. length (roles_at k ms)) c.take_offer-offer.ensures.place.0 ∙ ap length kept in
    let same : c.take_offer-offer.new.task.at ≡ t.at = c.take_offer-offer.ensures.place.1 in
    omega arith

pub loop-role-preserved-in_default-2 : goal.loop-role-preserved-in_default-2
loop-role-preserved-in_default-2 c =
    let metas = metas_of c.args.snapshot.now in
    let x = index_doc c.loop-role.index in
    let more = index_doc c.enter.new.index in
    let ns = placed_doc c.loop-role.nodes in
    let ms = placed_doc c.enter.new.nodes in
    let t = task_doc c.loop-role.task in
    let r = c.in-Some.role.now in
    let e = (role_tree r).0 in
    let n = node_doc c.in-Some-offer.node in
    let name = string_bytes c.in_ok-name.name in
    let key : name ≡ string_bytes (out-DelegatedRole r).name = search rules in
    let offer : Some n ≡ offer_for (names_of x) t.node t.at e (fetched_for e t.fetched) = c.in-Some-offer.ensures.offer in
    let went : past ms more ≡ place_node metas ns x name n = search rules in
    let y = put name (Some (last_number (also ns n))) x in
    let kept : roles_at t.node ms ≡ roles_at t.node ns =
    ap (roles_at t.node) (turn_by_look-nodes ms (also ns n) more y (look metas (names_of y) (listed_roles n.document.below)) went) ∙ still-there metas x ns t e c.in-Some.ensures n in
    ap (resumed metas more ms)
    (next-is t e c.take_offer-offer.new.task.node c.take_offer-offer.new.task.at (task_doc c.take_offer-offer.new.task).fetched c.take_offer-offer.ensures.place.0 c.take_offer-offer.ensures.place.1 c.take_offer-offer.ensures.fetched)
    ∙ resumed-past metas x ns t e c.in-Some.ensures ms more (turn-some metas x ns t e c.in-Some.ensures n name (past ms more) offer (key ∙ sym (role-name r)) went) kept
    ∙ c.loop-role.invariant

pub loop-role-preserved : goal.loop-role-preserved
loop-role-preserved c =
    let metas = metas_of c.args.snapshot.now in
    let x = index_doc c.loop-role.index in
    let ns = placed_doc c.loop-role.nodes in
    let t = task_doc c.loop-role.task in
    let e = (role_tree c.in-Some.role.now).0 in
    let offer : None ≡ offer_for (names_of x) t.node t.at e (fetched_for e t.fetched) = search rules in
    ap (resumed metas x ns)
    (next-is t e c.take_offer-offer.new.task.node c.take_offer-offer.new.task.at (task_doc c.take_offer-offer.new.task).fetched c.take_offer-offer.ensures.place.0 c.take_offer-offer.ensures.place.1 c.take_offer-offer.ensures.fetched)
    ∙ resumed-past metas x ns t e c.in-Some.ensures ns x (turn-none metas x ns t e c.in-Some.ensures offer) refl
    ∙ c.loop-role.invariant
