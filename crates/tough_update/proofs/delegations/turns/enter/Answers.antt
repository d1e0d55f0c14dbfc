use Rattle.std.proofs.Common.{rules, ◌≡◌, drop, string_bytes, Some, ap, ◌∙◌}
use Rattle.tough_roles.specs.Timestamp.{metafile_doc}
use Rattle.tough_update.specs.delegations.Numbered.{also, last_number}
use Rattle.tough_trust.specs.delegations.Indexed.{put, names_of}
use Rattle.tough_update.specs.delegations.Growing.{through, unlisted, wanted, look, past}
use Rattle.tough_trust.specs.delegations.Dressed.{entries_of}
use Rattle.tough_update.specs.delegations.Documents.{node_doc}
use Rattle.tough_update.specs.delegations.Placed.{placed_doc}
use Rattle.tough_update.specs.delegations.View.{metas_of}
use Rattle.tough_trust.specs.View.{index_doc}
use Rattle.tough_update.proofs.tree.Turning.{enters, enters-wanted}
use Rattle.tough_update.proofs.delegations.turns.enter.Goals as goal

pub returns-in-Through : goal.returns-in-Through
returns-in-Through c =
    let metas = metas_of c.args.snapshot.now in
    let x = index_doc c.args.index.now in
    let name = string_bytes c.args.name in
    let more = index_doc c.insert.new.self in
    let ns = placed_doc c.args.nodes.now in
    let n = node_doc c.args.node in
    let ms = placed_doc c.push.new.self in
    let rs = c.roles_of.result.now in
    let marked : more ≡ put name (Some (last_number ms)) x = c.in_ok-insert.ensures ∙ ap (λ k. put name (Some k) x) c.last_number.ensures in
    let pushed : ms ≡ also ns n = c.in_ok-push.ensures in
    let seen : through ≡ look metas (names_of more) (entries_of rs) = search rules in
    enters metas x more ns ms n c.last.result.now rs name marked pushed c.last.ensures c.roles_of.ensures through seen

pub returns-in_ok-pass_over-in-Unlisted : goal.returns-in_ok-pass_over-in-Unlisted
returns-in_ok-pass_over-in-Unlisted c =
    let metas = metas_of c.args.snapshot.now in
    let x = index_doc c.args.index.now in
    let name = string_bytes c.args.name in
    let more = index_doc c.insert.new.self in
    let ns = placed_doc c.args.nodes.now in
    let n = node_doc c.args.node in
    let ms = placed_doc c.push.new.self in
    let rs = c.roles_of.result.now in
    let other = string_bytes c.in-Unlisted.name in
    let marked : more ≡ put name (Some (last_number ms)) x = c.in_ok-insert.ensures ∙ ap (λ k. put name (Some k) x) c.last_number.ensures in
    let pushed : ms ≡ also ns n = c.in_ok-push.ensures in
    let seen : unlisted other ≡ look metas (names_of more) (entries_of rs) = search rules in
    ap (past ms) c.in_ok-pass_over-in-Unlisted.ensures
    ∙ enters metas x more ns ms n c.last.result.now rs name marked pushed c.last.ensures c.roles_of.ensures (unlisted other) seen

pub returns-in-Wanted : goal.returns-in-Wanted
returns-in-Wanted c =
    let metas = metas_of c.args.snapshot.now in
    let x = index_doc c.args.index.now in
    let name = string_bytes c.args.name in
    let more = index_doc c.insert.new.self in
    let ns = placed_doc c.args.nodes.now in
    let n = node_doc c.args.node in
    let ms = placed_doc c.push.new.self in
    let rs = c.roles_of.result.now in
    let marked : more ≡ put name (Some (last_number ms)) x = c.in_ok-insert.ensures ∙ ap (λ k. put name (Some k) x) c.last_number.ensures in
    let pushed : ms ≡ also ns n = c.in_ok-push.ensures in
    let m = metafile_doc c.in-Wanted.entry.now in
    let seen : wanted (drop c.in-Wanted.at (entries_of rs)) m ≡ look metas (names_of more) (entries_of rs) = search rules in
    enters-wanted metas x more ns ms n c.last.result.now rs name marked pushed c.last.ensures c.roles_of.ensures c.in-Wanted.at m seen
