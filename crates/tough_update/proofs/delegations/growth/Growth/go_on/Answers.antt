use Rattle.std.proofs.Common.{◌≡◌, List, drop, map, string_bytes, ap, sym, ◌∙◌}
use Rattle.tough_roles.specs.Timestamp.{metafile_doc}
use Rattle.tough_schema.specs.Tree.{Entry}
use Rattle.tough_trust.specs.delegations.Indexed.{names_of}
use Rattle.tough_update.specs.delegations.Growing.{through, unlisted, wanted, look, wants, by_look, give, go_on, settle}
use Rattle.tough_trust.specs.delegations.Dressed.{entries_of}
use Rattle.tough_update.specs.delegations.Placed.{placed_doc}
use Rattle.tough_update.specs.delegations.View.{metas_of, waiting_in, look_doc, task_doc, work_doc, progress_doc}
use Rattle.tough_trust.specs.View.{index_doc}
use Rattle.tough_update.proofs.tree.Turning.{if_ok-to, listed-last}
use Rattle.tough_update.proofs.delegations.growth.Growth.go_on.Goals as goal

pub returns-in-Through : goal.returns-in-Through
returns-in-Through c =
    let metas = metas_of c.args.snapshot.now in
    let g = c.args.self in
    let names = names_of (index_doc g.index) in
    let ns = placed_doc g.nodes in
    let rs = c.roles_of.result.now in
    let listed = listed-last ns c.last.result.now rs c.last.ensures c.roles_of.ensures in
    let seen : through ≡ look metas names (waiting_in ns g.at) =
    sym (ap (look_doc (entries_of rs)) c.in-Through.is) ∙ c.in_ok-look_from.ensures ∙ ap (λ (es : List Entry). look metas names (drop g.at es)) listed in
    if_ok-to c.give.result (λ p. progress_doc p ≡ give metas (work_doc g)) (λ p. progress_doc p ≡ go_on metas (work_doc g)) (λ p is. is ∙ ap (by_look metas (work_doc g)) seen) c.give.ensures

pub returns-in-Unlisted : goal.returns-in-Unlisted
returns-in-Unlisted c =
    let metas = metas_of c.args.snapshot.now in
    let g = c.args.self in
    let names = names_of (index_doc g.index) in
    let ns = placed_doc g.nodes in
    let outer = map task_doc g.outer.items in
    let rs = c.roles_of.result.now in
    let listed = listed-last ns c.last.result.now rs c.last.ensures c.roles_of.ensures in
    let seen : unlisted (string_bytes c.in-Unlisted.name) ≡ look metas names (waiting_in ns g.at) =
    sym (ap (look_doc (entries_of rs)) c.in-Unlisted.is) ∙ c.in_ok-look_from.ensures ∙ ap (λ (es : List Entry). look metas names (drop g.at es)) listed in
    if_ok-to c.settle.result (λ p. progress_doc p ≡ settle metas (index_doc c.pass_over.new.self) ns outer) (λ p. progress_doc p ≡ go_on metas (work_doc g))
    (λ p is. is ∙ ap (λ n. settle metas n ns outer) c.in_ok-pass_over-in-Unlisted.ensures
    ∙ ap (by_look metas (work_doc g)) seen) c.settle.ensures

pub returns : goal.returns
returns c =
    let metas = metas_of c.args.snapshot.now in
    let g = c.args.self in
    let names = names_of (index_doc g.index) in
    let ns = placed_doc g.nodes in
    let rs = c.roles_of.result.now in
    let at = c.in-Wanted.at in
    let m = metafile_doc c.in-Wanted.entry.now in
    let listed = listed-last ns c.last.result.now rs c.last.ensures c.roles_of.ensures in
    let seen : wanted (drop at (entries_of rs)) m ≡ look metas names (waiting_in ns g.at) =
    sym (ap (look_doc (entries_of rs)) c.in-Wanted.is) ∙ c.in_ok-look_from.ensures ∙ ap (λ (es : List Entry). look metas names (drop g.at es)) listed in
    ap (λ (es : List Entry). wants (record (work_doc g) { waiting = drop at es }) m) (sym listed) ∙ ap (by_look metas (work_doc g)) seen
