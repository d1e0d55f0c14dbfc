use Rattle.std.proofs.Common.{arith, ◌≡◌, Some, option_map, ◌+◌, drop, string_bytes, sym, ap, ◌∙◌}
use Rattle.std.proofs.lemmas.List.{drop_all}
use Rattle.json.specs.Value.{items_view as json_items, members_view as json_members}
use Rattle.serde_json.specs.Data.{no_items, item, put}
use Rattle.serde_json.specs.Read.{of_items, of_members}
use Rattle.serde_json.specs.View.{view, members_view}
use Rattle.serde_json.proofs.Views.{members_view-insert_entry}
use Rattle.tough_json.proofs.lemmas.Borrowed.{items_before, items_before-no_items, one_more_item, item_turn, member_turn}
use Rattle.tough_json.proofs.borrowed.+value_in.Goals as goal

pub items_in-loop-item-preserved : goal.items_in-loop-item-preserved
items_in-loop-item-preserved t c =
    let l = c.loop-item in
    let all = c.deref-item-items.result.now in
    let v = c.in_ok-value.value in
    let turn : of_items (json_items (drop l.item-index all)) ≡ option_map (item (view v)) (of_items (json_items (drop (l.item-index + 1) all))) = item_turn all l.item-index c.item-item.result (view v) c.loop-item-test.true c.item-item.is c.in_ok-value.ensures in
    l.invariant ∙ ap (option_map (items_before l.values.items)) turn ∙ one_more_item l.values.items v _
    ∙ ap (λ vs. option_map (items_before vs) (of_items (json_items (drop (l.item-index + 1) all)))) (sym c.in_ok-push.ensures.items)

pub items_in-returns : goal.items_in-returns
items_in-returns t c =
    let l = c.loop-item in
    let last : of_items (json_items (drop l.item-index c.deref-item-items.result.now)) ≡ Some no_items = ap (λ ts. of_items (json_items ts)) (drop_all l.item-index c.deref-item-items.result.now (omega (arith, c.loop-item-test.false))) in
    l.invariant ∙ ap (option_map (items_before l.values.items)) last ∙ ap Some (items_before-no_items l.values.items)

pub members_in-loop-member-preserved : goal.members_in-loop-member-preserved
members_in-loop-member-preserved t c =
    let l = c.loop-member in
    let all = c.deref-member-items.result.now in
    let name = c.in_ok-name.name in
    let v = c.in_ok-value.value in
    let old = members_view l.values.entries in
    let turn : of_members (json_members (drop l.member-index all)) old ≡ of_members (json_members (drop (l.member-index + 1) all)) (put (string_bytes name) (view v) old) =
    member_turn all l.member-index c.member-item.result (view v) old c.loop-member-test.true c.member-item.is c.in_ok-value.ensures ∙ ap (λ n. of_members (json_members (drop (l.member-index + 1) all)) (put n (view v) old)) (sym c.in_ok-name.ensures.ok) in
    l.invariant ∙ turn ∙ ap (of_members (json_members (drop (l.member-index + 1) all))) (sym (ap members_view c.in_ok-insert.ensures.entries ∙ members_view-insert_entry l.values.entries name v))
