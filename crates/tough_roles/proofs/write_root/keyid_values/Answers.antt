use Rattle.std.proofs.Common.{◌≡◌, ◌+◌, List, [], ◌∷◌, ◌++◌, Some, take, sym, ap, ◌∙◌, arith}
use Rattle.std.proofs.lemmas.List.{take_more}
use Rattle.serde_json.specs.declared.value.Value.{Value}
use Rattle.serde_json.specs.View.{view, items_view}
use Rattle.tough_json.specs.Writing.{all_json, hexadecimal_json}
use Rattle.tough_json.proofs.lemmas.List.{all_json-snoc, items_view-snoc}
use Rattle.tough_roles.proofs.write_root.keyid_values.Goals as goal

pub loop-keyid-init : goal.loop-keyid-init
unfolding all_json
loop-keyid-init c = ap (λ (vs : List Value). Some (items_view vs)) (sym c.new-values.ensures.items)

pub loop-keyid-preserved : goal.loop-keyid-preserved
loop-keyid-preserved c =
    let xs = c.args.keyids.now in
    let i = c.loop-keyid.keyid-index in
    let x = c.keyid-item.result in
    let here : take (i + 1) xs ≡ take i xs ++ x ∷ [] = take_more xs i x (omega (arith, c.loop-keyid-test.true)) ∙ ap (λ y. take i xs ++ y ∷ []) (sym c.keyid-item.is) in
    ap (all_json hexadecimal_json) here
    ∙ all_json-snoc hexadecimal_json (take i xs) x (items_view c.loop-keyid.values.items) (view c.in_ok-value.value) c.loop-keyid.invariant c.in_ok-value.ensures
    ∙ ap Some (sym (ap items_view c.in_ok-push.ensures.items ∙ items_view-snoc c.loop-keyid.values.items c.in_ok-value.value))
