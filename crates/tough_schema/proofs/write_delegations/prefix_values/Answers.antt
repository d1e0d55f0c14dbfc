use Rattle.std.proofs.Common.{◌≡◌, ◌+◌, List, [], ◌∷◌, ◌++◌, Some, take, sym, ap, ◌∙◌, arith}
use Rattle.std.proofs.lemmas.List.{take_more}
use Rattle.serde_json.specs.Data.{string}
use Rattle.serde_json.specs.declared.value.Value.{Value}
use Rattle.serde_json.specs.View.{view, items_view}
use Rattle.tough_json.specs.Writing.{all_json}
use Rattle.tough_json.proofs.lemmas.List.{all_json-snoc, items_view-snoc}
use Rattle.tough_schema.specs.Paths.{text_json}
use Rattle.tough_schema.proofs.write_delegations.prefix_values.Goals as goal

pub loop-prefix-init : goal.loop-prefix-init
unfolding all_json
loop-prefix-init c = ap (λ (vs : List Value). Some (items_view vs)) (sym c.new-values.ensures.items)

pub loop-prefix-preserved : goal.loop-prefix-preserved
loop-prefix-preserved c =
    let xs = c.args.prefixes.now in
    let i = c.loop-prefix.prefix-index in
    let x = c.prefix-item.result in
    let here : take (i + 1) xs ≡ take i xs ++ x ∷ [] = take_more xs i x (omega (arith, c.loop-prefix-test.true)) ∙ ap (λ y. take i xs ++ y ∷ []) (sym c.prefix-item.is) in
    ap (all_json text_json) here
    ∙ all_json-snoc text_json (take i xs) x (items_view c.loop-prefix.values.items) (view c.in_ok-item.item) c.loop-prefix.invariant (ap (λ t. Some (string t)) (sym c.value.ensures) ∙ ap Some (sym c.in_ok-item.ensures))
    ∙ ap Some (sym (ap items_view c.in_ok-push.ensures.items ∙ items_view-snoc c.loop-prefix.values.items c.in_ok-item.item))
