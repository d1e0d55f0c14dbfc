use Rattle.std.proofs.Common.{◌≡◌, ◌+◌, List, [], ◌∷◌, ◌++◌, Some, take, option_map, sym, ap, ◌∙◌, arith}
use Rattle.std.proofs.lemmas.List.{take_more}
use Rattle.serde_json.specs.Data.{string}
use Rattle.serde_json.specs.declared.value.Value.{Value}
use Rattle.serde_json.specs.View.{view, items_view}
use Rattle.tough_json.specs.Writing.{all_json}
use Rattle.tough_json.proofs.lemmas.List.{all_json-snoc, items_view-snoc}
use Rattle.tough_schema.specs.Paths.{pattern_json}
use Rattle.tough_schema.proofs.PathLemmas.{if_pattern_is}
use Rattle.tough_schema.proofs.write_delegations.pattern_values.Goals as goal

pub loop-pattern-init : goal.loop-pattern-init
unfolding all_json
loop-pattern-init c = ap (λ (vs : List Value). Some (items_view vs)) (sym c.new-values.ensures.items)

pub loop-pattern-preserved : goal.loop-pattern-preserved
loop-pattern-preserved c =
    let xs = c.args.patterns.now in
    let i = c.loop-pattern.pattern-index in
    let x = c.pattern-item.result in
    let here : take (i + 1) xs ≡ take i xs ++ x ∷ [] = take_more xs i x (omega (arith, c.loop-pattern-test.true)) ∙ ap (λ y. take i xs ++ y ∷ []) (sym c.pattern-item.is) in
    ap (all_json pattern_json) here
    ∙ all_json-snoc pattern_json (take i xs) x (items_view c.loop-pattern.values.items) (view c.in_ok-item.item) c.loop-pattern.invariant (ap (option_map string) (if_pattern_is x c.value.ensures.pattern) ∙ ap (λ t. Some (string t)) (sym c.value.ensures.text) ∙ ap Some (sym c.in_ok-item.ensures))
    ∙ ap Some (sym (ap items_view c.in_ok-push.ensures.items ∙ items_view-snoc c.loop-pattern.values.items c.in_ok-item.item))
