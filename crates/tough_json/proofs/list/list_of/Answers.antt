use Rattle.std.proofs.Common.{◌≡◌, List, [], ◌∷◌, ◌++◌, map, sym, ap, ◌∙◌}
use Rattle.std.proofs.lemmas.Result.{err_from_is_err_and}
use Rattle.std.proofs.lemmas.List.{map-append, nil_from_length}
use Rattle.serde_json.specs.declared.value.Value.{Value}
use Rattle.serde_json.specs.View.{view, items_view}
use Rattle.tough_json.specs.Reading.{all_at}
use Rattle.tough_json.proofs.lemmas.Each.{refuses-map}
use Rattle.tough_json.proofs.lemmas.List.{after, all-more, all-refused, all-done}
use Rattle.tough_json.proofs.list.list_of.Goals as goal

pub returns-in_err-item : goal.returns-in_err-item
returns-in_err-item g c =
    let at = g.T.FromJson.at in
    let done = map g.T.FromJson.doc c.loop-value.list.items in
    let left = items_view c.next.new.self.rest.items in
    let all : all_at at (items_view c.args.values.items) ≡ after done (all_at at (items_view (c.in-Some.value ∷ c.next.new.self.rest.items))) =
    c.loop-value.invariant.2 ∙ ap (λ (vs : List Value). after done (all_at at (items_view vs))) c.in-Some.ensures.steps.0 in
    let failed = err_from_is_err_and c.from_residual.result c.from_residual.ensures.1 in
    rw (failed.1, failed.2, all) (refuses-map (at (view c.in-Some.value)) (after done (all_at at (items_view (c.in-Some.value ∷ c.next.new.self.rest.items)))) c.in_err-item.field-0.0
    (all-refused at done (view c.in-Some.value) left) c.in_err-item.ensures)

pub loop-value-preserved : goal.loop-value-preserved
loop-value-preserved g c =
    let at = g.T.FromJson.at in
    let doc = g.T.FromJson.doc in
    let done = map doc c.loop-value.list.items in
    let left = items_view c.next.new.self.rest.items in
    let all : all_at at (items_view c.args.values.items) ≡ after done (all_at at (items_view (c.in-Some.value ∷ c.next.new.self.rest.items))) =
    c.loop-value.invariant.2 ∙ ap (λ (vs : List Value). after done (all_at at (items_view vs))) c.in-Some.ensures.steps.0 in
    let pushed : map doc c.push.new.self.items ≡ done ++ doc c.in_ok-item.item ∷ [] =
    ap (map doc) c.in_ok-push.ensures.items ∙ map-append doc c.loop-value.list.items (c.in_ok-item.item ∷ []) in
    (tt, tt, all ∙ all-more at done (view c.in-Some.value) left (doc c.in_ok-item.item) c.in_ok-item.ensures ∙ ap (λ ss. after ss (all_at at left)) (sym pushed))

pub returns : goal.returns
returns g c =
    let at = g.T.FromJson.at in
    let none : c.loop-value.value-iterator.rest.items ≡ [] = nil_from_length c.loop-value.value-iterator.rest.items (sym c.loop-value.value-iterator.rest.ok.0 ∙ c.in-None.ensures.steps.0) in
    let done = map g.T.FromJson.doc c.loop-value.list.items in
    c.loop-value.invariant.2 ∙ ap (λ (vs : List Value). after done (all_at at (items_view vs))) none ∙ all-done at done
