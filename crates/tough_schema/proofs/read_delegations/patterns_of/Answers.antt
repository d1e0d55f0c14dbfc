use Rattle.std.proofs.Common.{◌≡◌, List, [], ◌∷◌, ◌++◌, sym, ap, ◌∙◌}
use Rattle.std.proofs.lemmas.Result.{err_from_is_err_and}
use Rattle.std.proofs.lemmas.List.{nil_from_length}
use Rattle.serde_json.specs.declared.value.Value.{Value}
use Rattle.serde_json.specs.View.{view, items_view}
use Rattle.tough_json.specs.Reading.{all_at}
use Rattle.tough_json.proofs.lemmas.Each.{refuses-map}
use Rattle.tough_json.proofs.lemmas.List.{after, all-more, all-refused, all-done}
use Rattle.tough_schema.specs.Paths.{pattern}
use Rattle.tough_schema.proofs.read_delegations.patterns_of.Goals as goal

pub returns-in_err-pattern : goal.returns-in_err-pattern
returns-in_err-pattern c =
    let done = c.loop-value.patterns.items in
    let left = items_view c.next.new.self.rest.items in
    let all : all_at pattern (items_view c.args.values.items) ≡ after done (all_at pattern (items_view (c.in-Some.value ∷ c.next.new.self.rest.items))) =
    c.loop-value.invariant.2 ∙ ap (λ (vs : List Value). after done (all_at pattern (items_view vs))) c.in-Some.ensures.steps.0 in
    let failed = err_from_is_err_and c.from_residual.result c.from_residual.ensures.1 in
    rw (failed.1, failed.2, all) (refuses-map (pattern (view c.in-Some.value)) (after done (all_at pattern (items_view (c.in-Some.value ∷ c.next.new.self.rest.items)))) c.in_err-pattern.field-0.0
    (all-refused pattern done (view c.in-Some.value) left) c.in_err-pattern.ensures)

pub loop-value-preserved : goal.loop-value-preserved
loop-value-preserved c =
    let done = c.loop-value.patterns.items in
    let left = items_view c.next.new.self.rest.items in
    let all : all_at pattern (items_view c.args.values.items) ≡ after done (all_at pattern (items_view (c.in-Some.value ∷ c.next.new.self.rest.items))) =
    c.loop-value.invariant.2 ∙ ap (λ (vs : List Value). after done (all_at pattern (items_view vs))) c.in-Some.ensures.steps.0 in
    let pushed : c.push.new.self.items ≡ done ++ c.in_ok-pattern.pattern ∷ [] =
    c.in_ok-push.ensures.items in
    (tt, tt, all ∙ all-more pattern done (view c.in-Some.value) left (c.in_ok-pattern.pattern) c.in_ok-pattern.ensures ∙ ap (λ ss. after ss (all_at pattern left)) (sym pushed))

pub returns : goal.returns
returns c =
    let none : c.loop-value.value-iterator.rest.items ≡ [] = nil_from_length c.loop-value.value-iterator.rest.items (sym c.loop-value.value-iterator.rest.ok.0 ∙ c.in-None.ensures.steps.0) in
    let done = c.loop-value.patterns.items in
    c.loop-value.invariant.2 ∙ ap (λ (vs : List Value). after done (all_at pattern (items_view vs))) none ∙ all-done pattern done
