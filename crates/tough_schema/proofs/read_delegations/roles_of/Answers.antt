use Rattle.std.proofs.Common.{◌≡◌, map, List, [], ◌∷◌, ◌++◌, sym, ap, subst, ◌∙◌}
use Rattle.std.proofs.lemmas.Result.{err_from_is_err_and}
use Rattle.std.proofs.lemmas.List.{map-append, nil_from_length}
use Rattle.serde_json.specs.declared.value.Value.{Value}
use Rattle.serde_json.specs.View.{view, items_view}
use Rattle.tough_json.specs.Reading.{all_at}
use Rattle.tough_json.proofs.lemmas.Each.{refuses-map}
use Rattle.tough_json.proofs.lemmas.List.{after, all-more, all-refused, all-done}
use Rattle.tough_schema.specs.Delegations.{delegated_role_at, delegated_role_doc}
use Rattle.tough_schema.specs.Fresh.{AreUnloaded}
use Rattle.tough_schema.proofs.Fresh.{unloaded-last}
use Rattle.tough_schema.proofs.read_delegations.roles_of.Goals as goal

pub returns-in_err-role-clause-read : goal.returns-in_err-role-clause-read
returns-in_err-role-clause-read c =
    let done = map delegated_role_doc c.loop-value.roles.items in
    let left = items_view c.next.new.self.rest.items in
    let all : all_at delegated_role_at (items_view c.args.values.items) ≡ after done (all_at delegated_role_at (items_view (c.in-Some.value ∷ c.next.new.self.rest.items))) =
    c.loop-value.invariant.2.0 ∙ ap (λ (vs : List Value). after done (all_at delegated_role_at (items_view vs))) c.in-Some.ensures.steps.0 in
    let failed = err_from_is_err_and c.from_residual.result c.from_residual.ensures.1 in
    rw (failed.1, failed.2, all) (refuses-map (delegated_role_at (view c.in-Some.value)) (after done (all_at delegated_role_at (items_view (c.in-Some.value ∷ c.next.new.self.rest.items)))) c.in_err-role.field-0.0
    (all-refused delegated_role_at done (view c.in-Some.value) left) c.in_err-role.ensures.read)

pub loop-value-preserved : goal.loop-value-preserved
loop-value-preserved c =
    let done = map delegated_role_doc c.loop-value.roles.items in
    let left = items_view c.next.new.self.rest.items in
    let all : all_at delegated_role_at (items_view c.args.values.items) ≡ after done (all_at delegated_role_at (items_view (c.in-Some.value ∷ c.next.new.self.rest.items))) =
    c.loop-value.invariant.2.0 ∙ ap (λ (vs : List Value). after done (all_at delegated_role_at (items_view vs))) c.in-Some.ensures.steps.0 in
    let pushed : map delegated_role_doc c.push.new.self.items ≡ done ++ delegated_role_doc c.in_ok-role.role ∷ [] =
    ap (map delegated_role_doc) c.in_ok-push.ensures.items ∙ map-append delegated_role_doc c.loop-value.roles.items (c.in_ok-role.role ∷ []) in
    (tt, tt, (all ∙ all-more delegated_role_at done (view c.in-Some.value) left (delegated_role_doc c.in_ok-role.role) c.in_ok-role.ensures.read ∙ ap (λ ss. after ss (all_at delegated_role_at left)) (sym pushed), subst AreUnloaded (sym c.in_ok-push.ensures.items) (unloaded-last c.loop-value.roles.items c.in_ok-role.role c.loop-value.invariant.2.1 c.in_ok-role.ensures.fresh)))

pub returns-clause-read : goal.returns-clause-read
returns-clause-read c =
    let none : c.loop-value.value-iterator.rest.items ≡ [] = nil_from_length c.loop-value.value-iterator.rest.items (sym c.loop-value.value-iterator.rest.ok.0 ∙ c.in-None.ensures.steps.0) in
    let done = map delegated_role_doc c.loop-value.roles.items in
    c.loop-value.invariant.2.0 ∙ ap (λ (vs : List Value). after done (all_at delegated_role_at (items_view vs))) none ∙ all-done delegated_role_at done
