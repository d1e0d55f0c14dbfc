use Rattle.std.proofs.Common.{◌≡◌, ◌+◌, map, List, [], ◌∷◌, ◌++◌, Some, take, drop, sym, ap, ◌∙◌, arith}
use Rattle.std.proofs.lemmas.List.{take_more, drop_more, take-append-drop, map-append}
use Rattle.std.proofs.lemmas.Result.{err_from_is_err_and}
use Rattle.serde_json.specs.declared.value.Value.{Value}
use Rattle.serde_json.specs.View.{view, items_view}
use Rattle.tough_json.specs.Writing.{all_json}
use Rattle.tough_json.proofs.lemmas.Named.{refuses-write}
use Rattle.tough_json.proofs.lemmas.List.{all_json-snoc, items_view-snoc}
use Rattle.tough_schema.specs.declared.delegations.DelegatedRole.{DelegatedRole}
use Rattle.tough_schema.specs.Delegations.{delegated_role_json, delegated_role_doc}
use Rattle.tough_schema.proofs.ListingLemmas.{all_json-refused}
use Rattle.tough_schema.proofs.write_delegations.role_values.Goals as goal

pub loop-role-init : goal.loop-role-init
unfolding all_json
loop-role-init c = ap (λ (vs : List Value). Some (items_view vs)) (sym c.new-values.ensures.items)

pub returns-in_err-value : goal.returns-in_err-value
returns-in_err-value c =
    let xs = c.args.roles.now in
    let i = c.loop-role.role-index in
    let x = c.role-item.result in
    let rest : drop i xs ≡ x ∷ drop (i + 1) xs = drop_more xs i x (omega (arith, c.loop-role-test.true)) ∙ ap (λ y. y ∷ drop (i + 1) xs) (sym c.role-item.is) in
    let whole : map delegated_role_doc xs ≡ map delegated_role_doc (take i xs) ++ delegated_role_doc x ∷ map delegated_role_doc (drop (i + 1) xs) =
    ap (map delegated_role_doc) (sym (take-append-drop i xs)) ∙ ap (λ (l : List DelegatedRole). map delegated_role_doc (take i xs ++ l)) rest ∙ map-append delegated_role_doc (take i xs) (x ∷ drop (i + 1) xs) in
    let failed = err_from_is_err_and c.from_residual.result c.from_residual.ensures.1 in
    rw (failed.1, failed.2, whole) (refuses-write (delegated_role_json (delegated_role_doc x)) (all_json delegated_role_json (map delegated_role_doc (take i xs) ++ delegated_role_doc x ∷ map delegated_role_doc (drop (i + 1) xs))) c.in_err-value.field-0.0
    (all_json-refused delegated_role_json (map delegated_role_doc (take i xs)) (delegated_role_doc x) (map delegated_role_doc (drop (i + 1) xs))) c.in_err-value.ensures)

pub loop-role-preserved : goal.loop-role-preserved
loop-role-preserved c =
    let xs = c.args.roles.now in
    let i = c.loop-role.role-index in
    let x = c.role-item.result in
    let here : take (i + 1) xs ≡ take i xs ++ x ∷ [] = take_more xs i x (omega (arith, c.loop-role-test.true)) ∙ ap (λ y. take i xs ++ y ∷ []) (sym c.role-item.is) in
    ap (λ (rs : List DelegatedRole). all_json delegated_role_json (map delegated_role_doc rs)) here
    ∙ ap (all_json delegated_role_json) (map-append delegated_role_doc (take i xs) (x ∷ []))
    ∙ all_json-snoc delegated_role_json (map delegated_role_doc (take i xs)) (delegated_role_doc x) (items_view c.loop-role.values.items) (view c.in_ok-value.value) c.loop-role.invariant c.in_ok-value.ensures
    ∙ ap Some (sym (ap items_view c.in_ok-push.ensures.items ∙ items_view-snoc c.loop-role.values.items c.in_ok-value.value))
