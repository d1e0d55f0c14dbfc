use Rattle.std.proofs.Common.{◌≡◌, List, ◌∷◌, Some, sym, ap, subst, ◌∙◌}
use Rattle.std.proofs.lemmas.Result.{err_from_is_err_and}
use Rattle.serde_json.specs.View.{view, members_view}
use Rattle.tough_json.specs.Writing.{with}
use Rattle.tough_json.proofs.lemmas.Named.{refuses-write}
use Rattle.tough_decoded.specs.Spelled.{Spelled, hex_bytes}
use Rattle.tough_keys.specs.declared.key.Key.{Key}
use Rattle.tough_keys.specs.Key.{KeyDoc, key_doc, key_json}
use Rattle.tough_roles.specs.Root.{keys_doc, keys_json}
use Rattle.std.specs.List.Sorted.{IsStrictlySortedBy}
use Rattle.tough_roles.specs.Root.{by_bytes}
use Rattle.tough_roles.proofs.lemmas.Table.{keys_of-docs, keys_json-refused, keys_json-taken, keys_json-more, keys_json-done}
use Rattle.tough_roles.proofs.write_root.keys_value.Goals as goal

pub returns-in_err-value-clause-written : goal.returns-in_err-value-clause-written
returns-in_err-value-clause-written c =
    let e : Spelled × KeyDoc = (c.in-Some.id.now, key_doc c.in-Some.key.now) in
    let found = members_view c.loop-id.members.entries in
    let left = keys_doc c.next.new.self in
    let all = c.loop-id.invariant ∙ ap (λ (es : List (Spelled × Key)). keys_json (keys_doc es) found) c.in-Some.ensures.steps in
    let failed = err_from_is_err_and c.from_residual.result c.from_residual.ensures.1 in
    rw (failed.1, failed.2, all) (refuses-write (key_json e.1) (keys_json (e ∷ left) found) c.in_err-value.field-0.0 (keys_json-refused e left found) c.in_err-value.ensures.written)

pub returns-in_err-members-clause-written : goal.returns-in_err-members-clause-written
returns-in_err-members-clause-written c =
    let e : Spelled × KeyDoc = (c.in-Some.id.now, key_doc c.in-Some.key.now) in
    let found = members_view c.loop-id.members.entries in
    let left = keys_doc c.next.new.self in
    let all = c.loop-id.invariant ∙ ap (λ (es : List (Spelled × Key)). keys_json (keys_doc es) found) c.in-Some.ensures.steps in
    let failed = err_from_is_err_and c.from_residual-in_err-members.result c.from_residual-in_err-members.ensures.1 in
    let d = view c.in_ok-value.value in
    rw (failed.1, failed.2, all) (refuses-write (with c.as_str.result.now d found) (keys_json (e ∷ left) found) c.in_err-members.field-0.0 (λ none. keys_json-taken e left found d c.in_ok-value.ensures.written (subst (λ n. hex_bytes n ≡ Some e.0.bytes) c.as_str.ensures.text c.as_str.ensures.read) (ap (λ n. with n d found) (sym c.as_str.ensures.text) ∙ none)) c.in_err-members.ensures)

pub loop-id-preserved : goal.loop-id-preserved
loop-id-preserved c =
    let e : Spelled × KeyDoc = (c.in-Some.id.now, key_doc c.in-Some.key.now) in
    let found = members_view c.loop-id.members.entries in
    let left = keys_doc c.next.new.self in
    let all = c.loop-id.invariant ∙ ap (λ (es : List (Spelled × Key)). keys_json (keys_doc es) found) c.in-Some.ensures.steps in
    let d = view c.in_ok-value.value in
    all ∙ keys_json-more e left found (members_view c.in_ok-members.members.entries) d c.in_ok-value.ensures.written (subst (λ n. hex_bytes n ≡ Some e.0.bytes) c.as_str.ensures.text c.as_str.ensures.read) (ap (λ n. with n d found) (sym c.as_str.ensures.text) ∙ c.in_ok-members.ensures)

pub returns-clause-written : goal.returns-clause-written
returns-clause-written c =
    let found = members_view c.loop-id.members.entries in
    c.loop-id.invariant ∙ ap (λ (es : List (Spelled × Key)). keys_json (keys_doc es) found) c.in-None.ensures.steps.0 ∙ keys_json-done found

pub returns-clause-ordered : goal.returns-clause-ordered
returns-clause-ordered c = subst (IsStrictlySortedBy by_bytes) (sym (keys_of-docs key_doc c.args.keys.now.entries)) c.iter-id-items.ensures.ordered
