use Rattle.std.proofs.Common.{◌≡◌, List, true, is_some, Some, None, string_bytes, sym, ap, subst, ◌∙◌, rules}
use Rattle.std.specs.BTreeMap.{is_at}
use Rattle.std.specs.Map.{lookup}
use Rattle.std.proofs.lemmas.Result.{err_from_is_err_and}
use Rattle.serde_json.specs.View.{view, members_view}
use Rattle.serde_json.proofs.Views.{Entry}
use Rattle.tough_keys.specs.Key.{key_doc}
use Rattle.tough_json.proofs.lemmas.Each.{refuses-map}
use Rattle.tough_roles.specs.Root.{keys_from, keys_doc, key_entry_at, by_bytes}
use Rattle.tough_roles.proofs.lemmas.Entry.{keys-more, keys-twice, keys-refused, keys-done, taken-keys_doc, free-keys_doc, insert-keys_doc}
use Rattle.tough_roles.proofs.read_root.keys_of.Goals as goal

pub returns-in_err-id : goal.returns-in_err-id
returns-in_err-id c =
    let name : c.as_str.result.now ≡ string_bytes c.in-Some.name = search rules in
    let docs = keys_doc c.loop-name.keys.entries in
    let all = c.loop-name.invariant.2 ∙ ap (λ (xs : List Entry). keys_from docs (members_view xs)) c.in-Some.ensures.steps in
    let failed = err_from_is_err_and c.from_residual.result c.from_residual.ensures.1 in
    rw (failed.1, failed.2, all) (refuses-map (key_entry_at c.as_str.result.now (view c.in-Some.value)) _ c.in_err-id.field-0.0
    (λ none. keys-refused docs (string_bytes c.in-Some.name) (view c.in-Some.value) (members_view c.next.new.self) (subst (λ n. key_entry_at n (view c.in-Some.value) ≡ None) name none)) c.in_err-id.ensures)

pub returns-then-contains_key : goal.returns-then-contains_key
returns-then-contains_key c =
    let name : c.as_str.result.now ≡ string_bytes c.in-Some.name = search rules in
    let docs = keys_doc c.loop-name.keys.entries in
    let all = c.loop-name.invariant.2 ∙ ap (λ (xs : List Entry). keys_from docs (members_view xs)) c.in-Some.ensures.steps in
    let there : is_some (lookup (is_at (by_bytes c.in_ok-id.id)) c.loop-name.keys.entries) ≡ true = sym c.contains_key.ensures ∙ c.if-contains_key.true in
    let read = subst (λ n. key_entry_at n (view c.in-Some.value) ≡ Some (c.in_ok-id.id, key_doc c.in_ok-id.key)) name c.in_ok-id.ensures in
    let none = all ∙ keys-twice docs (string_bytes c.in-Some.name) (view c.in-Some.value) (members_view c.next.new.self) c.in_ok-id.id (key_doc c.in_ok-id.key) read (taken-keys_doc c.loop-name.keys.entries c.in_ok-id.id there) in
    search rules

pub loop-name-preserved : goal.loop-name-preserved
loop-name-preserved c =
    let name : c.as_str.result.now ≡ string_bytes c.in-Some.name = search rules in
    let docs = keys_doc c.loop-name.keys.entries in
    let all = c.loop-name.invariant.2 ∙ ap (λ (xs : List Entry). keys_from docs (members_view xs)) c.in-Some.ensures.steps in
    let free = free-keys_doc c.loop-name.keys.entries c.in_ok-id.id (sym c.contains_key.ensures ∙ c.if-contains_key.false) in
    let read = subst (λ n. key_entry_at n (view c.in-Some.value) ≡ Some (c.in_ok-id.id, key_doc c.in_ok-id.key)) name c.in_ok-id.ensures in
    let put = ap keys_doc c.in_ok-insert.ensures.entries ∙ insert-keys_doc c.loop-name.keys.entries c.in_ok-id.id c.in_ok-id.key in (
      tt,
      tt,
      all ∙ keys-more docs (string_bytes c.in-Some.name) (view c.in-Some.value) (members_view c.next.new.self) c.in_ok-id.id (key_doc c.in_ok-id.key) read free
          ∙ ap (λ found. keys_from found (members_view c.next.new.self)) (sym put),
    )

pub returns : goal.returns
returns c =
    let docs = keys_doc c.loop-name.keys.entries in
    c.loop-name.invariant.2 ∙ ap (λ (xs : List Entry). keys_from docs (members_view xs)) c.in-None.ensures.steps.0 ∙ keys-done docs
