use Rattle.std.proofs.Common.{◌≡◌, List, Some, None, true, string_bytes, sym, ap, subst, ◌∙◌, rules}
use Rattle.std.proofs.lemmas.Result.{err_from_is_err_and}
use Rattle.serde_json.specs.View.{view, members_view}
use Rattle.serde_json.proofs.Views.{Entry}
use Rattle.tough_json.specs.Table.{table_from}
use Rattle.tough_json.proofs.lemmas.Each.{refuses-map}
use Rattle.tough_json.proofs.TableLemmas.{docs, insert-docs, table-more, table-refused, table-done}
use Rattle.tough_json.proofs.table.table_of.Goals as goal

pub returns-in_err-key : goal.returns-in_err-key
returns-in_err-key g c =
    let cmp = g.K.Ord.cmp in
    let at = g.T.FromEntry.at in
    let name : c.as_str.result.now ≡ string_bytes c.in-Some.name = search rules in
    let found = docs g.T.FromEntry.doc c.loop-name.table.entries in
    let all = c.loop-name.invariant.2 ∙ ap (λ (xs : List Entry). table_from (λ there. true) cmp at found (members_view xs)) c.in-Some.ensures.steps in
    let failed = err_from_is_err_and c.from_residual.result c.from_residual.ensures.1 in
    rw (failed.1, failed.2, all) (refuses-map (at c.as_str.result.now (view c.in-Some.value)) _ c.in_err-key.field-0.0
    (λ none. table-refused cmp at found (string_bytes c.in-Some.name) (view c.in-Some.value) (members_view c.next.new.self) (subst (λ n. at n (view c.in-Some.value) ≡ None) name none)) c.in_err-key.ensures)

pub loop-name-preserved : goal.loop-name-preserved
loop-name-preserved g c =
    let cmp = g.K.Ord.cmp in
    let at = g.T.FromEntry.at in
    let doc = g.T.FromEntry.doc in
    let name : c.as_str.result.now ≡ string_bytes c.in-Some.name = search rules in
    let found = docs doc c.loop-name.table.entries in
    let all = c.loop-name.invariant.2 ∙ ap (λ (xs : List Entry). table_from (λ there. true) cmp at found (members_view xs)) c.in-Some.ensures.steps in
    let read = subst (λ n. at n (view c.in-Some.value) ≡ Some (c.in_ok-key.key, doc c.in_ok-key.entry)) name c.in_ok-key.ensures in
    let put = ap (docs doc) c.in_ok-insert.ensures.entries ∙ insert-docs cmp doc c.loop-name.table.entries c.in_ok-key.key c.in_ok-key.entry in (
      tt,
      tt,
      all ∙ table-more cmp at found (string_bytes c.in-Some.name) (view c.in-Some.value) (members_view c.next.new.self) (c.in_ok-key.key, doc c.in_ok-key.entry) read
          ∙ ap (λ more. table_from (λ there. true) cmp at more (members_view c.next.new.self)) (sym put),
    )

pub returns : goal.returns
returns g c =
    let cmp = g.K.Ord.cmp in
    let at = g.T.FromEntry.at in
    let found = docs g.T.FromEntry.doc c.loop-name.table.entries in
    c.loop-name.invariant.2 ∙ ap (λ (xs : List Entry). table_from (λ there. true) cmp at found (members_view xs)) c.in-None.ensures.steps.0 ∙ table-done cmp at found
