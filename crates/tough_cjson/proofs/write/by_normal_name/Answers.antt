use Rattle.std.proofs.Common.{◌≡◌, ◌++◌, ◌∷◌, [], None, ap, sym, ◌∙◌, subst, refl, rules, append_assoc, append-nil, string_bytes, string_cmp}
use Rattle.std.specs.BTreeMap.{is_at}
use Rattle.std.specs.Map.{lookup}
use Rattle.serde_json.proofs.Views.{Entry}
use Rattle.std.specs.List.Sorted.{IsPermutation}
use Rattle.tough_cjson.specs.ByName.{named, kept}
use Rattle.tough_cjson.specs.Canon.{nfc_text}
use Rattle.tough_cjson.proofs.Holding.{shares_at}
use Rattle.tough_cjson.proofs.ByName.{has_name-from_lookup, IsPermutation_more, none_from}
use Rattle.tough_cjson.proofs.write.by_normal_name.Goals as goal

pub returns-then-is_some-clause-err : goal.returns-then-is_some-clause-err
unfolding nfc_text
returns-then-is_some-clause-err c =
    let l = c.loop-key in
    let done = l.invariant.0 in
    let e : Entry = (c.in-Some.key.now, c.in-Some.member.now) in
    let left = c.next.new.self in
    let all : c.args.members.now.entries ≡ done ++ e ∷ left = l.invariant.1 ∙ ap (λ es. done ++ es) c.in-Some.ensures.steps in
    let name : string_bytes c.in_ok-name.name ≡ nfc_text (string_bytes e.0) = search rules in
    rw all (shares_at done e left (has_name-from_lookup c.in_ok-name.name l.sorted.entries _ done c.in_ok-insert.field-0 c.in_ok-insert.ensures.old (sym c.if-is_some.ensures) name l.invariant.2))

pub loop-key-preserved : goal.loop-key-preserved
unfolding nfc_text
loop-key-preserved c =
    let l = c.loop-key in
    let done = l.invariant.0 in
    let e : Entry = (c.in-Some.key.now, c.in-Some.member.now) in
    let left = c.next.new.self in
    let all : c.args.members.now.entries ≡ done ++ e ∷ left = l.invariant.1 ∙ ap (λ es. done ++ es) c.in-Some.ensures.steps in
    let name : string_bytes c.in_ok-name.name ≡ nfc_text (string_bytes e.0) = search rules in
    let none : lookup (is_at (string_cmp c.in_ok-name.name)) l.sorted.entries ≡ None = sym c.in_ok-insert.ensures.old ∙ none_from _ (sym c.if-is_some.ensures) in (
      done ++ e ∷ [],
      all ∙ sym (append_assoc done (e ∷ []) left),
      IsPermutation_more done e l.sorted.entries c.insert.new.self.entries c.in_ok-name.name c.in-Some.member refl l.invariant.2 name none c.in_ok-insert.ensures.entries,
      c.in_ok-insert.ensures.ordered,
    )

pub returns-clause-ok : goal.returns-clause-ok
returns-clause-ok c =
    let l = c.loop-key in
    let all : c.args.members.now.entries ≡ l.invariant.0 = l.invariant.1 ∙ ap (λ es. l.invariant.0 ++ es) c.in-None.ensures.steps.0 ∙ append-nil _ in
    record { same = subst (λ es. IsPermutation (named es) (kept l.sorted.entries)) (sym all) l.invariant.2; rising = l.invariant.3 }
