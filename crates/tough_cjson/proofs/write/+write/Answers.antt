use Rattle.std.proofs.Common.{◌≡◌, ◌≤◌, ◌<◌, ◌*◌, ℕ, List, ◌++◌, ◌∷◌, [], ◌+◌, map, ap, sym, ◌∙◌, subst, arith, rules, append_assoc, append-nil, take, string_bytes}
use Rattle.std.proofs.lemmas.List.{take_more}
use Rattle.std.proofs.lemmas.Result.{err_from_is_err_and}
use Rattle.serde_json.specs.View.{view, items_view, members_view}
use Rattle.serde_json.proofs.Views.{Entry}
use Rattle.tough_cjson.specs.Ascii.{HaveAsciiNames}
use Rattle.tough_cjson.specs.Canon.{quoted, joined, member_text, CanonItems, CanonMembers, Holds, AreItemsRefused, AreMembersRefused}
use Rattle.tough_cjson.proofs.Holding.{items_hold, members_hold}
use Rattle.tough_cjson.proofs.lemmas.Joining.{is_nil_more, item_more, CanonItems_more, CanonMembers_more}
use Rattle.tough_cjson.proofs.lemmas.Plain.{nfc_text-IsAscii, ascii_at, in_place, written_more}
use Rattle.serde_json.specs.declared.value.Value.{Value, size-Value}
use denote.Param.Weighed.{most}
use Rattle.tough_cjson.specs.ByName.{named, kept}
use Rattle.tough_cjson.proofs.ByName.{Lent, AreWritten, texts_of, text_of, text_of-Canon, AreWritten_more, texts_of_more, kept_more, kept_hold, kept_below, written}
use Rattle.tough_cjson.proofs.lemmas.Joining.{is_nil}
use Rattle.tough_cjson.proofs.write.+write.Goals as goal

pub write_items-returns-in_err-write-clause-err : goal.write_items-returns-in_err-write-clause-err
write_items-returns-in_err-write-clause-err t c =
    let p = err_from_is_err_and c.from_residual-in_err-write.result c.from_residual-in_err-write.ensures.1 in
    let xs = c.deref-item-items.result.now in
    let here : AreItemsRefused (items_view xs) c.in_err-write.field-0.0 = items_hold _ xs c.loop-item.item-index c.item-item.result (omega arith) (subst (λ v. Holds (view v) c.in_err-write.field-0.0) c.item-item.is c.in_err-write.ensures.err) in
    rw (p.1, p.2) (subst (λ vs. AreItemsRefused (items_view vs) c.in_err-write.field-0.0) c.deref-item-items.ensures.value here)

pub write_items-loop-item-preserved : goal.write_items-loop-item-preserved
write_items-loop-item-preserved t c =
    let l = c.loop-item in
    let xs = c.deref-item-items.result.now in
    let x = c.item-item.result in
    let here : take (l.item-index + 1) xs ≡ take l.item-index xs ++ x ∷ [] = take_more xs l.item-index x (omega arith) ∙ ap (λ y. take l.item-index xs ++ y ∷ []) (sym c.item-item.is) in
    let told = c.in_ok-write.ensures.ok in (
      l.invariant.0 ++ told.0 ∷ [],
      subst (λ vs. CanonItems (items_view vs) (l.invariant.0 ++ told.0 ∷ [])) (sym here) (CanonItems_more (take l.item-index xs) x l.invariant.0 told.0 l.invariant.1 told.1),
      item_more c.args.out.now.items l.invariant.0 told.0 l.is_first l.out.items c.append_comma.new.out.items _ l.invariant.2 l.invariant.3 c.in_ok-append_comma.ensures told.2,
      sym (is_nil_more _ _),
    )

pub write_in_place-returns-in_err-write-clause-err : goal.write_in_place-returns-in_err-write-clause-err
write_in_place-returns-in_err-write-clause-err t c =
    let p = err_from_is_err_and c.from_residual-in_err-write.result c.from_residual-in_err-write.ensures.1 in
    let done = c.loop-name.invariant.0 in
    let e : Entry = (c.in-Some.name.now, c.in-Some.member.now) in
    let left = c.next.new.self in
    let all : c.args.members.now.entries ≡ done ++ e ∷ left = c.loop-name.invariant.2 ∙ ap (λ es. done ++ es) c.in-Some.ensures.steps in
    rw (p.1, p.2) (subst (λ es. AreMembersRefused (members_view es) c.in_err-write.field-0.0) (sym all) (members_hold _ done e left c.in_err-write.ensures.err))

pub write_in_place-loop-name-preserved : goal.write_in_place-loop-name-preserved
write_in_place-loop-name-preserved t c =
    let l = c.loop-name in
    let done = l.invariant.0 in
    let ps = l.invariant.1 in
    let e : Entry = (c.in-Some.name.now, c.in-Some.member.now) in
    let left = c.next.new.self in
    let all : c.args.members.now.entries ≡ done ++ e ∷ left = l.invariant.2 ∙ ap (λ es. done ++ es) c.in-Some.ensures.steps in
    let plain = nfc_text-IsAscii (string_bytes e.0) (ascii_at done e left (subst (λ es. HaveAsciiNames (members_view es)) all c.requires)) in
    let told = c.in_ok-write.ensures.ok in
    let quote : c.append_quoted.new.out.items ≡ c.append_comma.new.out.items ++ quoted (string_bytes e.0) = search rules in
    let colon : c.extend_from_slice-in-loop-name.new.self.items ≡ c.append_quoted.new.out.items ++ 58 ∷ [] = search rules in (
      done ++ e ∷ [],
      ps ++ (string_bytes e.0, told.0) ∷ [],
      all ∙ sym (append_assoc done (e ∷ []) left),
      subst (λ n. CanonMembers (members_view (done ++ e ∷ [])) (ps ++ (n, told.0) ∷ [])) plain (CanonMembers_more done e ps told.0 l.invariant.3 told.1),
      written_more c.args.out.now.items ps (string_bytes e.0) told.0 l.is_first l.out.items c.append_comma.new.out.items _ _ _ l.invariant.4 l.invariant.5 c.in_ok-append_comma.ensures quote colon told.2,
      sym (is_nil_more _ _),
    )

pub write_in_place-returns-clause-ok : goal.write_in_place-returns-clause-ok
write_in_place-returns-clause-ok t c =
    let l = c.loop-name in
    let done = l.invariant.0 in
    let ps = l.invariant.1 in
    let all : c.args.members.now.entries ≡ done = l.invariant.2 ∙ ap (λ es. done ++ es) c.in-None.ensures.steps.0 ∙ append-nil _ in
    let canon = subst (λ es. CanonMembers (members_view es) ps) (sym all) l.invariant.3 in
    (ps, ps, canon, in_place c.args.members.now.entries ps c.iter-name-items.ensures.ordered c.requires canon, c.in_ok-extend_from_slice-3.ensures.items ∙ ap (λ s. s ++ 125 ∷ []) l.invariant.4 ∙ append_assoc c.args.out.now.items (123 ∷ joined (map member_text ps)) (125 ∷ []))

pub write_sorted-write-requires : goal.write_sorted-write-requires
write_sorted-write-requires t c =
    let l = c.loop-name in
    let es = c.args.members.now.entries in
    let v = c.in-Some.member.now.now in
    let all : c.args.sorted.now.entries ≡ l.invariant.0 ++ (c.in-Some.name.now, c.in-Some.member.now) ∷ c.next.new.self = l.invariant.1 ∙ ap (λ ls. l.invariant.0 ++ ls) c.in-Some.ensures.steps in
    let small : size-Value v ≤ most size-Value (map (λ (e : Entry). e.1) es) = kept_below es c.args.sorted.now.entries l.invariant.0 (c.in-Some.name.now, c.in-Some.member.now) c.next.new.self c.requires all in
    let here : 3 * most size-Value (map (λ (e : Entry). e.1) es) + 1 ≡ t = c.decreases in
    let falls : 3 * size-Value v + 0 < t = omega (arith, small, here) in
    (falls, tt)

pub write_sorted-returns-in_err-write-clause-err : goal.write_sorted-returns-in_err-write-clause-err
write_sorted-returns-in_err-write-clause-err t c =
    let p = err_from_is_err_and c.from_residual-in_err-write.result c.from_residual-in_err-write.ensures.1 in
    let done = c.loop-name.invariant.0 in
    let e : Lent = (c.in-Some.name.now, c.in-Some.member.now) in
    let left = c.next.new.self in
    let all : c.args.sorted.now.entries ≡ done ++ e ∷ left = c.loop-name.invariant.1 ∙ ap (λ es. done ++ es) c.in-Some.ensures.steps in
    rw (p.1, p.2) (kept_hold c.in_err-write.field-0.0 c.args.members.now.entries c.args.sorted.now.entries done e left c.requires all c.in_err-write.ensures.err)

pub write_sorted-loop-name-preserved : goal.write_sorted-loop-name-preserved
write_sorted-loop-name-preserved t c =
    let l = c.loop-name in
    let done = l.invariant.0 in
    let e : Lent = (c.in-Some.name.now, c.in-Some.member.now) in
    let n : List ℕ × Value = (string_bytes e.0, e.1.now) in
    let left = c.next.new.self in
    let all : c.args.sorted.now.entries ≡ done ++ e ∷ left = l.invariant.1 ∙ ap (λ es. done ++ es) c.in-Some.ensures.steps in
    let told = c.in_ok-write.ensures.ok in
    let ps = texts_of (kept done) in
    let more : texts_of (kept (done ++ e ∷ [])) ≡ ps ++ (n.0, text_of n.1) ∷ [] = ap texts_of (kept_more done e) ∙ texts_of_more (kept done) n in
    let same = text_of-Canon e.1.now told.0 told.1 in
    let quote : c.append_quoted.new.out.items ≡ c.append_comma.new.out.items ++ quoted (string_bytes e.0) = search rules in
    let colon : c.extend_from_slice-in-loop-name.new.self.items ≡ c.append_quoted.new.out.items ++ 58 ∷ [] = search rules in (
      done ++ e ∷ [],
      all ∙ sym (append_assoc done (e ∷ []) left),
      subst AreWritten (sym (kept_more done e)) (AreWritten_more (kept done) n told.0 l.invariant.2 told.1),
      written_more c.args.out.now.items ps (string_bytes e.0) (text_of e.1.now) l.is_first l.out.items c.append_comma.new.out.items _ _ _ l.invariant.3 l.invariant.4 c.in_ok-append_comma.ensures quote colon (told.2 ∙ ap (λ s. c.extend_from_slice-in-loop-name.new.self.items ++ s) (sym same))
          ∙ ap (λ us. c.args.out.now.items ++ 123 ∷ joined (map member_text us)) (sym more),
      sym (ap is_nil more ∙ is_nil_more _ _),
    )

pub write_sorted-returns-clause-ok : goal.write_sorted-returns-clause-ok
write_sorted-returns-clause-ok t c =
    let l = c.loop-name in
    let done = l.invariant.0 in
    let sorted = c.args.sorted.now.entries in
    let all : sorted ≡ done = l.invariant.1 ∙ ap (λ es. done ++ es) c.in-None.ensures.steps.0 ∙ append-nil _ in
    let ready = written c.args.members.now.entries sorted c.requires (subst (λ ls. AreWritten (kept ls)) (sym all) l.invariant.2) in
    let out : l.out.items ≡ c.args.out.now.items ++ 123 ∷ joined (map member_text (texts_of (kept sorted))) =
    l.invariant.3 ∙ ap (λ ls. c.args.out.now.items ++ 123 ∷ joined (map member_text (texts_of (kept ls)))) (sym all) in
    (texts_of (named c.args.members.now.entries), texts_of (kept sorted), ready.0, ready.1, c.in_ok-extend_from_slice-3.ensures.items ∙ ap (λ s. s ++ 125 ∷ []) out ∙ append_assoc c.args.out.now.items (123 ∷ joined (map member_text (texts_of (kept sorted)))) (125 ∷ []))
