use Rattle.std.proofs.Common.{◌≡◌, ◌+◌, List, [], ◌∷◌, ◌++◌, Some, take, sym, ap, ◌∙◌, arith}
use Rattle.std.proofs.lemmas.List.{take_more, map-append}
use Rattle.serde_json.specs.declared.value.Value.{Value}
use Rattle.serde_json.specs.View.{view, items_view}
use Rattle.tough_json.specs.Writing.{all_json}
use Rattle.tough_json.proofs.lemmas.List.{all_json-snoc, items_view-snoc}
use Rattle.tough_roles.specs.declared.signature.Signature.{Signature}
use Rattle.tough_roles.specs.Signature.{signature_json, signature_doc, signatures_doc}
use Rattle.tough_roles.proofs.write_signed.signature_values.Goals as goal

pub loop-signature-init : goal.loop-signature-init
unfolding all_json
loop-signature-init c = ap (λ (vs : List Value). Some (items_view vs)) (sym c.new-values.ensures.items)

pub loop-signature-preserved : goal.loop-signature-preserved
loop-signature-preserved c =
    let xs = c.args.signatures.now in
    let i = c.loop-signature.signature-index in
    let x = c.signature-item.result in
    let here : take (i + 1) xs ≡ take i xs ++ x ∷ [] = take_more xs i x (omega (arith, c.loop-signature-test.true)) ∙ ap (λ y. take i xs ++ y ∷ []) (sym c.signature-item.is) in
    ap (λ (ss : List Signature). all_json signature_json (signatures_doc ss)) here
    ∙ ap (all_json signature_json) (map-append signature_doc (take i xs) (x ∷ []))
    ∙ all_json-snoc signature_json (signatures_doc (take i xs)) (signature_doc x) (items_view c.loop-signature.values.items) (view c.in_ok-value.value) c.loop-signature.invariant c.in_ok-value.ensures
    ∙ ap Some (sym (ap items_view c.in_ok-push.ensures.items ∙ items_view-snoc c.loop-signature.values.items c.in_ok-value.value))
