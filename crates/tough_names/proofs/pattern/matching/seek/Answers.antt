use Rattle.std.proofs.Common.{◌≡◌, ◌∷◌, ◌++◌, List, chars, sym, ap, subst, ◌∙◌}
use Rattle.tough_names.specs.Glob.{Part}
use Rattle.tough_names.specs.Items.{literals, parts_of}
use Rattle.tough_names.specs.Steps.{Seeks}
use Rattle.tough_names.proofs.pattern.matching.seek.Goals as goal

pub returns-else-is_empty : goal.returns-else-is_empty
returns-else-is_empty c =
    let after = c.in-Some-Text-default.after.now in
    let items = c.in-Some-Text-default.ensures.cases.0 ∙ ap (λ x. x ∷ after) c.in-Some-Text-default.field-0-0-is in
    let parts = ap parts_of items ∙ ap (λ t. literals (chars t) ++ parts_of after) (sym c.as_str-else-is_empty.ensures.value) in
    let P : List Part → Type 0 = λ ps. Seeks ps c.args.text.now c.first_place.result in
    subst P (sym parts) (c.first_place.ensures (parts_of after))
