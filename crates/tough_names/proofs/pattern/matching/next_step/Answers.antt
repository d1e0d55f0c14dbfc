use Rattle.std.proofs.Common.{rules, ◌≡◌, ◌∷◌, ◌++◌, drop, length, IsUtf8, sym, ap, subst, ◌∙◌}
use Rattle.std.proofs.lemmas.Str.{IsUtf8-drop}
use Rattle.tough_names.proofs.Seeking.{advanced-one, advanced-text, stuck-text}
use Rattle.tough_names.proofs.Texts.{nothing_fits, fits_nothing, run_fits}
use Rattle.tough_names.proofs.pattern.matching.next_step.Goals as goal

pub returns-then-is_empty : goal.returns-then-is_empty
returns-then-is_empty c = fits_nothing c.args.items.now c.args.text.now c.in-None.ensures.cases (search rules)

pub returns-then-is_empty-2 : goal.returns-then-is_empty-2
returns-then-is_empty-2 c = run_fits c.args.items.now c.args.text.now c.in-Some-Run-default.after.now (search rules) (search rules)

pub returns-else-is_empty : goal.returns-else-is_empty
returns-else-is_empty c = nothing_fits c.args.items.now c.args.text.now c.utf8.text c.in-None.ensures.cases (search rules)

pub returns-in-Some : goal.returns-in-Some
returns-in-Some c =
    let found = c.in-Some.ensures.cases in
    let plain = c.as_str.ensures.value in
    let items = c.in-Some-Text-default.ensures.cases.0 ∙ ap (λ x. x ∷ c.in-Some-Text-default.after.now) c.in-Some-Text-default.field-0-0-is in
    let tail : c.in-Some.tail.now ≡ drop (length c.as_str.result.now) c.args.text.now = found.2 ∙ ap (λ n. drop n c.args.text.now) found.1.0 in
    advanced-text c.args.items.now c.in-Some-Text-default.after.now c.in-Some-Text-default.plain c.args.text.now c.in-Some.tail.now items
    (found.1.1 ∙ ap (λ t. c.as_str.result.now ++ t) (sym found.2) ∙ ap (λ p. p ++ c.in-Some.tail.now) plain)
    (subst IsUtf8 (sym tail) (IsUtf8-drop c.args.text.now (length c.as_str.result.now) c.utf8.text found.1.2))

pub returns-in-None-strip_prefix : goal.returns-in-None-strip_prefix
returns-in-None-strip_prefix c = stuck-text c.args.items.now c.in-Some-Text-default.after.now c.in-Some-Text-default.plain c.args.text.now (c.in-Some-Text-default.ensures.cases.0 ∙ ap (λ x. x ∷ c.in-Some-Text-default.after.now) c.in-Some-Text-default.field-0-0-is) c.utf8.text
    (λ rest e. c.in-None-strip_prefix.ensures.cases rest (e ∙ ap (λ p. p ++ rest) (sym c.as_str.ensures.value)))

pub returns-in-Some-split_first : goal.returns-in-Some-split_first
returns-in-Some-split_first c =
    advanced-one c.args.items.now c.in-Some-One-default.after.now c.in-Some-One-default.set c.args.text.now c.in-Some-split_first.tail.now c.in-Some-split_first.c (c.in-Some-One-default.ensures.cases.0 ∙ ap (λ x. x ∷ c.in-Some-One-default.after.now) c.in-Some-One-default.field-0-0-is) (sym c.contains.ensures ∙ c.if-contains.true) c.in-Some-split_first.ensures
