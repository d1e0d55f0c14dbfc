use Rattle.std.proofs.Common.{◌≡◌, ◌++◌, ◌-◌, ℕ, length, take, subst}
use Rattle.std.specs.Str.{IsCharBoundary}
use Rattle.tough_names.proofs.Seeking.{sought-last, sought-no_end}
use Rattle.tough_names.proofs.pattern.matching.last_place.Goals as goal

pub returns-then-ends_with : goal.returns-then-ends_with
returns-then-ends_with c =
    let text = c.args.text.now in
    let plain = c.args.plain.now in
    let found = c.if-ends_with.ensures.cases in
    let ends : ℕ → Type 0 = λ n. text ≡ take (length text - n) text ++ plain in
    let cuts : ℕ → Type 0 = λ n. IsCharBoundary text (length text - n) in
    sought-last plain text c.utf8.plain c.utf8.text c.range_from.result.now c.range_from.ensures.value (subst cuts found.1.0 found.3) (subst ends found.1.0 found.1.1)

pub returns-else-ends_with : goal.returns-else-ends_with
returns-else-ends_with c = sought-no_end c.args.plain.now c.args.text.now c.utf8.plain c.utf8.text c.if-ends_with.ensures.cases
