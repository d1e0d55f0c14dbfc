use Rattle.std.proofs.Common.{Some, chars, ap, ◌∙◌, sym}
use Rattle.tough_names.specs.Grammar.{parts_in}
use Rattle.tough_names.proofs.lemmas.Patterns.{parts_of-AllZip}
use Rattle.tough_names.proofs.pattern.PathPatternClone.clone.Goals as goal

pub invariant_of-result : goal.invariant_of-result
invariant_of-result c =
    ap (λ t. parts_in (chars t)) c.in_ok-clone.ensures.cases ∙ c.self.invariant
    ∙ ap Some (sym (parts_of-AllZip c.self.inside.items.items c.in_ok-clone-2.field-0.items c.in_ok-clone-2.ensures.cases.0))
