use Rattle.std.proofs.Common.{◌∙◌}
use Rattle.std.proofs.Math.Nat.{mod-eq_of_lt}
use Rattle.tough_p256.proofs.Products.{entered}
use Rattle.tough_p256.proofs.element.Element.from_words.Goals as goal

pub returns : goal.returns
returns c = entered _ _ (rw c.enter.ensures at c.times_words.ensures.product) ∙ mod-eq_of_lt c.requires
