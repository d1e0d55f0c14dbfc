use Rattle.tough_ed25519.specs.Limbs.{limbs_number}
use Rattle.tough_ed25519.proofs.Modular.{minus_of}
use Rattle.tough_ed25519.proofs.field.element.Element.sub.Goals as goal

pub returns : goal.returns
returns c = cc (minus_of (limbs_number c.self.inside.limbs) (limbs_number c.other.inside.limbs) (limbs_number c.sub.result) c.sub.ensures.difference)
