use Rattle.tough_ed25519.specs.Limbs.{limbs_number}
use Rattle.tough_ed25519.proofs.Modular.{plus_of}
use Rattle.tough_ed25519.proofs.field.element.Element.add.Goals as goal

pub returns : goal.returns
returns c = cc (plus_of (limbs_number c.self.inside.limbs) (limbs_number c.other.inside.limbs))
