use Rattle.tough_ed25519.specs.Limbs.{limbs_number}
use Rattle.tough_ed25519.proofs.Modular.{times_of}
use Rattle.tough_ed25519.proofs.field.element.Element.square.Goals as goal

pub returns : goal.returns
returns c = cc (times_of (limbs_number c.self.inside.limbs) (limbs_number c.self.inside.limbs))
