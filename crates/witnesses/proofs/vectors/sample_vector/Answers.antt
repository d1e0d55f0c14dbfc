use Rattle.tough_modular.specs.Octets.{number_octets, octets_number}
use Rattle.tough_p256.specs.Ecdsa.{is_signature}
use Rattle.witnesses.proofs.vectors.sample_vector.Goals as goal

pub returns : goal.returns
unfolding is_signature number_octets octets_number
returns c = c.sample_vector.ensures
