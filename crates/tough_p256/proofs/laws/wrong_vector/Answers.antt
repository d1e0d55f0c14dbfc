use Rattle.std.proofs.Common.{refl}
use Rattle.sha2.specs.Sha256.{sha256, first_words, schedule, rounds, compress, hash_after, digest_bytes}
use Rattle.tough_p256.specs.Field.{plus, minus, times}
use Rattle.tough_p256.specs.Order.{product, power, inverse}
use Rattle.tough_p256.specs.Curve.{is_on_curve, add, double, multiple}
use Rattle.tough_modular.specs.Octets.{octets_number}
use Rattle.tough_p256.specs.Ecdsa.{has_x, ecdsa_verifies}
use Rattle.tough_p256.proofs.laws.wrong_vector.Goals as goal

pub returns : goal.returns
unfolding sha256 first_words schedule rounds compress hash_after digest_bytes plus minus times product power inverse is_on_curve add double multiple octets_number has_x ecdsa_verifies
returns c = refl
