use Rattle.std.proofs.Common.{refl}
use Rattle.sha2.specs.Sha256.{sha256, first_words, schedule, rounds, compress, hash_after, digest_bytes}
use Rattle.tough_modular.specs.Octets.{octets_number, number_octets}
use Rattle.tough_p256.specs.Field.{plus, minus, times, square, power, inverse}
use Rattle.tough_p256.specs.Order as order
use Rattle.tough_p256.specs.Curve.{is_on_curve, add, double, multiple}
use Rattle.tough_p256.specs.Ecdsa.{has_x, ecdsa_verifies, is_signature}
use Rattle.tough_p256.specs.Hmac.{hmac}
use Rattle.tough_p256.specs.Signing.{public_key, halves_from, ecdsa_signature}
use Rattle.tough_p256.proofs.laws.signature_vectors.Goals as goal

pub returns-clause-sample : goal.returns-clause-sample
unfolding sha256 first_words schedule rounds compress hash_after digest_bytes octets_number number_octets plus minus times square power inverse order.sum order.product order.power order.inverse is_on_curve add double multiple has_x ecdsa_verifies is_signature hmac public_key halves_from ecdsa_signature
returns-clause-sample c = refl

pub returns-clause-test : goal.returns-clause-test
unfolding sha256 first_words schedule rounds compress hash_after digest_bytes octets_number number_octets plus minus times square power inverse order.sum order.product order.power order.inverse is_on_curve add double multiple has_x ecdsa_verifies is_signature hmac public_key halves_from ecdsa_signature
returns-clause-test c = refl
