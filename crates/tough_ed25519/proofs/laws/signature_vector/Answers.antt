use Rattle.std.proofs.Common.{refl}
use Rattle.sha2.specs.Sha512.{sha512, first_words, schedule, rounds, compress, hash_after, digest_bytes}
use Rattle.tough_ed25519.specs.Bytes.{bytes_number, number_bytes}
use Rattle.tough_ed25519.specs.Field.{plus, minus, times, power, inverse}
use Rattle.tough_ed25519.specs.Coding.{encode}
use Rattle.tough_ed25519.specs.Curve.{add, double, multiple}
use Rattle.tough_ed25519.specs.Secrets.{signature_of}
use Rattle.tough_ed25519.proofs.laws.signature_vector.Goals as goal

pub returns : goal.returns
unfolding sha512 first_words schedule rounds compress hash_after digest_bytes plus minus times power inverse add double multiple encode bytes_number number_bytes signature_of
returns c = refl
