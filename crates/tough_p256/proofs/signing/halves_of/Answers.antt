use Rattle.std.proofs.Common.{◌≡◌, ◌∙◌, ap}
use Rattle.tough_modular.specs.Octets.{octets_number, number_octets}
use Rattle.tough_p256.specs.Nonces.{generator}
use Rattle.tough_p256.proofs.Candidates.{same_halves}
use Rattle.tough_p256.proofs.signing.halves_of.Goals as goal

pub returns : goal.returns
returns c =
    let d : c.from_words-d.result ≡ octets_number c.args.secret.now = c.from_words-d.ensures ∙ c.words_of.ensures in
    let h : c.octets_of.result ≡ number_octets c.args.e.now 32 = c.octets_of.ensures ∙ ap (λ n. number_octets n 32) c.to_words.ensures.number in
    let g : c.start-start.result ≡ generator c.args.secret.now (number_octets c.args.e.now 32) = c.start-start.ensures ∙ ap (generator c.args.secret.now) h in
    c.halves_from.ensures ∙ same_halves _ _ c.args.e.now _ _ d g
