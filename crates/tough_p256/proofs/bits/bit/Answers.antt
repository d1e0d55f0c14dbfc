use Rattle.std.proofs.Common.{ℕ, ap, ◌∙◌, nat_eq}
use Rattle.tough_p256.proofs.Places.{bit_at}
use Rattle.tough_p256.proofs.bits.bit.Goals as goal

pub returns : goal.returns
returns c = c.bit_of.ensures ∙ ap (λ (x : ℕ). nat_eq x 1) (bit_at c.args.words.now c.args.index c.fits-words)
