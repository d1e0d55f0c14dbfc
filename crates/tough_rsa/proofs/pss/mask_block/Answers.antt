use Rattle.std.proofs.Common.{◌∙◌, ◌++◌, ap, sym, List, ℕ, arith}
use Rattle.sha2.specs.Sha256.{sha256}
use Rattle.tough_rsa.proofs.Masks.{counter_bytes}
use Rattle.tough_rsa.proofs.pss.mask_block.Goals as goal

pub returns : goal.returns
returns c = c.hash_of.ensures ∙ ap (λ (bs : List ℕ). sha256 (c.args.seed.now ++ bs)) (sym (counter_bytes c.args.counter (omega arith)))
