use Rattle.std.proofs.Common.{◌≢◌, ◌<◌, ◌∙◌, length, refl, arith, below_more, get_or-set_other, get_or-set_same, length-set}
use Rattle.std.proofs.lemmas.List.{get_or-replicate}
use Rattle.tough_p256.proofs.Blocks.{block_all}
use Rattle.tough_p256.proofs.hmac.key_block.Goals as goal

pub loop-i-init : goal.loop-i-init
loop-i-init c = record { size = refl; done = λ k h. absurd (omega arith); rest = λ k h l. get_or-replicate 64 k c.args.byte 0 l }

pub loop-i-preserved : goal.loop-i-preserved
loop-i-preserved c = record {
  size = length-set _ _ _ ∙ c.loop-i.invariant.size;
  done = below_more _ _
      (λ k h. let ne : k ≢ c.loop-i.i = omega arith in rw get_or-set_other (c.loop-i.invariant.done k h))
      (let lt : c.loop-i.i < length c.loop-i.block = omega arith in rw get_or-set_same refl);
  rest = λ k h l. let ne : k ≢ c.loop-i.i = omega arith in rw get_or-set_other (c.loop-i.invariant.rest k (omega arith) l);
}

pub returns : goal.returns
returns c =
    block_all c.loop-i.block c.args.key.now c.args.byte c.loop-i.invariant.size c.told-key
    (λ k h. c.loop-i.invariant.done k (omega arith))
    (λ k h l. c.loop-i.invariant.rest k (omega arith) l)
