use Rattle.std.proofs.Common.{◌≡◌, ◌≢◌, ◌+◌, ◌/◌, ◌<◌, length, refl, arith, below_more, get_or-set_other, get_or-set_same}
use Rattle.tough_modular.proofs.Numbers.{rest_more, at_rest}
use Rattle.tough_rsa.proofs.Masks.{unmasked_all}
use Rattle.tough_rsa.proofs.pss.unmask.Goals as goal

pub loop-i-init : goal.loop-i-init
loop-i-init c = record { done = λ k h. absurd (omega arith); rest = refl; block = λ h. absurd (h refl) }

pub loop-i-preserved : goal.loop-i-preserved
loop-i-preserved c =
    let b = c.block_for-block.ensures c.loop-i.invariant.block in
    let a = at_rest c.loop-i.masked c.args.masked.now c.loop-i.i c.loop-i.invariant.rest in
    record {
      done = below_more _ _
          (λ k h. let ne : k ≢ c.loop-i.i = omega arith in rw get_or-set_other (c.loop-i.invariant.done k h))
          (let lt : c.loop-i.i < length c.loop-i.masked = omega arith in rw get_or-set_same (rw (a, b) refl));
      rest = rest_more c.loop-i.masked c.args.masked.now c.loop-i.i _ c.loop-i.invariant.rest;
      block = λ h. let e : (c.loop-i.i + 1) / 32 ≡ c.loop-i.i / 32 = omega arith in rw e b;
    }

pub returns : goal.returns
returns c = unmasked_all c.loop-i.masked c.args.masked.now c.args.seed.now c.loop-i.i c.loop-i.auto.masked (omega arith) (λ k h l. c.loop-i.invariant.done k h)
