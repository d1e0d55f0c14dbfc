use Rattle.std.proofs.Common.{◌+◌, sym, subst, ◌∙◌, drop_of_length-le}
use Rattle.tough_roles.proofs.Listing.{Fills, none_in, one_in, all_in}
use Rattle.tough_roles.proofs.verify.Listed.of.Goals as goal

pub loop-keyid-init : goal.loop-keyid-init
loop-keyid-init c = none_in (λ d. d.bytes) (λ k. k.now) c.new-bytes.result.keys c.new-bytes.ensures.empty c.args.keyids.now

pub loop-keyid-preserved : goal.loop-keyid-preserved
loop-keyid-preserved c =
    subst (λ ks. Fills (λ d. d.bytes) (λ k. k.now) ks c.args.keyids.now (c.loop-keyid.keyid-index + 1)) (sym c.in_ok-insert.ensures.keys)
    (one_in (λ d. d.bytes) (λ k. k.now) c.loop-keyid.bytes.keys c.args.keyids.now c.loop-keyid.keyid-index c.keyid-item.result c.as_slice.result c.loop-keyid-test.true c.keyid-item.is c.as_slice.ensures c.loop-keyid.invariant)

pub invariant_of-result : goal.invariant_of-result
invariant_of-result c = record {
  same = all_in (λ d. d.bytes) (λ k. k.now) c.loop-keyid.bytes.keys c.args.keyids.now c.loop-keyid.keyid-index (drop_of_length-le c.args.keyids.now c.loop-keyid-test.false) c.loop-keyid.invariant;
}
