use Rattle.std.proofs.Common.{◌+◌, sym, ap, ◌∙◌, subst}
use Rattle.tough_roles.proofs.Seen.{Looked, Goes, stands, contained, none_seen, found, noted, goes_first, goes_found, goes_noted, was_there, was_new}
use Rattle.tough_roles.proofs.verify.repeated.Goals as goal

pub loop-i-init : goal.loop-i-init
loop-i-init c = (none_seen (λ k. k.now) c.new-seen.result.keys c.new-seen.ensures.empty c.args.signatures.now, goes_first (λ k. k.now) c.new-seen.result.keys c.new-seen.ensures.empty c.args.signatures.now)

pub returns-then-not-branch : goal.returns-then-not-branch
returns-then-not-branch c =
    let seen = was_there _ _ c.in_ok-insert.ensures.added c.if-not-branch.true in
    let stood = ap (stands (λ k. k.now) c.loop-i.seen.keys) (sym c.as_slice.ensures) ∙ sym (contained (λ k. k.now) c.loop-i.seen.keys c.as_slice.result) ∙ seen in (
      c.loop-i-test.true,
      goes_found (λ k. k.now) c.loop-i.seen.keys c.args.signatures.now c.loop-i.i c.index-signatures-i.result c.loop-i-test.true c.index-signatures-i.is c.loop-i.invariant.1 stood,
      found (λ k. k.now) c.loop-i.seen.keys c.args.signatures.now c.loop-i.i c.index-signatures-i.result c.loop-i-test.true c.index-signatures-i.is c.loop-i.invariant.0 stood,
    )

pub loop-i-preserved : goal.loop-i-preserved
loop-i-preserved c =
    let unseen = was_new _ _ c.in_ok-insert.ensures.added c.if-not-branch.false in
    subst (λ ks. Looked (λ k. k.now) ks c.args.signatures.now (c.loop-i.i + 1) × Goes (λ k. k.now) ks c.args.signatures.now (c.loop-i.i + 1)) (sym c.in_ok-insert.ensures.keys) (
      noted (λ k. k.now) c.loop-i.seen.keys c.args.signatures.now c.loop-i.i c.as_slice.result c.index-signatures-i.result c.loop-i-test.true c.index-signatures-i.is c.as_slice.ensures c.loop-i.invariant.0
          (ap (stands (λ k. k.now) c.loop-i.seen.keys) (sym c.as_slice.ensures) ∙ sym (contained (λ k. k.now) c.loop-i.seen.keys c.as_slice.result) ∙ unseen),
      goes_noted (λ k. k.now) c.loop-i.seen.keys c.args.signatures.now c.loop-i.i c.as_slice.result c.index-signatures-i.result c.loop-i-test.true c.index-signatures-i.is c.as_slice.ensures c.loop-i.invariant.1
          (ap (stands (λ k. k.now) c.loop-i.seen.keys) (sym c.as_slice.ensures) ∙ sym (contained (λ k. k.now) c.loop-i.seen.keys c.as_slice.result) ∙ unseen),
    )
