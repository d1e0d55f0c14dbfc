use Rattle.std.proofs.Common.{ap, ◌∙◌, sym}
use Rattle.tough_sign.specs.Laying.{lay}
use Rattle.tough_sign.specs.declared.layout.Place.TheVariants as places
use Rattle.tough_sign.proofs.Laying.{lay-begun, lay-more, lay-ended, lay-compact}
use Rattle.tough_sign.proofs.layout.laid_out.Goals as goal

pub loop-byte-init : goal.loop-byte-init
loop-byte-init c = lay-begun places.Start 0 c.new-out.result.items c.args.text.now c.new-out.ensures.items

pub loop-byte-preserved : goal.loop-byte-preserved
loop-byte-preserved c =
    let now = c.loop-byte in
    lay-more now.place c.place_at-place.result now.depth c.depth_at-depth.result now.out.items c.put.new.out.items c.args.text.now (lay places.Start 0 c.args.text.now) now.byte-index c.loop-byte-test.true now.invariant c.in_ok-put.ensures c.place_at-place.ensures c.depth_at-depth.ensures

pub returns : goal.returns
returns c = λ d plain is.
    let now = c.loop-byte in
    lay-ended now.place now.depth now.out.items c.args.text.now (lay places.Start 0 c.args.text.now) now.byte-index c.loop-byte-test.false now.invariant ∙ ap (lay places.Start 0) (sym is) ∙ lay-compact d plain
