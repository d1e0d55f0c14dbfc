use Rattle.std.proofs.Common.{option_map, ap}
use Rattle.tough_schema.specs.Whole.{held_doc}
use Rattle.tough_schema.proofs.Ways.{turned-step, closed}
use Rattle.tough_schema.proofs.put.turn.Goals as goal

pub returns-in_default : goal.returns-in_default
returns-in_default c = λ each h. absurd (closed c.args.way.now c.loop-place.place-index c.loop-place.here c.loop-place-test.true c.in_default.not-Some (c.loop-place.invariant each).0)

pub loop-place-preserved : goal.loop-place-preserved
loop-place-preserved c = λ each.
    let before = c.loop-place.invariant each in
    turned-step c.args.way.now c.loop-place.place-index _ (held_doc c.in-Some.document) (held_doc c.exchange_below-here.new.document) (option_map held_doc c.loop-place.above) (option_map held_doc c.loop-place.here) (option_map held_doc c.exchange_below-here.result)
    _ c.loop-place-test.true c.exchange_below-here.ensures.document c.exchange_below-here.ensures.old (ap (option_map held_doc) c.in-Some.is) before
