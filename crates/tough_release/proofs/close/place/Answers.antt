use Rattle.std.proofs.Common.{◌≡◌, ap, sym, ◌∙◌}
use Rattle.tough_schema.specs.Whole.{held_doc}
use Rattle.tough_release.specs.Holding.{is_top}
use Rattle.tough_release.proofs.Closings.{held_named, placed_below}
use Rattle.tough_release.proofs.close.place.Goals as goal

pub returns-clause-placed : goal.returns-clause-placed
returns-clause-placed c =
    let d = c.args.document in
    let named : c.as_str.result.now ≡ (held_doc d).name = c.as_str.ensures.value ∙ sym (held_named d) in
    placed_below d c.in-Some.signed c.place_below.new.targets c.args.targets.now c.place_below.result c.in-Some.is (ap is_top (sym named) ∙ (sym c.eq.ensures ∙ c.if-eq.false)) c.place_below.ensures.there c.place_below.ensures.placed
