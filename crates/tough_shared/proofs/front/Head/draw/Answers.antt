use Rattle.std.proofs.Common.{sym, ◌∙◌, ap}
use Rattle.tough_shared.specs.Lines.{mark}
use Rattle.tough_shared.specs.declared.line.Line.TheVariants.{End}
use Rattle.tough_shared.proofs.Adding.{draws_moves}
use Rattle.tough_shared.proofs.front.Head.draw.Goals as goal

pub compare_exchange-requires : goal.compare_exchange-requires
compare_exchange-requires g c =
    let h = c.args.self.now.word_is in
    let offer = c.plain-offer.ensures in
    let pen = c.no_pen-pen.ensures in
    let book = ap (λ s. s.book) c.again-seen.ensures ∙ c.args.front.now.book_is in (
      ap (λ w. w.tracked) h,
      book ∙ sym (ap (λ w. w.book) h),
      pen.0 ∙ (book ∙ sym (ap (λ w. w.book) h)),
      offer.0,
      rw (ap (λ w. w.key) h, pen.1, offer.3) (draws_moves c.again-seen.result.log (mark End 0)),
    )
