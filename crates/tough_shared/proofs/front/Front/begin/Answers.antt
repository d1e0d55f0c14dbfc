use Rattle.std.proofs.Common.{sym, ◌∙◌, ap}
use Rattle.tough_shared.specs.Lines.{mark}
use Rattle.tough_shared.specs.declared.line.Line.TheVariants.{Begun}
use Rattle.tough_shared.proofs.Adding.{opens_moves}
use Rattle.tough_shared.proofs.front.Front.begin.Goals as goal

pub compare_exchange-found-requires : goal.compare_exchange-found-requires
compare_exchange-found-requires g c =
    let h = c.args.head.now.word_is in
    let offer = c.plain-offer.ensures in
    let pen = c.no_pen-pen.ensures in
    let book = c.args.self.book_is in (
      ap (λ w. w.tracked) h,
      book ∙ sym (ap (λ w. w.book) h),
      pen.0 ∙ (book ∙ sym (ap (λ w. w.book) h)),
      offer.0,
      rw (ap (λ w. w.key) h, pen.1, offer.1, offer.3, c.requires) (opens_moves (mark (Begun (g.S.Store.changes c.args.store.now)) c.draw-next.result.nib.key)),
    )
