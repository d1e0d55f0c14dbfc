use Rattle.std.proofs.Common.{sym, ◌∙◌, ap}
use Rattle.tough_shared.specs.Lines.{mark}
use Rattle.tough_shared.specs.declared.line.Line.TheVariants.{End}
use Rattle.tough_shared.proofs.Adding.{looks_moves}
use Rattle.tough_shared.proofs.front.Tail.show.Goals as goal

pub compare_exchange-requires : goal.compare_exchange-requires
compare_exchange-requires g c =
    let h = c.args.head.now.word_is in
    let offer = c.plain-offer.ensures in
    let me = c.args.self.now in
    let book = c.learn.ensures.0 ∙ (ap (λ s. s.book) c.again-seen.ensures ∙ me.front.book_is) in (
      ap (λ w. w.tracked) h,
      book ∙ sym (ap (λ w. w.book) h),
      me.pen_is ∙ sym (ap (λ w. w.book) h),
      offer.0,
      rw (ap (λ w. w.key) h, offer.3) (looks_moves c.learn.new.self.log me.pen.nib (mark End 0) me.right),
    )
