use Rattle.std.proofs.Common.{sym, ◌∙◌, ap}
use Rattle.tough_shared.specs.Lines.{mark, line_added}
use Rattle.tough_shared.specs.Rules.{turn_of}
use Rattle.tough_shared.proofs.Adding.{adds_moves, turn-push, push-some}
use Rattle.tough_shared.proofs.front.Tail.add.Goals as goal

pub compare_exchange-requires : goal.compare_exchange-requires
compare_exchange-requires g c =
    let h = c.args.head.now.word_is in
    let offer = c.plain-offer.ensures in
    let me = c.args.self.now in
    let log = ap (λ s. s.log) c.again-seen.ensures in
    let book = ap (λ s. s.book) c.again-seen.ensures ∙ me.front.book_is in (
      ap (λ w. w.tracked) h,
      book ∙ sym (ap (λ w. w.book) h),
      me.pen_is ∙ sym (ap (λ w. w.book) h),
      offer.0,
      rw (ap (λ w. w.key) h, offer.1, offer.3, log) (adds_moves me.front.seen.log me.pen.nib (mark (line_added c.args.line.now) c.draw-next.result.nib.key) me.some me.right me.key me.turn c.requires),
    )

pub invariant_of-self-2 : goal.invariant_of-self-2
invariant_of-self-2 g c =
    let offer = c.plain-offer.ensures in
    let added = c.compare_exchange.ensures.7 in
    record {
      some = λ e. push-some c.again-seen.result.log c.plain-offer.result.ask (sym added ∙ e);
      pen_is = c.draw-next.ensures.book;
      right = c.draw-next.ensures.right;
      key = c.draw-next.ensures.key;
      turn = ap turn_of added ∙ (turn-push c.again-seen.result.log c.plain-offer.result.ask ∙ ap (λ m. m.next) offer.1);
    }
