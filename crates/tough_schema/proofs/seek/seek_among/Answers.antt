use Rattle.std.proofs.Common.{Option, sym, ap, ◌∙◌, arith}
use Rattle.tough_schema.specs.declared.seek.Seen.{Seen}
use Rattle.tough_schema.specs.Seek.{missing}
use Rattle.tough_schema.specs.Seeking.{seen_or, sought_through, list_work}
use Rattle.tough_schema.proofs.Seeks.{seen-none, through-last, list_work-push}
use Rattle.tough_schema.proofs.seek.seek_among.Goals as goal

pub returns-in-Some-2 : goal.returns-in-Some-2
returns-in-Some-2 c =
    let rest = sought_through c.args.name.now c.seek_first.new.lists.items missing in
    ap (λ (o : Option Seen). seen_or o rest) (sym c.in-Some-2.is) ∙ c.in_ok-seen.ensures.seen
    ∙ sym (through-last c.args.name.now c.pop.new.self.items c.loop-list.lists.items c.in-Some.list c.in-Some.ensures.items) ∙ c.loop-list.invariant

pub loop-list-smaller : goal.loop-list-smaller
loop-list-smaller c =
    omega (arith, c.in_ok-seen.ensures.fewer, ap list_work c.in-Some.ensures.items, list_work-push c.pop.new.self.items c.in-Some.list)

pub loop-list-preserved : goal.loop-list-preserved
loop-list-preserved c =
    let rest = sought_through c.args.name.now c.seek_first.new.lists.items missing in
    sym (seen-none _ rest c.in_default-2.not-Some) ∙ c.in_ok-seen.ensures.seen
    ∙ sym (through-last c.args.name.now c.pop.new.self.items c.loop-list.lists.items c.in-Some.list c.in-Some.ensures.items) ∙ c.loop-list.invariant
