use Rattle.std.proofs.Common.{rules, sym, ap, ◌∙◌}
use Rattle.tough_keys.proofs.Lengths.{items_differ, members_differ}
use Rattle.tough_keys.proofs.equal.+same.Goals as goal

pub same_list-returns-then-a-b : goal.same_list-returns-then-a-b
same_list-returns-then-a-b t c = sym (items_differ c.args.a.now c.args.b.now c.if-a-b.true)

pub same_map-returns-then-len : goal.same_map-returns-then-len
same_map-returns-then-len t c = sym (members_differ c.args.a.now.entries c.args.b.now.entries (λ e. c.if-len.true (c.len.ensures.len ∙ (e ∙ sym c.len-2.ensures.len))))
