use Rattle.std.proofs.Common.{◌≡◌, rules, List, sym, subst}
use Rattle.serde_json.specs.View.{members_view}
use Rattle.serde_json.proofs.Views.{Entry}
use Rattle.tough_roles.specs.Orderly.{HasOrderly}
use Rattle.tough_roles.proofs.lemmas.Rising.{sorted-order}
use Rattle.tough_roles.proofs.orderly.+orderly.Goals as goal

pub has_order-returns : goal.has_order-returns
has_order-returns t c = λ _.
    let es = c.args.members.now.entries in
    let start : c.into_iter-member-iterator.result ≡ es = search rules in
    let all = λ (ms : List Entry). HasOrderly (members_view ms) in
    sorted-order es c.iter-member-items.ensures.ordered (subst all start (c.loop-member.invariant (subst all (sym c.in-None.ensures.steps.0) tt)))
